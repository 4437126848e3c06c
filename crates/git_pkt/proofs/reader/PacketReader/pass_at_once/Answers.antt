use Rattle.std.proofs.Common.{arith, ◌≡◌, ◌≤◌, length, take, drop, Some, ap, refl, sym, ◌∙◌}
use Rattle.std.proofs.lemmas.List.{length-take}
use Rattle.git_pkt.specs.Machine.HeldPacket.{IsWhole}
use Rattle.git_pkt.specs.Passed.{band_in}
use Rattle.git_pkt.specs.Machine.AnnouncesDigits.{AnnouncesDigits}
use Rattle.git_pkt.specs.declared.digits.Digits.TheVariants.{Number}
use Rattle.git_pkt.proofs.Gathered.{begun_whole}
use Rattle.git_pkt.proofs.BandCarries.{band_of_take}
use Rattle.git_pkt.proofs.BandPasses.{at_once_moves}
use Rattle.git_pkt.proofs.reader.PacketReader.pass_at_once.Goals as goal

pub returns-clause-moves : goal.returns-clause-moves
returns-clause-moves c =
    let field = c.in-Number.field in
    let chunk = c.args.chunk.now in
    let head : AnnouncesDigits chunk (Number field) = c.in-Number.ensures.digits in
    let within : field ≤ length chunk = omega arith in
    let whole : IsWhole (take field chunk) field =
    begun_whole chunk field field within head.0 head.1 (record { not_three = λ e. omega (arith, e); fits = omega arith }) (omega arith) in
    let band : band_in (drop 4 (take field chunk)) ≡ Some c.in-Some.band =
    band_of_take field chunk (omega arith) within ∙ sym c.band_of.ensures ∙ c.in-Some.is in
    at_once_moves c.args.self.now _ chunk field c.in-Some.band c.requires.sound c.requires.between within whole (omega arith) band refl refl
    (omega (arith, ap length c.truncate.ensures.items, length-take 5 c.args.self.now.hold.items))
