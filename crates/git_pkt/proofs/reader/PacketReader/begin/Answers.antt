use Rattle.std.proofs.Common.{zero-add, ℕ, subst, arith, ◌≡◌, ◌+◌, ◌≤◌, length, take, refl, ◌∙◌}
use Rattle.std.proofs.lemmas.List.{length-take-le}
use Rattle.git_pkt.specs.Faults.{FirstBadDigit}
use Rattle.git_pkt.specs.Machine.AnnouncesDigits.{AnnouncesDigits}
use Rattle.git_pkt.specs.declared.digits.Digits.TheVariants.{Number}
use Rattle.git_pkt.proofs.Gathered.{begun_whole, bad_digit_ends, bad_digit_of_take, field_ends, digits_of_take, number_of_take, allowed_unrefused}
use Rattle.git_pkt.specs.declared.progress.Progress.TheVariants.{Whole}
use Rattle.git_pkt.proofs.ReaderMoves.{stopped_between, moves_from, rest_of_shut}
use Rattle.git_pkt.proofs.reader.PacketReader.begin.Goals as goal

pub returns-in-Bad-clause-moves : goal.returns-in-Bad-clause-moves
returns-in-Bad-clause-moves c =
    let bad : FirstBadDigit c.args.chunk.now c.in-Bad.at = c.in-Bad.ensures.digits in
    let within : c.in-Bad.at + 1 ≤ length c.args.chunk.now = omega (arith, bad.there) in
    let taken : length (take (c.in-Bad.at + 1) c.args.chunk.now) ≡ c.in-Bad.at + 1 = length-take-le _ _ within in
    stopped_between _ _ _ _ _ _ _ c.requires.between c.stop-fault.ensures.announced (omega arith)
    (bad_digit_ends _ c.in-Bad.at _ _ _ (bad_digit_of_take _ _ bad) taken refl)

pub returns-in-Some-clause-moves : goal.returns-in-Some-clause-moves
returns-in-Some-clause-moves c =
    let head : AnnouncesDigits c.args.chunk.now (Number c.in-Number.field) = c.in-Number.ensures.digits in
    let taken : length (take 4 c.args.chunk.now) ≡ 4 = length-take-le _ _ c.requires.digits in
    stopped_between _ _ _ _ _ _ _ c.requires.between c.stop-fault-in-Some.ensures.announced (omega arith)
    (field_ends _ c.in-Number.field _ _ _ _ (digits_of_take _ 4 (omega arith) c.requires.digits head.0)
    (number_of_take _ 4 (omega arith) c.requires.digits ∙ head.1) c.in-Some.ensures.field taken refl)

pub returns-clause-moves : goal.returns-clause-moves
returns-clause-moves c =
    let head : AnnouncesDigits c.args.chunk.now (Number c.in-Number.field) = c.in-Number.ensures.digits in
    let within : c.min-used.result ≤ length c.args.chunk.now = omega arith in
    let taken : length (take c.min-used.result c.args.chunk.now) ≡ c.min-used.result = length-take-le _ _ within in
    let held : c.truncate.new.self.items ≡ take c.min-used.result c.args.chunk.now =
    c.truncate.ensures.items ∙ subst (λ (n : ℕ). take n c.place.new.hold.items ≡ take c.min-used.result c.args.chunk.now)
    (zero-add (length (take c.min-used.result c.args.chunk.now)) ∙ taken) c.place.ensures.placed in
    moves_from c.args.self.now _ _ _ Whole (rest_of_shut c.args.self.now c.requires.between) (omega arith) (record {
      no_fault = c.requires.sound;
      closed = c.requires.between;
      held = held;
      whole = begun_whole _ _ c.in-Number.field within head.0 head.1
          (allowed_unrefused _ _ c.field_fault.ensures.field (λ kind e. c.in_default.not-Some kind e)) (omega arith);
    })
