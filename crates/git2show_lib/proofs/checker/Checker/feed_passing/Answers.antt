use Rattle.std.proofs.Common.{◌≡◌, ◌+◌, ◌≤◌, ℕ, Option, Result, min, length, refl, false, ap, subst, Ok, Err, Some, None, arith, rules, inl}
use Rattle.std.proofs.lemmas.List.{take_all}
use Rattle.git_pkt.specs.Machine.PacketReader.{position_of}
use Rattle.git_pkt.specs.declared.fault.Fault.{Fault}
use Rattle.git_client.specs.Parts.{Terms}
use Rattle.git2show_lib.specs.Machine.OtherAnswers.{PassesChunk}
use Rattle.git2show_lib.specs.declared.checker.Turn.TheVariants.{Passing}
use Rattle.git2show_lib.proofs.CheckerStands.{check_of, over_as, reads_as, stands_as, still_open, stood}
use Rattle.git2show_lib.proofs.CheckerResponses.{passed_so, passes_further, passes_not, passes_whole}
use Rattle.git2show_lib.proofs.checker.Checker.feed_passing.Goals as goal

pub returns-in-Ok-Some-clause-carries : goal.returns-in-Ok-Some-clause-carries
returns-in-Ok-Some-clause-carries g c t limit requests responses lent k =
    let was = stood c.args.self.now Passing c.requires.turn k in
    let ending = ap (λ (terms : Terms). terms.ending) k.terms in
    let step = passed_so t _ c.pass_chunk.result (Ok (Some c.in-Ok-Some.used)) c.args.self.now.packets c.pass_chunk.new.packets c.args.chunk.now ending (cc)
    c.pass_chunk.ensures in
    let now : c.saturating_add-self.result ≡ min (c.args.self.now.passed + position_of c.pass_chunk.new.packets) 18446744073709551615 = search rules in
    reads_as _ refl (check_of k) (passes_whole was step now) was.read.alone

pub returns-in-Ok-None-clause-carries : goal.returns-in-Ok-None-clause-carries
returns-in-Ok-None-clause-carries g c t limit requests responses lent k =
    let was = stood c.args.self.now Passing c.requires.turn k in
    let ending = ap (λ (terms : Terms). terms.ending) k.terms in
    let step = passed_so t _ c.pass_chunk.result (Ok None) c.args.self.now.packets c.pass_chunk.new.packets c.args.chunk.now ending (cc)
    c.pass_chunk.ensures in
    let on = passes_further was step in
    let bound : length c.args.chunk.now ≤ length c.args.chunk.now = omega arith in
    rw (take_all (length c.args.chunk.now) c.args.chunk.now bound) (stands_as _ Passing c.requires.turn (check_of k) on)

pub returns-in-Err-clause-carries : goal.returns-in-Err-clause-carries
returns-in-Err-clause-carries g c t limit requests responses lent k =
    let was = stood c.args.self.now Passing c.requires.turn k in
    let ending = ap (λ (terms : Terms). terms.ending) k.terms in
    let step = passed_so t _ c.pass_chunk.result (Err c.in-Err.fault) c.args.self.now.packets c.pass_chunk.new.packets c.args.chunk.now ending (cc)
    c.pass_chunk.ensures in
    let over = passes_not was c.place-place.result c.place-place.ensures c.in-Err.fault step _ _ in
    let bound : length c.args.chunk.now ≤ length c.args.chunk.now = omega arith in
    rw (take_all (length c.args.chunk.now) c.args.chunk.now bound)
    (over_as _ _ false c.refused-self.ensures (still_open c.args.self.now Passing c.requires.turn (λ none. absurd (cc))) (check_of k) over)

pub returns-in-Ok-Some-clause-moves : goal.returns-in-Ok-Some-clause-moves
returns-in-Ok-Some-clause-moves g c some =
    let is : c.pass_chunk.result ≡ Ok (Some c.in-Ok-Some.used) = (cc) in
    inl (subst (λ (passed : Result (Option ℕ) Fault). PassesChunk c.args.self.now.ending passed c.args.self.now.packets c.pass_chunk.new.packets
    c.args.chunk.now) is c.pass_chunk.ensures).some
