use Rattle.std.proofs.Common.{arith, ◌≡◌, ◌≤◌, false, true, [], length, take, drop, is_some, ap, refl, sym, ◌∙◌, subst}
use Rattle.git_pkt.specs.Passed.{begins_band}
use Rattle.git_pkt.specs.Machine.PacketReader.{bytes_held, rest_of}
use Rattle.git_pkt.specs.Machine.PacketReaderSteps.{IsShown, Moves}
use Rattle.git_pkt.specs.declared.progress.Progress.{Progress}
use Rattle.git_pkt.specs.declared.progress.Progress.TheVariants.{Open, Whole, Failed}
use Rattle.std.proofs.lemmas.List.{length-take-le}
use Rattle.git_pkt.proofs.OpenLengths.{shut_rises}
use Rattle.git_pkt.proofs.BandCarries.{may_pass_shut}
use Rattle.git_pkt.proofs.BandSteps.{bands_after, failed_goes, hold_band, none_longer, open_free, open_goes, open_rises, rest_long, whole_comes, whole_free}
use Rattle.git_pkt.proofs.reader.PacketReader.after_five.Goals as goal

pub returns-then-is_some-clause-moves : goal.returns-then-is_some-clause-moves
returns-then-is_some-clause-moves c =
    bands_after c.args.self.now c.begin_passing-left.new.self c.pass.new.self [] c.args.chunk.now c.args.chunk.now c.pass.result.used c.pass.result.used
    refl (omega arith) (omega (arith, c.begin_passing-left.ensures.rises)) c.begin_passing-left.ensures.goes c.pass.result.progress c.pass.ensures.moves

pub returns-in-Open-clause-moves : goal.returns-in-Open-clause-moves
returns-in-Open-clause-moves c =
    let u = take c.step-step.result.used c.args.chunk.now in
    let moves : Moves c.args.self.now u Open c.step-step.new.self =
    subst (λ (p : Progress). Moves c.args.self.now u p c.step-step.new.self) c.in-Open.is c.step-step.ensures.moves in
    let fits : bytes_held c.step-step.new.self ≤ 65520 = omega (arith, c.len.ensures.value, c.len.ensures.fits) in
    let five : 5 ≤ length (rest_of c.args.self.now) = omega (arith, rest_long c.args.self.now, c.requires.five) in
    let unbanded : begins_band (drop 4 (rest_of c.args.self.now)) ≡ false =
    ap is_some (hold_band c.args.self.now c.requires.five) ∙ ap is_some (sym c.band.ensures.value) ∙ sym c.is_some.ensures ∙ c.if-is_some.false in
    record {
      passes = open_free c.args.self.now c.step-step.new.self u fits c.requires.sound c.requires.gathers unbanded five moves;
      rises = open_rises c.args.self.now c.step-step.new.self u fits c.requires.sound c.requires.gathers unbanded c.step-step.result.used
          (length-take-le c.step-step.result.used c.args.chunk.now c.step-step.ensures.used) moves;
      comes = record {
        all = c.step-step.ensures.all c.in-Open.is;
        no_fault = moves.arrives.no_fault;
        goes = open_goes c.args.self.now c.step-step.new.self u fits c.requires.sound c.requires.gathers unbanded moves
            (none_longer c.args.self.now c.step-step.new.self u fits c.requires.sound c.requires.gathers unbanded five);
      };
    }

pub returns-in-Whole-clause-moves : goal.returns-in-Whole-clause-moves
returns-in-Whole-clause-moves c =
    let u = take c.step-step.result.used c.args.chunk.now in
    let moves : Moves c.args.self.now u Whole c.step-step.new.self =
    subst (λ (p : Progress). Moves c.args.self.now u p c.step-step.new.self) c.in-Whole.is c.step-step.ensures.moves in
    let fits : bytes_held c.step-step.new.self ≤ 65520 = omega (arith, c.len.ensures.value, c.len.ensures.fits) in
    let five : 5 ≤ length (rest_of c.args.self.now) = omega (arith, rest_long c.args.self.now, c.requires.five) in
    let unbanded : begins_band (drop 4 (rest_of c.args.self.now)) ≡ false =
    ap is_some (hold_band c.args.self.now c.requires.five) ∙ ap is_some (sym c.band.ensures.value) ∙ sym c.is_some.ensures ∙ c.if-is_some.false in
    record {
      passes = may_pass_shut c.step-step.new.self moves.arrives.closed;
      rises = shut_rises c.step-step.new.self _ moves.arrives.closed;
      comes = whole_comes c.args.self.now c.step-step.new.self u fits c.requires.sound c.requires.gathers unbanded c.args.chunk.now c.step-step.result.used
          refl c.step-step.ensures.used moves
          (whole_free c.args.self.now c.step-step.new.self u fits c.requires.sound c.requires.gathers unbanded five moves);
    }

pub returns-in-Failed-clause-moves : goal.returns-in-Failed-clause-moves
returns-in-Failed-clause-moves c =
    let u = take c.step-step.result.used c.args.chunk.now in
    let moves : Moves c.args.self.now u (Failed c.in-Failed.fault) c.step-step.new.self =
    subst (λ (p : Progress). Moves c.args.self.now u p c.step-step.new.self) c.in-Failed.is c.step-step.ensures.moves in
    let fits : bytes_held c.step-step.new.self ≤ 65520 = omega (arith, c.len.ensures.value, c.len.ensures.fits) in
    let five : 5 ≤ length (rest_of c.args.self.now) = omega (arith, rest_long c.args.self.now, c.requires.five) in
    let unbanded : begins_band (drop 4 (rest_of c.args.self.now)) ≡ false =
    ap is_some (hold_band c.args.self.now c.requires.five) ∙ ap is_some (sym c.band.ensures.value) ∙ sym c.is_some.ensures ∙ c.if-is_some.false in
    record {
      passes = may_pass_shut c.step-step.new.self moves.arrives.closed;
      rises = shut_rises c.step-step.new.self _ moves.arrives.closed;
      comes = record {
        announced = moves.arrives.announced;
        shown = subst (λ (p : Progress). IsShown p c.step-step.result.used c.args.chunk.now) c.in-Failed.is c.step-step.ensures.shown;
        goes = failed_goes c.args.self.now c.step-step.new.self u fits c.requires.sound c.requires.gathers unbanded c.in-Failed.fault moves
            (none_longer c.args.self.now c.step-step.new.self u fits c.requires.sound c.requires.gathers unbanded five);
      };
    }

pub returns-then-is_some-clause-keeps : goal.returns-then-is_some-clause-keeps
returns-then-is_some-clause-keeps c = λ free none.
    let banded : begins_band (drop 4 (rest_of c.args.self.now)) ≡ true =
    ap is_some (hold_band c.args.self.now c.requires.five) ∙ ap is_some (sym c.band.ensures.value) ∙ sym c.is_some.ensures ∙ c.if-is_some.true in
    absurd (cc)

pub returns-in-Open-clause-keeps : goal.returns-in-Open-clause-keeps
returns-in-Open-clause-keeps c = λ free. c.step-step.ensures.keeps

pub returns-in-Whole-clause-keeps : goal.returns-in-Whole-clause-keeps
returns-in-Whole-clause-keeps c = λ free. c.step-step.ensures.keeps

pub returns-in-Failed-clause-keeps : goal.returns-in-Failed-clause-keeps
returns-in-Failed-clause-keeps c = λ free. c.step-step.ensures.keeps
