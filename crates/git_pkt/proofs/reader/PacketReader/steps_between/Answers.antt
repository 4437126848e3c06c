use Rattle.std.proofs.Common.{arith, refl, ◌<◌, ◌+◌, ◌-◌, ℕ, List, ◌++◌, length, take, drop, ap, ◌∙◌, subst, length-append}
use Rattle.std.proofs.lemmas.List.{length-take-le, take-append-drop}
use Rattle.git_pkt.specs.Machine.BandReader.{BandMoves}
use Rattle.git_pkt.specs.declared.progress.BandProgress.{BandProgress}
use Rattle.git_pkt.specs.declared.progress.BandProgress.TheVariants.{Empty}
use Rattle.git_pkt.proofs.Chunks.{left_of}
use Rattle.git_pkt.proofs.BandCarries.{bands_stay}
use Rattle.git_pkt.proofs.BandSteps.{bands_after}
use Rattle.git_pkt.proofs.reader.PacketReader.steps_between.Goals as goal

pub loop-used-init : goal.loop-used-init
loop-used-init c = record {
  within = omega arith;
  sound = c.requires.sound;
  passes = c.requires.passes;
  rises = omega arith;
  keeps = λ none. refl;
  goes = bands_stay c.args.self.now;
  cost = record { rises = omega arith; within = omega arith };
}

pub loop-used-preserved : goal.loop-used-preserved
loop-used-preserved c =
    let done = c.loop-used.used in
    let chunk = c.args.chunk.now in
    let left = left_of chunk done c.loop-used.invariant.within in
    let moves : BandMoves c.args.self.now chunk (done + c.next_band-step.result.used) Empty c.next_band-step.new.self =
    subst (λ (p : BandProgress). BandMoves c.args.self.now chunk (done + c.next_band-step.result.used) p c.next_band-step.new.self) c.in-Empty.is
    (bands_after c.args.self.now c.loop-used.self c.next_band-step.new.self (take done chunk) _ chunk c.next_band-step.result.used
    (done + c.next_band-step.result.used) (ap (λ (l : List ℕ). take done chunk ++ l) left ∙ take-append-drop done chunk)
    (omega (arith, length-take-le done chunk c.loop-used.invariant.within))
    (omega (arith, c.loop-used.invariant.rises, length-take-le done chunk c.loop-used.invariant.within)) c.loop-used.invariant.goes
    c.next_band-step.result.progress
    c.next_band-step.ensures.moves) in
    let some : 0 < c.next_band-step.result.used =
    (subst (λ (p : BandProgress). BandMoves c.loop-used.self (take (length chunk - done) (drop done chunk)) c.next_band-step.result.used p
    c.next_band-step.new.self) c.in-Empty.is
    c.next_band-step.ensures.moves).comes.some in
    record {
      within = omega (
        arith,
        ap length left,
        length-take-le done chunk c.loop-used.invariant.within,
        length-append (take done chunk) (drop done chunk),
        ap length (take-append-drop done chunk),
        c.next_band-step.ensures.used,
      );
      sound = moves.comes.no_fault;
      passes = moves.passes;
      rises = moves.rises;
      keeps = λ none. absurd (omega (arith, none, moves.comes.some));
      goes = moves.comes.goes;
      cost = record {
        rises = omega (arith, c.loop-used.invariant.cost.rises, c.next_band-step.ensures.cost.rises);
        within = omega (arith, c.loop-used.invariant.cost.within, c.next_band-step.ensures.cost.within, some);
      };
    }

pub returns-in_default : goal.returns-in_default
returns-in_default c =
    let done = c.loop-used.used in
    let chunk = c.args.chunk.now in
    let left = left_of chunk done c.loop-used.invariant.within in
    record {
      used = omega (
        arith,
        ap length left,
        length-take-le done chunk c.loop-used.invariant.within,
        length-append (take done chunk) (drop done chunk),
        ap length (take-append-drop done chunk),
        c.next_band-step.ensures.used,
      );
      some = c.in_default.not-Empty;
      moves = bands_after c.args.self.now c.loop-used.self c.next_band-step.new.self (take done chunk) _ chunk c.next_band-step.result.used
          (done + c.next_band-step.result.used) (ap (λ (l : List ℕ). take done chunk ++ l) left ∙ take-append-drop done chunk)
          (omega (arith, length-take-le done chunk c.loop-used.invariant.within))
          (omega (arith, c.loop-used.invariant.rises, length-take-le done chunk c.loop-used.invariant.within)) c.loop-used.invariant.goes
          c.next_band-step.result.progress
          c.next_band-step.ensures.moves;
      keeps = λ none. c.next_band-step.ensures.keeps (omega arith) ∙ c.loop-used.invariant.keeps (omega arith);
      cost = record {
        rises = omega (arith, c.loop-used.invariant.cost.rises, c.next_band-step.ensures.cost.rises);
        within = omega (arith, c.loop-used.invariant.cost.within, c.next_band-step.ensures.cost.within);
      };
    }
