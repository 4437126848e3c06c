use Rattle.std.proofs.Common.{refl, inl, inr}
use Rattle.git2show_lib.specs.Machine.Checker.{needed_of}
use Rattle.git2show_lib.proofs.JudgingCalls.{needs_so, over_done, reaches_used, stays_done_so}
use Rattle.git2show_lib.proofs.judging.JudgingMachine.feed.Goals as goal

pub returns-clause-some : goal.returns-clause-some
returns-clause-some g c = λ some.
    let needs = needs_so c.requires.stream (needed_of c.args.self.now.checker) c.requires.is c.stream_of.ensures c.requires.needs in
    elim (c.feed.ensures.moves needs some) [
      | inl used ↦ inl used
      | inr over ↦ inr (over_done c.feed.new.self over)
    ]

pub returns-clause-reaches : goal.returns-clause-reaches
returns-clause-reaches g c =
    reaches_used c.args.self.now _ c.requires.all_given refl c.requires.stream c.requires.is c.stream_of.ensures c.feed.ensures.carries
    c.feed.ensures.stays_opened

pub returns-clause-done : goal.returns-clause-done
returns-clause-done g c = stays_done_so c.args.self.now.checker c.feed.new.self c.feed.ensures.stays_done
