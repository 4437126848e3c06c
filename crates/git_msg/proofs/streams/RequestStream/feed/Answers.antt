use Rattle.std.proofs.Common.{◌≡◌, ◌+◌, ◌<◌, ◌⊎◌, ℕ, inl, inr, subst, true, false, length, append-nil, length-drop, arith, ap, sym, ◌∙◌, rules}
use Rattle.git_pkt.proofs.Credits.{paid_on}
use Rattle.git_pkt.proofs.Chunks.{left_of}
use Rattle.git_msg.specs.Memory.{FaultNeedsRefusal}
use Rattle.git_msg.specs.Machine.RequestStreams.{fault_of, wants_input}
use Rattle.git_msg.proofs.StreamSteps.{counts_further, leaves_further, reads_further, shows_further, steps_with}
use Rattle.git_msg.proofs.streams.RequestStream.feed.Goals as goal

true_not_false : true ≡ false → ⊥
true_not_false e = cc

more_used : (done used : ℕ) (P : Type 0) → 0 < used ⊎ P → 0 < done + used ⊎ P
more_used done used P (inl some) = inl (omega arith)
more_used done used P (inr h) = inr h

pub loop-used-preserved : goal.loop-used-preserved
loop-used-preserved g c = search (rules, steps_with, left_of, length-drop, append-nil, reads_further, true_not_false)

pub returns-in_default-got : goal.returns-in_default-got
returns-in_default-got g c =
    let old = c.args.self.now in
    let mid = c.loop-used.self in
    let new = c.step-step.new.self in
    let done = c.loop-used.used in
    let chunk = c.args.chunk.now in
    let read = c.step-step.result in
    let was = c.loop-used.invariant in
    let loud : wants_input mid ≡ true = sym c.wants_input.ensures ∙ c.if-wants_input.true in
    let steps = c.step-step.ensures.steps in
    record {
      used = omega (arith, c.step-step.ensures.used, ap length (left_of chunk done was.within), length-drop done chunk);
      feeds = record {
        reads = reads_further old mid new chunk done was.within read.used read.got steps was.reads;
        counts = counts_further old mid new chunk done was.within read.used read.got steps was.reads;
        leaves = leaves_further old mid new chunk _ done read.used read.got c.in_default-got.not-More steps.leaves;
        news = λ fault none is. shows_further old mid new chunk done was.within read.used read.got steps loud fault is;
        stays = λ quiet. absurd (true_not_false (sym loud ∙ was.same ∙ quiet));
        offer = steps.offer ∙ was.offer;
        limit = steps.limit ∙ was.limit;
      };
      moves = λ loud_at_first some. more_used done read.used _ c.step-step.ensures.moves;
      memory = λ h. subst (λ (most : ℕ). FaultNeedsRefusal g.A.Memory.refuses most (fault_of new)) was.limit c.step-step.ensures.memory;
      cost = paid_on _ _ _ _ _ _ _ _ (was.paid loud c.loop-used-test.true) was.cost c.step-step.ensures.cost;
    }
