use Rattle.std.proofs.Common.{rules, ◌++◌, ◌⊎◌, ◌<◌, inl, inr, ℕ, List, ◌≡◌, ◌+◌, ◌-◌, true, false}
use Rattle.std.proofs.Common.{take, drop, length, arith, subst, ap, sym, ◌∙◌, [], length-drop}
use Rattle.git_pkt.proofs.Credits.{paid_on}
use Rattle.git_pkt.proofs.Chunks.{left_of, take_joined}
use Rattle.git_server.specs.Machine.LatePacks.{state_with}
use Rattle.git_server.specs.Machine.ServerCalls.{Goes}
use Rattle.git_server.specs.Machine.Server.{wants_input}
use Rattle.git_server.proofs.Going.{goes_join, goes_nowhere, open_in_time}
use Rattle.git_server.proofs.server.Server.feed.Goals as goal

true_not_false : true ≡ false → ⊥
true_not_false e = cc

more_used : (done used : ℕ) (P : Type 0) → 0 < used ⊎ P → 0 < done + used ⊎ P
more_used done used P (inl some) = inl (omega arith)
more_used done used P (inr h) = inr h

pub returns-else-wants_input-clause-moves : goal.returns-else-wants_input-clause-moves
returns-else-wants_input-clause-moves g c =
    λ loud some.
    elim (c.loop-used.invariant.moves loud) [
      | inl still ↦ absurd (true_not_false (sym still ∙ sym c.wants_input.ensures.value ∙ c.if-wants_input.false))
      | inr moved ↦ moved
    ]

pub loop-used-preserved : goal.loop-used-preserved
loop-used-preserved g c =
    let done = c.loop-used.used in
    let chunk = c.args.chunk.now in
    let both = goes_join g.R.Repo.state c.args.self.now c.loop-used.self c.step-used.new.self (take done chunk)
    (take c.step-used.result (take (length chunk - done) (drop done chunk))) [] []
    c.loop-used.invariant.goes c.step-used.ensures.goes in
    record {
      within = omega (arith, c.step-used.ensures.used, ap length (left_of chunk done c.loop-used.invariant.within), length-drop done chunk);
      goes = subst (λ (l : List ℕ). Goes g.R.Repo.state l [] c.args.self.now c.step-used.new.self)
          (take_joined chunk done c.step-used.result c.loop-used.invariant.within) both;
      unread = λ packs. subst (λ (l : List ℕ). Goes (state_with packs g.R.Repo.state) l [] c.args.self.now c.step-used.new.self)
          (take_joined chunk done c.step-used.result c.loop-used.invariant.within)
          (goes_join (state_with packs g.R.Repo.state) c.args.self.now c.loop-used.self c.step-used.new.self (take done chunk)
          (take c.step-used.result (take (length chunk - done) (drop done chunk))) [] []
          (c.loop-used.invariant.unread packs) (c.step-used.ensures.unread packs));
      moves = λ loud. inr (more_used done c.step-used.result _ c.step-used.ensures.moves);
      memory =
          λ s so_far over before r ends.
          c.step-used.ensures.memory s (so_far ++ take done chunk) over (before ++ []) (c.loop-used.invariant.goes s so_far over before r)
          (c.loop-used.invariant.memory s so_far over before r ends);
      in_time =
          λ s so_far over before r wants fault ended too_long.
          let inner = c.loop-used.invariant.goes s so_far over before r in
          let loud : wants_input c.loop-used.self ≡ true = sym c.wants_input.ensures.value ∙ c.if-wants_input.true in
          let less = c.step-used.ensures.in_time s (so_far ++ take done chunk) over (before ++ []) inner loud fault ended too_long in
          omega (arith, less, ap length (left_of chunk done c.loop-used.invariant.within), length-drop done chunk);
      stays =
          λ quiet.
          let same = ap wants_input (c.loop-used.invariant.stays quiet).1 in
          let loud : wants_input c.loop-used.self ≡ true = sym c.wants_input.ensures.value ∙ c.if-wants_input.true in
          absurd (true_not_false (sym loud ∙ same ∙ quiet));
      nothing = λ empty. absurd (omega (arith, empty, c.loop-used-test));
      cost =
          let loud : wants_input c.loop-used.self ≡ true = sym c.wants_input.ensures.value ∙ c.if-wants_input.true in
          paid_on _ _ _ _ _ _ _ _ (c.loop-used.invariant.paid loud c.loop-used-test.true) c.loop-used.invariant.cost c.step-used.ensures.cost;
      paid =
          λ wants more.
          let loud : wants_input c.loop-used.self ≡ true = sym c.wants_input.ensures.value ∙ c.if-wants_input.true in
          let step = c.step-used.ensures.paid wants
          (omega (arith, more, ap length (left_of chunk done c.loop-used.invariant.within), length-drop done chunk)) in
          omega (arith, step, c.loop-used.invariant.paid loud c.loop-used-test.true);
    }

pub loop-used-init : goal.loop-used-init
loop-used-init g c = record {
  within = search rules;
  goes = search rules;
  unread = λ packs. goes_nowhere (state_with packs g.R.Repo.state) c.args.self.now;
  moves = search rules;
  memory = λ s so_far over before r ends. ends;
  in_time = open_in_time g.R.Repo.state c.args.self.now 0 c.args.chunk.now;
  stays = search rules;
  nothing = search rules;
  cost = search rules;
  paid = search rules;
}
