use Rattle.std.proofs.Common.{rules, arith, ◌≡◌, None, false, true, sym, ◌∙◌}
use Rattle.git_client.specs.Machine.Client.{wants_input}
use Rattle.git_client.proofs.Phases.{sound_where_expected}
use Rattle.git_client.proofs.ReceivedBytes.{nothing_received}
use Rattle.git_client.proofs.ReceivingSteps.{received_all, received_event, received_some, received_sound, received_to_question, used_within}
use Rattle.git_client.proofs.GatheredChunks.{gathered_all, gathered_failed}
use Rattle.git_client.proofs.gathered.gather_chunk.Goals as goal

pub loop-used-init : goal.loop-used-init
loop-used-init g c = record {
  within = search rules;
  sound = sound_where_expected _ c.requires;
  stands = λ none. let waits = c.requires in absurd (cc);
  moves = λ none. let waits = c.requires in absurd (cc);
  grows = λ many few. absurd (omega (arith, many, few));
  arrives = nothing_received _ _ _ _ _ c.requires;
}

pub returns-in-More-clause-gathers : goal.returns-in-More-clause-gathers
returns-in-More-clause-gathers g c =
    let waits : wants_input c.loop-used.client ≡ true = sym c.wants_input.ensures.value ∙ c.if-wants_input.true in
    gathered_all (received_all c.args.chunk.now c.loop-used.used waits c.loop-used.invariant.within c.loop-used.invariant.arrives
    c.feed-arrived.follows.holds-at-none.0 c.in-More.is)

pub returns-in-Failed-clause-gathers : goal.returns-in-Failed-clause-gathers
returns-in-Failed-clause-gathers g c =
    let waits : wants_input c.loop-used.client ≡ true = sym c.wants_input.ensures.value ∙ c.if-wants_input.true in
    gathered_failed c.args.chunk.now c.loop-used.used waits c.loop-used.invariant.within c.loop-used.invariant.arrives
    c.feed-arrived.follows.holds-at-none.0 c.in-Failed.fault c.in-Failed.is c.feed-arrived.ensures.used

pub loop-used-preserved : goal.loop-used-preserved
loop-used-preserved g c =
    let waits : wants_input c.loop-used.client ≡ true = sym c.wants_input.ensures.value ∙ c.if-wants_input.true in
    let was = c.loop-used.invariant in
    let feeds = c.feed-arrived.follows.holds-at-none.0 in
    let some = received_some c.args.chunk.now c.loop-used.used waits was.within was.arrives feeds _ c.in-Event.is in
    record {
      within = used_within c.args.chunk.now c.loop-used.used waits was.within was.arrives feeds c.feed-arrived.ensures.used;
      sound = received_sound c.args.chunk.now c.loop-used.used waits was.within was.arrives feeds _ c.in-Event.is;
      stands = received_to_question c.args.chunk.now c.loop-used.used waits was.within was.arrives feeds _ c.in-Event.is;
      moves = λ none. some;
      grows = λ many few. some;
      arrives = received_event c.args.chunk.now c.loop-used.used waits was.within was.arrives feeds _ c.in-Event.is false _ _ None None
          c.gather_event.ensures.counts c.gather_event.ensures.lines tt tt;
    }
