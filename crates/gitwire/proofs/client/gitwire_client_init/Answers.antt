use Rattle.std.proofs.Common.{inr}
use Rattle.gitwire.specs.ClientAnswers.{IsNew}
use Rattle.gitwire.proofs.Making.{made_so, none_made}
use Rattle.gitwire.proofs.client.gitwire_client_init.Goals as goal

pub returns-in_default-new : goal.returns-in_default-new
returns-in_default-new c =
    rw (← c.in-Some.ensures, ← c.in-Some-ending_numbered.ensures) (inr (
      c.in-Some-agent_named.agent,
      c.in-Some-agent_named.ensures,
      none_made _ _ _ c.none.ensures c.number-in_default-new.ensures,
    ))

pub returns : goal.returns
returns c =
    let agent = c.in-Some-agent_named.agent in
    rw (← c.in-Some.ensures, ← c.in-Some-ending_numbered.ensures) (inr (
      agent,
      c.in-Some-agent_named.ensures,
      made_so (IsNew c.in-Some.choice c.in-Some-ending_numbered.ending agent) c.fill.result c.number-2.result c.in-Ok.made.value
          c.with_agent.result _ c.number-2.ensures c.in-Ok.ensures.ok c.fill.ensures
          (record { converses = c.with_agent.ensures.converses; waits = c.with_agent.ensures.waits; any = c.with_agent.ensures.any }),
    ))
