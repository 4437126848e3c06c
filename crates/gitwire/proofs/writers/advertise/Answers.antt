use Rattle.std.proofs.Common.{arith, ap, inr, length, subst, ◌∙◌}
use Rattle.git_msg.proofs.AgentNames.{agent_is_short}
use Rattle.gitwire.specs.Buffers.{Fills}
use Rattle.gitwire.proofs.writers.advertise.Goals as goal

pub returns : goal.returns
returns c =
    let agent = c.in-Some-agent_named.agent in
    let written = c.as_slice.ensures.value ∙ c.put_advertisement.ensures.written in
    let short = c.put_advertisement.ensures.short in
    rw (← c.in-Some.ensures) (inr (
      agent,
      c.in-Some-agent_named.ensures,
      (
        omega (arith, short, ap length c.put_advertisement.ensures.written, agent_is_short agent),
        subst (λ bytes. Fills bytes c.args.buffer.now c.fill.result c.fill.new.buffer) written c.fill.ensures,
      ),
    ))
