use Rattle.std.proofs.Common.{arith, sym}
use Rattle.gitwire.proofs.host.host_meant.Goals as goal

pub returns : goal.returns
returns c = record {
  meant = c.in-Some.offer;
  offer_is = sym c.in-Some.ensures;
  in_range = omega (arith, c.if-limit-gt-MOST_LIMIT.false);
  agent = c.in-Some-agent_named.agent;
  means = c.in-Some-agent_named.ensures;
  begins = c.new.ensures.hosts;
}
