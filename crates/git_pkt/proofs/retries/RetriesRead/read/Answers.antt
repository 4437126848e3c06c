use Rattle.std.proofs.Common.{rules, refl, arith, inl, inr}
use Rattle.std.proofs.Math.Numerals.{add-one}
use Rattle.std.proofs.KnownBytes.{Keeps-refl, Keeps-trans}
use Rattle.git_pkt.proofs.retries.RetriesRead.read.Goals as goal

pub loop-init : goal.loop-init
loop-init g c = (Keeps-refl _, (refl, refl))

pub loop-preserved : goal.loop-preserved
loop-preserved g c =
    let (kept, so_far) = c.loop.invariant in (
      Keeps-trans _ _ _ kept c.in-Err.ensures.bytes,
      rw add-one (c.loop.self.inner, c.loop.buf, c.in-Err.error, so_far, c.in-Err.ensures.call, search rules),
    )

pub returns-in-Ok-clause-calls : goal.returns-in-Ok-clause-calls
returns-in-Ok-clause-calls g c =
    record {
      count = c.loop.counter;
      reader = c.loop.self.inner;
      buffer = c.loop.buf;
      interrupted = c.loop.invariant.1;
      last = inl (c.in-Ok.ensures.call, tt);
    }

pub returns-then-ne-clause-calls : goal.returns-then-ne-clause-calls
returns-then-ne-clause-calls g c =
    record {
      count = c.loop.counter;
      reader = c.loop.self.inner;
      buffer = c.loop.buf;
      interrupted = c.loop.invariant.1;
      last = inl (c.in-Err.ensures.call, search rules);
    }

pub returns-clause-calls : goal.returns-clause-calls
returns-clause-calls g c =
    record {
      count = c.loop.counter;
      reader = c.loop.self.inner;
      buffer = c.loop.buf;
      interrupted = c.loop.invariant.1;
      last = inr (omega (arith, c.loop.auto.counter-end, c.loop-test.false), c.other.ensures.kind, refl, refl);
    }
