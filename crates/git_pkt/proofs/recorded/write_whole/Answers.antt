use Rattle.std.proofs.Common.{rules, arith, ◌≡◌, ℕ, ◌-◌, ◌<◌, List, [], ◌++◌, inl, inr, Ok, Err, refl, sym, ap, ◌∙◌, length, take, drop}
use Rattle.std.proofs.Common.{append_assoc, take-append-drop}
use Rattle.std.proofs.Math.Numerals.{add-one}
use Rattle.std.proofs.lemmas.List.{nil_from_length, take_rest}
use Rattle.std.proofs.KnownBytes.{Appends-nil, Appends-trans, Appends-kept}
use Rattle.std.specs.IoError.{error_kind}
use Rattle.std.specs.declared.io.ErrorKind.TheVariants.{Interrupted}
use Rattle.git_pkt.proofs.recorded.write_whole.Goals as goal
use Rattle.git_pkt.proofs.recorded.write_whole.Goals.{in-Ok, in-Err+else-ne}

moves_front : (all done rest : List ℕ) (n : ℕ) → all ≡ done ++ rest → all ≡ (done ++ take n rest) ++ take (length rest - n) (drop n rest)
moves_front all done rest n e =
    e ∙ ap (λ l. done ++ l) (sym (take-append-drop n rest)) ∙ sym (append_assoc done (take n rest) (drop n rest))
    ∙ ap (λ l. (done ++ take n rest) ++ l) (sym (take_rest rest n))

pub loop-init : goal.loop-init
loop-init g c = (([], refl, Appends-nil _), (refl, refl))

pub loop-preserved : goal.loop-preserved
loop-preserved g c =
    let ((done, split, appended), so_far) = c.loop.invariant in
    let rest = c.loop.rest.now in
    elim c.match-call_write.branch [
      | in-Ok w ↦ (
        (
          done ++ take w.in-Ok.written rest,
          rw w.rest-is (moves_front _ done rest w.in-Ok.written split),
          Appends-trans _ _ _ _ _ appended w.in-Ok.ensures.bytes,
        ),
        let some : 0 < length rest = search rules in
            let takes : 0 < w.in-Ok.written = search rules in
            rw (w.rest-is, add-one) (
              c.loop.writer,
              rest,
              so_far,
              record {
                some = some;
                result = Ok w.in-Ok.written;
                call = w.in-Ok.ensures.call;
                takes = (takes, take_rest rest w.in-Ok.written);
              },
            ),
      )
      | in-Err+else-ne w ↦ (
        (done, rw w.rest-is split, Appends-kept _ _ _ _ appended w.in-Err.ensures.bytes),
        let some : 0 < length rest = search rules in
            let interrupted : error_kind w.in-Err.error ≡ Interrupted = search rules in
            rw (w.rest-is, add-one) (
              c.loop.writer,
              rest,
              so_far,
              record { some = some; result = Err w.in-Err.error; call = w.in-Err.ensures.call; takes = (interrupted, refl) },
            ),
      )
    ]

pub returns-then-is_empty-clause-calls : goal.returns-then-is_empty-clause-calls
returns-then-is_empty-clause-calls g c =
    record {
      count = c.loop.counter;
      writer = c.loop.writer;
      rest = c.loop.rest.now;
      so_far = c.loop.invariant.1;
      ends = (nil_from_length c.loop.rest.now (search rules), refl);
    }

pub returns-in-Ok-eq0-clause-calls : goal.returns-in-Ok-eq0-clause-calls
returns-in-Ok-eq0-clause-calls g c =
    record {
      count = c.loop.counter;
      writer = c.loop.writer;
      rest = c.loop.rest.now;
      so_far = c.loop.invariant.1;
      ends = inl (search rules, search rules, c.new.ensures.kind);
    }

pub returns-then-ne-clause-calls : goal.returns-then-ne-clause-calls
returns-then-ne-clause-calls g c =
    record {
      count = c.loop.counter;
      writer = c.loop.writer;
      rest = c.loop.rest.now;
      so_far = c.loop.invariant.1;
      ends = inr (inl (search rules, c.in-Err.ensures.call, search rules));
    }

pub returns-clause-calls : goal.returns-clause-calls
returns-clause-calls g c =
    record {
      count = c.loop.counter;
      writer = c.loop.writer;
      rest = c.loop.rest.now;
      so_far = c.loop.invariant.1;
      ends = inr (inr (omega (arith, c.loop.auto.counter-end, c.loop-test.false), c.other.ensures.kind, refl));
    }
