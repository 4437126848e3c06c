use Rattle.std.proofs.Common.{◌≡◌, ◌∙◌, ap, arith, length, refl, rules, take}
use Rattle.std.proofs.lemmas.Result.{err_from_is_err_and}
use Rattle.git_msg.specs.Machine.TextPools.{pooled, text_place}
use Rattle.git_msg.proofs.PooledTexts.{cut_back, ends_longer, ends_more, ends_same, texts_more}
use Rattle.git_msg.proofs.RefusedLists.{refused_within}
use Rattle.git_msg.proofs.parts.Texts.keep.Goals as goal

pub invariant_of-self : goal.invariant_of-self
invariant_of-self g c = record {
  sound = ends_longer c.append.result c.args.self.now.bytes.items c.append.new.bytes.items c.args.text.now c.args.self.now.ends
      c.append.ensures.ok c.append.ensures.err c.args.self.now.sound;
}

pub invariant_of-self-in-Ok : goal.invariant_of-self-in-Ok
invariant_of-self-in-Ok g c = record {
  sound = rw c.in_ok-append.ensures.ok
      (ends_more c.args.self.now.bytes.items c.args.text.now c.requires.short c.args.self.now.ends c.push.new.self c.args.word c.place.result _
      c.args.self.now.sound c.place.ensures.value (search rules) c.in-Ok.ensures.ok);
}

pub invariant_of-self-in-Err : goal.invariant_of-self-in-Err
invariant_of-self-in-Err g c =
    let start : c.len-start.result ≡ length c.args.self.now.bytes.items = search rules in
    let back : take c.len-start.result c.append.new.bytes.items ≡ c.args.self.now.bytes.items =
    rw (start, c.in_ok-append.ensures.ok) (cut_back c.args.self.now.bytes.items (pooled c.args.text.now)) in
    record {
      sound = ends_same c.args.self.now.bytes.items c.truncate.new.self.items c.args.self.now.ends c.push.new.self (c.truncate.ensures.items ∙ back)
          c.in-Err.ensures.err.0 c.args.self.now.sound;
    }

pub returns-in-Ok-clause-ok : goal.returns-in-Ok-clause-ok
returns-in-Ok-clause-ok g c of =
    rw c.in_ok-append.ensures.ok
    (texts_more c.args.self.now.bytes.items c.args.text.now c.requires.short c.args.self.now.ends c.push.new.self c.args.word c.place.result _
    c.args.self.now.sound c.place.ensures.value (search rules) c.in-Ok.ensures.ok of)

pub returns-in-Err-clause-err : goal.returns-in-Err-clause-err
returns-in-Err-clause-err g c =
    let start : c.len-start.result ≡ length c.args.self.now.bytes.items = search rules in
    let back : take c.len-start.result c.append.new.bytes.items ≡ c.args.self.now.bytes.items =
    rw (start, c.in_ok-append.ensures.ok) (cut_back c.args.self.now.bytes.items (pooled c.args.text.now)) in (
      λ of. rw (c.truncate.ensures.items ∙ back, c.in-Err.ensures.err.0 (text_place of)) refl,
      omega (arith, ap length (c.truncate.ensures.items ∙ back), c.in-Err.ensures.err.1),
    )

pub returns-in-Err-clause-memory : goal.returns-in-Err-clause-memory
returns-in-Err-clause-memory g c = refused_within _ _ _ (omega arith) c.in-Err.ensures.memory

pub returns-in_err-append-clause-memory : goal.returns-in_err-append-clause-memory
returns-in_err-append-clause-memory g c =
    let p = err_from_is_err_and c.from_residual.result c.from_residual.ensures.1 in
    rw p.1 (refused_within _ _ _ (omega arith) c.in_err-append.ensures.memory)
