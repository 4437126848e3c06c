use Rattle.std.proofs.Common.{◌≡◌, ◌∙◌, ap, decimal, length, take}
use Rattle.git2show_lib.specs.JsonLines.{payload_key}
use Rattle.git2show_lib.proofs.JsonTexts.{three_more}
use Rattle.git2show_lib.proofs.json_lines.write_kind.Goals as goal

pub returns-in-Payload-clause-kind : goal.returns-in-Payload-clause-kind
returns-in-Payload-clause-kind c =
    let digits : c.as_bytes.result.now ≡ decimal (length c.in-Payload.payload.now) = c.as_bytes.ensures.value ∙ c.format.ensures.text in
    let key = c.key.ensures.key ∙ ap payload_key c.of.ensures in
    let put =
    three_more (take c.args.at c.args.out.now) _ _ _ c.put_at-at.ensures.put c.put_at-at-in-Payload.ensures.put c.put_at-in-Payload.ensures.put in
    rw c.in-Payload.is (rw (digits, key) at put)
