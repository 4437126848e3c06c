use Rattle.std.proofs.Common.{◌∙◌, ap}
use Rattle.git_msg.specs.ResponseLines.{wanted_of, wanted_text}
use Rattle.git_msg.specs.WrittenRequest.{text_line}
use Rattle.gitwire.proofs.Handing.{line_fits}
use Rattle.gitwire.proofs.line_writers.make_wanted.Goals as goal

pub returns : goal.returns
returns c =
    let id = c.in_ok-id.id in
    let name = c.in_ok-name.ensures.name in
    let line = ap (λ bytes. text_line (wanted_text (wanted_of id bytes))) (c.as_bytes.ensures.value ∙ name.0) in (
      _,
      (c.in_ok-id.ensures.0, c.in_ok-id.ensures.1, (name.1, record { id = id; is_id = c.in_ok-id.ensures.2; line = line })),
      line_fits _ c.put_wanted.ensures.fits,
      c.put_wanted.ensures.written,
    )
