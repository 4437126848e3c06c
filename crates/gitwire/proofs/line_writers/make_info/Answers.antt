use Rattle.std.proofs.Common.{ap}
use Rattle.std.specs.Bool.{then_some}
use Rattle.git_msg.specs.ResponseLines.{info_text}
use Rattle.gitwire.specs.WrittenForC.{info_of}
use Rattle.gitwire.proofs.Handing.{line_made}
use Rattle.gitwire.proofs.line_writers.make_info.Goals as goal

pub returns : goal.returns
returns c =
    line_made _ _ (λ id. info_text (info_of (then_some c.args.has_size c.args.size) id)) _ _ _ c.in_ok-id.ensures
    (ap (λ size. info_text (info_of size c.in_ok-id.id)) c.then_some-size.ensures) c.put_info.ensures.written c.put_info.ensures.fits
