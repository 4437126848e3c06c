use Rattle.std.proofs.Common.{refl}
use Rattle.git_msg.specs.ResponseLines.{ack_text}
use Rattle.gitwire.proofs.Handing.{line_made}
use Rattle.gitwire.proofs.line_writers.make_ack.Goals as goal

pub returns : goal.returns
returns c = line_made _ _ ack_text _ _ _ c.in_ok-id.ensures refl c.put_ack.ensures.written c.put_ack.ensures.fits
