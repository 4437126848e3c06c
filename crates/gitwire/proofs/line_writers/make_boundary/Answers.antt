use Rattle.std.proofs.Common.{ap}
use Rattle.git_msg.specs.ResponseLines.{boundary_text}
use Rattle.gitwire.specs.WrittenForC.{boundary_of}
use Rattle.gitwire.proofs.Handing.{line_made}
use Rattle.gitwire.proofs.line_writers.make_boundary.Goals as goal

pub returns : goal.returns
returns c =
    line_made _ _ (λ id. boundary_text (boundary_of c.args.shallow id)) _ _ _ c.in_ok-id.ensures (ap boundary_text c.boundary_of-boundary.ensures)
    c.put_boundary.ensures.written c.put_boundary.ensures.fits
