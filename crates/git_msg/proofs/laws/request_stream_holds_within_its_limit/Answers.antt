use Rattle.std.proofs.Common.{arith}
use Rattle.git_msg.proofs.laws.request_stream_holds_within_its_limit.Goals as goal

pub returns : goal.returns
returns g c = λ used asked stream h. omega (arith, h.reads.fits, h.within, stream.requests.bounded.covered)
