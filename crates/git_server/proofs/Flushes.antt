-- How many flushes packets have.
use Rattle.std.proofs.Common.{arith, ◌≡◌, ◌+◌, List, [], ◌∷◌, ◌++◌}
use Rattle.git_pkt.specs.Packets.{Pkt, flush, flushes, delim, resp_end, payload}

pub flushes-append : (front back : List Pkt) → flushes (front ++ back) ≡ flushes front + flushes back
flushes-append [] back = omega arith
flushes-append (flush ∷ ps) back = omega (arith, flushes-append ps back)
flushes-append (delim ∷ ps) back = flushes-append ps back
flushes-append (resp_end ∷ ps) back = flushes-append ps back
flushes-append (payload x ∷ ps) back = flushes-append ps back
