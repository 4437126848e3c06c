-- Packets as whole requests, one after another, for any notion of one request.
use Rattle.std.specs.Prelude.{◌≡◌, List, [], ◌∷◌, ◌++◌}
use Rattle.git_pkt.specs.Splits.{Given}
use Rattle.git_msg.specs.Asked.{Asked}

-- the packets are whole requests, which ask for these, and then the packets that are left
abbrev pub AreRequests : (List Given → Asked → Type 0) → List Given → List Asked → List Given → Type 0
AreRequests IsOne packets [] left = packets ≡ left
AreRequests IsOne packets (q ∷ qs) left =
    (front : List Given) × (more : List Given) × (packets ≡ front ++ more) × IsOne front q × AreRequests IsOne more qs left
