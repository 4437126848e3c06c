-- Packets that begin a request.
use Rattle.std.proofs.Common.{◌≡◌, ℕ, List, [], ◌∷◌, ◌++◌, subst}
use Rattle.std.proofs.lemmas.List.Elements.{All-nil}
use Rattle.git_pkt.specs.Splits.{Given}
use Rattle.git_msg.specs.Admission.{IsAdmitted, IsUnbarred}
use Rattle.git_msg.specs.Requests.{AreBegun, AreLines}
use Rattle.git_msg.specs.Machine.RequestReader.{limit_in, offer_of}
use Rattle.git_msg.specs.declared.offers.Offer.{Offer}
use Rattle.git_msg.specs.declared.reader.RequestReader.{RequestReader}
use Rattle.git_msg.proofs.Admission.{admitted_more}
use Rattle.git_msg.proofs.WholeRequests.{NoFlush, lines_have_no_flush}
use Rattle.git_server.specs.Admission.{barred}
use Rattle.git_server.specs.Sessions.{Setting, Begins}

-- with a packet more, where all are lines and the last is not barred, packets that begin a request still do
pub begins_more : {A : Type 0} (s : Setting) (left : List Given) (g : Given) (r : RequestReader A) → offer_of r ≡ s.offer → limit_in r ≡ s.limit
    → Begins s left → AreBegun (offer_of r) (limit_in r) (left ++ g ∷ []) → IsUnbarred (offer_of r) (limit_in r) (barred s.repo) (left ++ g ∷ [])
    → Begins s (left ++ g ∷ [])
begins_more s left g r offer limit begun (lines, taken) unbarred =
    let more = left ++ g ∷ [] in
    let taken_here = subst (λ (n : ℕ). AreLines s.offer n [] more lines) limit (subst (λ (o : Offer). AreLines o (limit_in r) [] more lines) offer taken) in
    let unbarred_here = subst (λ (n : ℕ). IsUnbarred s.offer n (barred s.repo) more) limit
    (subst (λ (o : Offer). IsUnbarred o (limit_in r) (barred s.repo) more) offer unbarred) in
    record {
      lines = lines;
      taken = taken_here;
      admitted = admitted_more s.offer s.limit (barred s.repo) left g begun.lines lines begun.taken begun.admitted taken_here unbarred_here;
    }

-- so do none
pub nothing_begins : (s : Setting) → Begins s []
nothing_begins s = record { lines = []; taken = tt; admitted = All-nil (IsAdmitted (barred s.repo)) }

-- none of them is a flush
pub begun_has_no_flush : (s : Setting) (left : List Given) → Begins s left → NoFlush left
begun_has_no_flush s left h = lines_have_no_flush s.offer s.limit [] left h.lines h.taken
