-- Requests as a server reads them, and sessions with one outcome.
use Rattle.std.proofs.Common.{◌≡◌, ◌≢◌, ℕ, codes, true, Option, None, List, [], ◌∷◌, ◌++◌, length, length-append, refl, ap, arith}
use Rattle.std.proofs.lemmas.List.Elements.{All-cons, All-nil}
use Rattle.git_names.specs.Digits.{lower_digit}
use Rattle.git_names.specs.ObjectName.{ObjectName}
use Rattle.git_pkt.specs.Packets.{Pkt, delim, flush}
use Rattle.git_pkt.specs.Splits.{Given, Splits}
use Rattle.git_pkt.specs.declared.fault.Kind.{Kind}
use Rattle.git_pkt.proofs.Spelling.{none_begins_nothing}
use Rattle.git_msg.specs.Admission.{IsUnbarred}
use Rattle.git_msg.specs.Arguments.{Arg}
use Rattle.git_msg.specs.Asked.{fetch, ls_refs}
use Rattle.git_msg.specs.Lines.{Line, has_delimiter}
use Rattle.git_msg.specs.Requests.{AreLines}
use Rattle.git_msg.specs.WrittenRequest.{text_line}
use Rattle.git_msg.specs.declared.offers.Offer.{Offer}
use Rattle.git_pkt.specs.Bands.{AreBands}
use Rattle.git_pkt.specs.declared.band.Band.TheVariants.{Pack}
use Rattle.git_server.specs.Answers.{IsAnswer}
use Rattle.git_server.specs.Admission.{HasAsked}
use Rattle.git_server.specs.Repository.{found_ref}
use Rattle.git_server.specs.Sessions.{IsRequest, Stream}
use Rattle.git_rows.specs.Worked.{all_a, fetch_done_packets, fetch_of, ls_refs_of, ls_refs_packets, name_a}
use Rattle.git_rows.specs.WorkedSessions.{fetch_bytes, ls_refs_bytes, repo, setting}
use Rattle.git_rows.proofs.RequestLines.{asks_fetch, asks_ls_refs}
use Rattle.git_rows.proofs.WrittenPackets.{splits_written}

-- the first packet of a request is not an argument that a repository refuses
no_delimiter_before : (offer : Offer) (limit : ℕ) (g last : Given) (front : List Given) (lines : List Line) → g ∷ [] ≡ front ++ last ∷ []
    → AreLines offer limit [] front lines → has_delimiter lines ≡ true → ⊥
no_delimiter_before offer limit g last [] [] e are behind = cc
no_delimiter_before offer limit g last [] (line ∷ lines) e are behind = absurd are
no_delimiter_before offer limit g last (f ∷ front) lines e are behind = omega (arith, ap length e, length-append front (last ∷ []))

pub first_is_unbarred : (offer : Offer) (limit : ℕ) (barred : Arg → Option Kind) (g : Given) → IsUnbarred offer limit barred (g ∷ [])
first_is_unbarred offer limit barred g kind offset h = no_delimiter_before offer limit g h.last h.front h.lines h.whole h.taken h.is_barred.behind

-- a request for references
pub ls_refs_request : IsRequest setting ls_refs_packets (ls_refs (ls_refs_of []))
ls_refs_request = (0, asks_ls_refs 49, tt)

pub ls_refs_stream : Stream setting ls_refs_bytes (ls_refs (ls_refs_of []) ∷ []) [] []
unfolding lower_digit
ls_refs_stream = record {
  packets = ls_refs_packets;
  splits = splits_written 0 (text_line (codes "command=ls-refs") ∷ flush ∷ []) [] refl none_begins_nothing;
  requests = (ls_refs_packets, [], refl, ls_refs_request, refl);
}

-- a fetch of an object that the repository has
has_wants : HasAsked repo (fetch (fetch_of (name_a ∷ []) true))
has_wants = (
  All-cons (λ (id : ObjectName). repo.has id ≡ true) name_a [] refl (All-nil (λ (id : ObjectName). repo.has id ≡ true)),
  All-nil (λ (name : List ℕ). found_ref repo.refs name ≢ None),
)

pub fetch_request : IsRequest setting fetch_done_packets (fetch (fetch_of (name_a ∷ []) true))
fetch_request = (49, asks_fetch 49 (omega arith), has_wants)

pub fetch_splits : Splits 0 fetch_bytes fetch_done_packets []
unfolding lower_digit
fetch_splits =
    splits_written 0 (text_line (codes "command=fetch") ∷ delim ∷ text_line (codes "want " ++ all_a) ∷ text_line (codes "done") ∷ flush ∷ []) [] refl
    none_begins_nothing

pub fetch_stream : Stream setting fetch_bytes (fetch (fetch_of (name_a ∷ []) true) ∷ []) [] []
fetch_stream = record { packets = fetch_done_packets; splits = fetch_splits; requests = (fetch_done_packets, [], refl, fetch_request, refl) }

-- the pack in these packets answers the fetch
pub pack_answer : (bands : List Pkt) → AreBands Pack (codes "PACK!") bands
    → IsAnswer repo (fetch (fetch_of (name_a ∷ []) true)) (text_line (codes "packfile") ∷ (bands ++ flush ∷ []))
pack_answer bands are = record {
  others = text_line (codes "packfile") ∷ (bands ++ flush ∷ []);
  holds = record {
    others = text_line (codes "packfile") ∷ (bands ++ flush ∷ []);
    holds = record { tail = bands ++ flush ∷ []; ends = record { bands = bands; are_bands = are; packets_are = refl }; packets_are = refl };
    packets_are = refl;
  };
  packets_are = refl;
}
