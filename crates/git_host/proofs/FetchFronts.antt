-- What was sent of an answer to a fetch is the front of a whole one.
use Rattle.std.proofs.Common.{arith, ◌≡◌, ℕ, zero, suc, ◌+◌, ◌-◌, ◌≤◌, Bool, true, false, List, [], ◌∷◌, ◌++◌, length, map}
use Rattle.std.proofs.Common.{Option, Some, None, refl, sym, ap, ◌∙◌, append_assoc, append-nil, length-append, subst}
use Rattle.std.specs.Option.{ForSome}
use Rattle.git_names.specs.ObjectName.{ObjectName}
use Rattle.git_pkt.specs.Packets.{Pkt, delim}
use Rattle.git_msg.specs.declared.Boundary.{Boundary}
use Rattle.git_msg.specs.Arguments.{Arg}
use Rattle.git_msg.specs.Asked.{is_empty, haves_in, want_refs_in}
use Rattle.git_server.specs.Packs.{whole}
use Rattle.git_server.specs.FetchAnswers.{ack_packet, nak_or_acks, ready_lines, shallow_info}
use Rattle.git_host.specs.FetchFacts.{FetchFacts, IsFetchAnswerOf, acknowledgments, before_pack, opening, picked, wanted_refs}
use Rattle.git_host.specs.FetchPlaces.{AtHave, AtPack, AtPackHeader, AtReady, AtShallow}
use Rattle.git_host.specs.FetchPlaces.{AtWanted, AtWantedHeader, StandsAt, after_boundary, after_haves, shallow_so_far, with_boundary_end}
use Rattle.git_host.specs.FetchPlaces.{with_have, with_ready}
use Rattle.git_host.specs.declared.fetch_answer.Place.{Place}
use Rattle.git_host.specs.declared.fetch_answer.Place.TheVariants.{Header, Have, Nak, Ready, Delimiter, Shallow, ShallowLine, WantedHeader, Wanted, WantedEnd}
use Rattle.git_host.specs.declared.fetch_answer.Place.TheVariants.{PackHeader, Pack, Whole as AtEnd, Broken as AtLoss}
use Rattle.git_host.proofs.FetchMoves.{SoFar, after_all_wanted, after_delimiter, after_header, after_lines, after_nak, after_name, after_no_line}
use Rattle.git_host.proofs.FetchMoves.{after_not_common, after_pack, after_pack_header, after_shallow_line, after_unready, after_wanted_header}
use Rattle.git_host.proofs.FetchMoves.{all_reported, item_there, opening_is, so_far_ends}

-- the store has none of the objects that were not reported on yet, it is ready or not, and its boundary has ended or not
abbrev pub absent_more : List Bool → Option Bool → Bool → FetchFacts → FetchFacts
absent_more absent ready ended t = record t { has = t.has ++ absent; ready = ready; boundary_ended = ended }

-- an answer that begins so
pub record Completes (q : List Arg) (t : FetchFacts) (given : List Pkt) : Type 0 where
  pub absent : List Bool
  pub ready : Option Bool
  pub ended : Bool
  pub more : List Pkt
  pub stays : ForSome t.ready (λ r. ready ≡ Some r)
  pub grows : t.boundary_ended ≡ true → ended ≡ true
  pub answer : IsFetchAnswerOf whole q (absent_more absent ready ended t) (given ++ more)

module _ (q : List Arg) (t : FetchFacts) (given : List Pkt) where
  completed : IsFetchAnswerOf whole q t given → Completes q t given
  completed h = record {
    absent = [];
    ready = t.ready;
    ended = t.boundary_ended;
    more = [];
    stays = λ r is. is;
    grows = λ is. is;
    answer = subst (λ (bs : List Bool). IsFetchAnswerOf whole q (record t { has = bs }) (given ++ [])) (sym (append-nil t.has))
        (subst (IsFetchAnswerOf whole q t) (sym (append-nil given)) h);
  }

  -- by the next packet
  by_packet : (packet : Pkt) → Completes q t (given ++ packet ∷ []) → Completes q t given
  by_packet packet h = record {
    absent = h.absent;
    ready = h.ready;
    ended = h.ended;
    more = packet ∷ h.more;
    stays = h.stays;
    grows = h.grows;
    answer = subst (IsFetchAnswerOf whole q (absent_more h.absent h.ready h.ended t)) (append_assoc given (packet ∷ []) h.more) h.answer;
  }

  -- or by one report more
  by_absent : Completes q (with_have false t) given → Completes q t given
  by_absent h = record {
    absent = false ∷ h.absent;
    ready = h.ready;
    ended = h.ended;
    more = h.more;
    stays = h.stays;
    grows = h.grows;
    answer = subst (λ (bs : List Bool). IsFetchAnswerOf whole q (record t { has = bs; ready = h.ready; boundary_ended = h.ended }) (given ++ h.more))
        (append_assoc t.has (false ∷ []) h.absent) h.answer;
  }

  -- or by the report that the store is not ready
  by_unready : t.ready ≡ None → Completes q (with_ready false t) given → Completes q t given
  by_unready unreported h = record {
    absent = h.absent;
    ready = h.ready;
    ended = h.ended;
    more = h.more;
    stays = λ r is. absurd (let both : None ≡ Some r = sym unreported ∙ is in cc);
    grows = h.grows;
    answer = h.answer;
  }

  -- or by the end of the boundary
  by_end : Completes q (with_boundary_end t) given → Completes q t given
  by_end h = record {
    absent = h.absent;
    ready = h.ready;
    ended = h.ended;
    more = h.more;
    stays = h.stays;
    grows = λ is. h.grows refl;
    answer = h.answer;
  }

module _ (q : List Arg) (t : FetchFacts) (all : length t.wanted ≡ length (want_refs_in q)) where
  from_pack : (given : List Pkt) → AtPack q t given → Completes q t given
  from_pack given h = by_packet q t given _ (completed q t _ (after_pack whole q t given all h))

  from_pack_header : (given : List Pkt) → AtPackHeader q t given → Completes q t given
  from_pack_header given h = by_packet q t given _ (from_pack _ (after_pack_header q t given h))

  from_all_wanted : (given : List Pkt) → AtWanted (length (want_refs_in q)) q t given → Completes q t given
  from_all_wanted given h = by_packet q t given _ (from_pack_header _ (after_all_wanted q t given all h))

  -- so many wanted references are left
  from_wanted : (left next : ℕ) (given : List Pkt) → next + left ≡ length (want_refs_in q) → AtWanted next q t given → Completes q t given
  from_wanted zero next given count h =
      let here : next ≡ length (want_refs_in q) = omega (arith, count) in
      from_all_wanted given (subst (λ (n : ℕ). AtWanted n q t given) here h)
  from_wanted (suc left) next given count h =
      let (name, named) = item_there (want_refs_in q) next (omega (arith, count)) in
      let (id, here) = item_there t.wanted next (omega (arith, count, all)) in
      by_packet q t given _ (from_wanted left (next + 1) _ (omega (arith, count)) (after_name next q t given id name h named here))

  from_wanted_header : (given : List Pkt) → AtWantedHeader q t given → Completes q t given
  from_wanted_header given h =
      by_packet q t given _ (from_wanted (length (want_refs_in q)) 0 _ (omega arith) (after_wanted_header q t given h).1)

from_refs : (b : Bool) (q : List Arg) (t : FetchFacts) → length t.wanted ≡ length (want_refs_in q) → (given : List Pkt)
    → StandsAt (after_boundary b) q t given → Completes q t given
from_refs true q t all given h = from_pack_header q t all given h
from_refs false q t all given h = from_wanted_header q t all given h

module _ (q : List Arg) (t : FetchFacts) (all : length t.wanted ≡ length (want_refs_in q)) where
  from_shallow : (any : Bool) (given : List Pkt) → AtShallow any q t given → Completes q t given
  from_shallow true given h = by_packet q t given _ (by_end q t _ (from_refs (is_empty (want_refs_in q)) q (with_boundary_end t) all _
      (after_lines q t given h)))
  from_shallow false given h = by_end q t given (from_refs (is_empty (want_refs_in q)) q (with_boundary_end t) all given (after_no_line q t given h))

  from_ready : (given : List Pkt) → AtReady q t given → Completes q t given
  from_ready given h =
      by_unready q t given h.unreported (by_packet q (with_ready false t) given _ (completed q (with_ready false t) _ (after_unready q t given h)))

  from_haves : (any : Bool) (given : List Pkt) → StandsAt (after_haves any) q t given → Completes q t given
  from_haves true given h = from_ready given h
  from_haves false given h = by_packet q t given _ (from_ready _ (after_nak q t given h))

-- so many objects of the client were not reported on
from_have : (left next : ℕ) (any : Bool) (q : List Arg) (t : FetchFacts) (given : List Pkt) → length t.wanted ≡ length (want_refs_in q)
    → next + left ≡ length (haves_in q) → SoFar next any q t given → Completes q t given
from_have zero next any q t given all count h = from_haves q t all any given (all_reported next any q t given h (omega (arith, count)))
from_have (suc left) next any q t given all count h =
    let at : AtHave next any q t given = record {
      negotiates = h.negotiates;
      so_far = h.so_far;
      more = omega (arith, count);
      some = h.some;
      given_is = h.given_is;
      unreported = h.unreported;
      after = h.after;
    } in
    by_absent q t given (from_have left (next + 1) any q (with_have false t) given all (omega (arith, count)) (after_not_common next any q t given at))

so_far_at : (next : ℕ) (any : Bool) (q : List Arg) (t : FetchFacts) (given : List Pkt) → AtHave next any q t given → SoFar next any q t given
so_far_at next any q t given h = record {
  negotiates = h.negotiates;
  so_far = h.so_far;
  within = omega (arith, h.more);
  some = h.some;
  given_is = h.given_is;
  unreported = h.unreported;
  after = h.after;
}

-- at each place but that of a pack that was lost
pub completes : (place : Place) (q : List Arg) (t : FetchFacts) (given : List Pkt) → length t.wanted ≡ length (want_refs_in q) → (place ≡ AtLoss → ⊥)
    → StandsAt place q t given → Completes q t given
completes Header q t given all unlost h =
    by_packet q t given _ (from_have (length (haves_in q)) 0 false q t _ all (omega arith) (after_header q t given h))
completes (Have next any) q t given all unlost h =
    from_have (length (haves_in q) - next) next any q t given all (omega (arith, h.more)) (so_far_at next any q t given h)
completes Nak q t given all unlost h = from_haves q t all false given h
completes Ready q t given all unlost h = from_ready q t all given h
completes Delimiter q t given all unlost h = by_packet q t given _ (from_shallow q t all false _ (after_delimiter q t given h))
completes (Shallow any) q t given all unlost h = from_shallow q t all any given h
completes (ShallowLine line) q t given all unlost h = by_packet q t given _ (from_shallow q t all true _ (after_shallow_line q t given line h))
completes WantedHeader q t given all unlost h = from_wanted_header q t all given h
completes (Wanted next) q t given all unlost h = from_wanted q t all (length (want_refs_in q) - next) next given (omega (arith, h.0)) h.1
completes WantedEnd q t given all unlost h = from_all_wanted q t all given h
completes PackHeader q t given all unlost h = from_pack_header q t all given h
completes Pack q t given all unlost h = from_pack q t all given h
completes AtEnd q t given all unlost h = completed q t given h
completes AtLoss q t given all unlost h = absurd (unlost refl)

-- ---- no more was sent than what comes before the pack

acks_fit : (ids : List ObjectName) → length (map ack_packet ids) ≤ length (nak_or_acks ids)
acks_fit [] = omega arith
acks_fit (id ∷ ids) = omega arith

negotiated_fits : (q : List Arg) (t : FetchFacts) (given : List Pkt) → length given ≤ length (acknowledgments q t)
    → opening q t ≡ acknowledgments q t ++ ready_lines → length given ≤ length (before_pack q t)
negotiated_fits q t given fits opens =
    omega (
      arith,
      fits,
      ap length opens,
      length-append (acknowledgments q t) ready_lines,
      length-append (opening q t) (shallow_info t.boundary ++ wanted_refs t.wanted (want_refs_in q)),
    )

pub have_fits : (next : ℕ) (any : Bool) (q : List Arg) (t : FetchFacts) (given : List Pkt) → AtHave next any q t given
    → length given ≤ length (before_pack q t)
have_fits next any q t given h =
    negotiated_fits q t given (omega (arith, ap length h.given_is, acks_fit (picked t.has (haves_in q)))) (opening_is q t h.negotiates)

pub ready_fits : (q : List Arg) (t : FetchFacts) (given : List Pkt) → AtReady q t given → length given ≤ length (before_pack q t)
ready_fits q t given h = negotiated_fits q t given (omega (arith, ap length h.given_is)) (opening_is q t h.negotiates)

so_far_fits : (lines : List Boundary) → length (shallow_so_far lines) ≤ length (shallow_info lines)
so_far_fits [] = omega arith
so_far_fits (line ∷ lines) =
    omega (arith, ap length (so_far_ends (line ∷ lines) refl), length-append (shallow_so_far (line ∷ lines)) (delim ∷ []))

pub shallow_fits : (any : Bool) (q : List Arg) (t : FetchFacts) (given : List Pkt) → AtShallow any q t given → length given ≤ length (before_pack q t)
shallow_fits any q t given h =
    omega (
      arith,
      ap length h.given_is,
      so_far_fits t.boundary,
      length-append (opening q t) (shallow_so_far t.boundary),
      length-append (opening q t) (shallow_info t.boundary ++ wanted_refs t.wanted (want_refs_in q)),
      length-append (shallow_info t.boundary) (wanted_refs t.wanted (want_refs_in q)),
    )
