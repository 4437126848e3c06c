-- The packets of the answer to a fetch: one more of them, that there are always some that end it, and that they have one
-- flush.
use Rattle.std.proofs.Common.{arith, ◌≡◌, ℕ, ◌<◌, Bool, true, false, Option, Some, None, List, [], ◌∷◌, ◌++◌, codes, drop, length, map}
use Rattle.std.proofs.Common.{refl, sym, ap, ◌∙◌, subst}
use Rattle.std.specs.List.{filter_map}
use Rattle.git_names.specs.ObjectName.{ObjectName}
use Rattle.git_pkt.specs.Packets.{Pkt, flush, flushes, delim}
use Rattle.git_msg.specs.declared.Boundary.{Boundary}
use Rattle.git_msg.specs.declared.Boundary.TheVariants.{Shallow, Unshallow}
use Rattle.git_msg.specs.Asked.{haves_in, want_refs_in}
use Rattle.git_msg.specs.WrittenRequest.{text_line}
use Rattle.git_server.specs.Repository.{Repository, found_ref}
use Rattle.git_server.specs.Packs.{Manner, whole, broken, IsPackfile}
use Rattle.git_server.specs.Machine.AnsweredRequest.{IsNext}
use Rattle.git_server.specs.FetchAnswers.{EndsWithBoundary, EndsWithRefs, IsAfter, IsFetchAnswer, IsFetchAnswerBy, IsNegotiated, ack_packet}
use Rattle.git_server.specs.FetchAnswers.{acknowledgments, boundary_packet, common, is_ready_for, nak_or_acks, negotiates, ready_lines, shallow_info}
use Rattle.git_server.specs.FetchAnswers.{wanted_packet}
use Rattle.git_server.specs.FetchAnswers.{wanted_refs}
use Rattle.git_server.specs.Machine.FetchPlaces.{IsFetchFrom, acknowledgments_from, acks_by, boundary_from}
use Rattle.git_server.specs.Machine.FetchPlaces.{most_fetch, most_packets, place_by, wanted_from}
use Rattle.git_server.specs.declared.acknowledgments.AcknowledgmentsPlace.{AcknowledgmentsPlace}
use Rattle.git_server.specs.declared.acknowledgments.AcknowledgmentsPlace.TheVariants.{Header as AcknowledgmentsHeader, Have, Through}
use Rattle.git_server.specs.declared.answer.Answered.TheVariants.{Part}
use Rattle.git_server.specs.declared.fetching.FetchPlace.{FetchPlace}
use Rattle.git_server.specs.declared.fetching.FetchPlace.TheVariants.{Acknowledgments, Delimiter, ShallowInfo, WantedRefs, Packfile}
use Rattle.git_server.specs.declared.packfile.PackPlace.{PackPlace}
use Rattle.git_server.specs.declared.packfile.PackPlace.TheVariants.{Header as PackHeader, Pack}
use Rattle.git_server.specs.declared.sections.SectionPlace.{SectionPlace}
use Rattle.git_server.specs.declared.sections.SectionPlace.TheVariants.{Header, Line}
use Rattle.git_server.proofs.Flushes.{flushes-append}
use Rattle.git_server.proofs.PackPackets.{broken_packfile_has_none, packfile_ends_later, some_packfile}
use Rattle.git_msg.specs.Arguments.{Arg}

-- Of an answer that was not begun.

pub whole_fetch : (manner : Manner) (repo : Repository) (q : List Arg) (b : Bool) (later : List Pkt)
    → IsFetchFrom manner repo q (place_by b) later → IsFetchAnswerBy b manner repo q later
whole_fetch manner repo q true later h = h
whole_fetch manner repo q false later h = h

-- One packet more of the acknowledgments.

-- one of these packets, and then the others
one_first : (xs ys : List Pkt) (P : List Pkt → Type 0) (packet : Pkt) (later : List Pkt)
    → xs ≡ packet ∷ ys → IsAfter ys P later → IsAfter xs P (packet ∷ later)
one_first xs ys P packet later one h = record {
  others = h.others;
  holds = h.holds;
  packets_are = ap (λ (l : List Pkt). packet ∷ l) h.packets_are ∙ ap (λ (l : List Pkt). l ++ h.others) (sym one);
}

-- one of the acknowledgments, and then the others
negotiates_on : (ready : Bool) (manner : Manner) (repo : Repository) (q : List Arg) (xs ys : List Pkt) (packet : Pkt) (later : List Pkt)
    → xs ≡ packet ∷ ys → IsNegotiated ready ys manner repo q later → IsNegotiated ready xs manner repo q (packet ∷ later)
negotiates_on true manner repo q xs ys packet later one h =
    one_first (xs ++ ready_lines) (ys ++ ready_lines) (EndsWithBoundary manner repo q) packet later (ap (λ (l : List Pkt). l ++ ready_lines) one) h
negotiates_on false whole repo q xs ys packet later one h =
    ap (λ (l : List Pkt). packet ∷ l) h ∙ ap (λ (l : List Pkt). l ++ flush ∷ []) (sym one)
negotiates_on false broken repo q xs ys packet later one h = absurd h

-- the `ready` line
negotiates_ready : (ready : Bool) (manner : Manner) (repo : Repository) (q : List Arg) (xs : List Pkt) (later : List Pkt)
    → xs ≡ [] → ready ≡ true → IsAfter (delim ∷ []) (EndsWithBoundary manner repo q) later
    → IsNegotiated ready xs manner repo q (text_line (codes "ready") ∷ later)
negotiates_ready true manner repo q xs later none is h =
    one_first (xs ++ ready_lines) (delim ∷ []) (EndsWithBoundary manner repo q) (text_line (codes "ready")) later
    (ap (λ (l : List Pkt). l ++ ready_lines) none) h
negotiates_ready false manner repo q xs later none is h = absurd (cc)

module _ (repo : Repository) (q : List Arg) (place : AcknowledgmentsPlace) (packet : Pkt) (old : FetchPlace) (is : old ≡ Acknowledgments place) where
  abbrev pub IsNextFrom : FetchPlace → FetchPlace → Type 0
  IsNextFrom from new = IsNext (λ m p later. IsFetchFrom m repo q p later) (most_fetch repo q) from Part new packet

  abbrev pub lines : AcknowledgmentsPlace → List Pkt
  lines = acknowledgments_from repo q

  pub line_follows : (next : AcknowledgmentsPlace) → lines place ≡ packet ∷ lines next → IsNextFrom old (Acknowledgments next)
  line_follows next one = subst (λ (from : FetchPlace). IsNextFrom from (Acknowledgments next)) (sym is) (
    λ manner later h. negotiates_on (is_ready_for repo q) manner repo q (lines place) (lines next) packet later one h,
    omega (arith, ap length one),
  )

  pub ready_follows : (lines place ≡ []) × (is_ready_for repo q ≡ true) × (packet ≡ text_line (codes "ready")) → IsNextFrom old Delimiter
  ready_follows (none, ready, announced) = subst (λ (from : FetchPlace). IsNextFrom from Delimiter) (sym is) (
    λ manner later h. subst (λ (p : Pkt). IsNegotiated (is_ready_for repo q) (lines place) manner repo q (p ∷ later)) (sym announced)
        (negotiates_ready (is_ready_for repo q) manner repo q (lines place) later none ready h),
    omega (arith, ap length none),
  )

-- Some packets end an answer, from each place on.

some_after : (first : List Pkt) (P : List Pkt → Type 0) → (later : List Pkt) × P later → (later : List Pkt) × IsAfter first P later
some_after first P (later, h) = (first ++ later, record { others = later; holds = h; packets_are = refl })

some_from_refs : (repo : Repository) (q : List Arg) (at : SectionPlace) → (later : List Pkt) × IsFetchFrom whole repo q (WantedRefs at) later
some_from_refs repo q at = some_after (wanted_from repo (want_refs_in q) at) (IsPackfile whole (repo.pack q)) (some_packfile (repo.pack q) PackHeader)

some_from_boundary : (repo : Repository) (q : List Arg) (at : SectionPlace) → (later : List Pkt) × IsFetchFrom whole repo q (ShallowInfo at) later
some_from_boundary repo q at = some_after (boundary_from (repo.boundaries q) at) (EndsWithRefs whole repo q) (some_from_refs repo q Header)

some_negotiated : (ready : Bool) (repo : Repository) (q : List Arg) (lines : List Pkt) → (later : List Pkt) × IsNegotiated ready lines whole repo q later
some_negotiated true repo q lines = some_after (lines ++ ready_lines) (EndsWithBoundary whole repo q) (some_from_boundary repo q Header)
some_negotiated false repo q lines = (lines ++ flush ∷ [], refl)

pub some_fetch : (repo : Repository) (q : List Arg) (place : FetchPlace) → (later : List Pkt) × IsFetchFrom whole repo q place later
some_fetch repo q (Acknowledgments at) = some_negotiated (is_ready_for repo q) repo q (acknowledgments_from repo q at)
some_fetch repo q Delimiter = some_after (delim ∷ []) (EndsWithBoundary whole repo q) (some_from_boundary repo q Header)
some_fetch repo q (ShallowInfo at) = some_from_boundary repo q at
some_fetch repo q (WantedRefs at) = some_from_refs repo q at
some_fetch repo q (Packfile at) = some_packfile (repo.pack q) at

some_of_pack : (pack : List ℕ) (place : PackPlace) → 0 < most_packets pack place
some_of_pack pack PackHeader = omega arith
some_of_pack pack (Pack offset) = omega arith

pub some_of_fetch : (repo : Repository) (q : List Arg) (place : FetchPlace) → 0 < most_fetch repo q place
some_of_fetch repo q (Acknowledgments at) = omega arith
some_of_fetch repo q Delimiter = omega arith
some_of_fetch repo q (ShallowInfo at) = omega arith
some_of_fetch repo q (WantedRefs at) = omega arith
some_of_fetch repo q (Packfile at) = some_of_pack (repo.pack q) at

-- Their flushes.

acks_have_none : (ids : List ObjectName) → flushes (map ack_packet ids) ≡ 0
acks_have_none [] = refl
acks_have_none (id ∷ ids) = acks_have_none ids

nak_or_acks_have_none : (ids : List ObjectName) → flushes (nak_or_acks ids) ≡ 0
nak_or_acks_have_none [] = refl
nak_or_acks_have_none (id ∷ ids) = acks_have_none ids

acks_by_have_none : (announced : Bool) (ids : List ObjectName) → flushes (acks_by announced ids) ≡ 0
acks_by_have_none true ids = acks_have_none ids
acks_by_have_none false ids = nak_or_acks_have_none ids

acknowledgments_have_none : (repo : Repository) (q : List Arg) (place : AcknowledgmentsPlace) → flushes (acknowledgments_from repo q place) ≡ 0
acknowledgments_have_none repo q AcknowledgmentsHeader = nak_or_acks_have_none (common repo.has (haves_in q))
acknowledgments_have_none repo q (Have next announced) = acks_by_have_none announced (common repo.has (drop next (haves_in q)))
acknowledgments_have_none repo q Through = refl

boundaries_have_none : (boundaries : List Boundary) → flushes (map boundary_packet boundaries ++ delim ∷ []) ≡ 0
boundaries_have_none [] = refl
boundaries_have_none (Shallow id ∷ boundaries) = boundaries_have_none boundaries
boundaries_have_none (Unshallow id ∷ boundaries) = boundaries_have_none boundaries

boundary_has_none : (boundaries : List Boundary) (at : SectionPlace) → flushes (boundary_from boundaries at) ≡ 0
boundary_has_none [] Header = refl
boundary_has_none (b ∷ boundaries) Header = boundaries_have_none (b ∷ boundaries)
boundary_has_none boundaries (Line next) = boundaries_have_none (drop next boundaries)

wanted_have_none : (repo : Repository) (names : List (List ℕ)) → flushes (filter_map (wanted_packet repo) names ++ delim ∷ []) ≡ 0
wanted_have_none repo [] = refl
wanted_have_none repo (name ∷ names) = one_more (found_ref repo.refs name) refl (wanted_have_none repo names)
  where
    one_more : (found : Option ObjectName) → found_ref repo.refs name ≡ found → flushes (filter_map (wanted_packet repo) names ++ delim ∷ []) ≡ 0
        → flushes (filter_map (wanted_packet repo) (name ∷ names) ++ delim ∷ []) ≡ 0
    one_more None is none = rw is none
    one_more (Some id) is none = rw is none

wanted_has_none : (repo : Repository) (names : List (List ℕ)) (at : SectionPlace) → flushes (wanted_from repo names at) ≡ 0
wanted_has_none repo [] Header = refl
wanted_has_none repo (name ∷ names) Header = wanted_have_none repo (name ∷ names)
wanted_has_none repo names (Line next) = wanted_have_none repo (drop next names)

after_ends : (first : List Pkt) (P : List Pkt → Type 0) (packets : List Pkt) → flushes first ≡ 0 → ((others : List Pkt) → P others → flushes others ≡ 1)
    → IsAfter first P packets → flushes packets ≡ 1
after_ends first P packets none ends h = omega (arith, ap flushes h.packets_are, flushes-append first h.others, none, ends h.others h.holds)

refs_end : (repo : Repository) (q : List Arg) (at : SectionPlace) (packets : List Pkt)
    → IsFetchFrom whole repo q (WantedRefs at) packets → flushes packets ≡ 1
refs_end repo q at packets =
    after_ends (wanted_from repo (want_refs_in q) at) (IsPackfile whole (repo.pack q)) packets (wanted_has_none repo (want_refs_in q) at)
    (packfile_ends_later (repo.pack q) PackHeader)

boundary_ends : (repo : Repository) (q : List Arg) (at : SectionPlace) (packets : List Pkt)
    → IsFetchFrom whole repo q (ShallowInfo at) packets → flushes packets ≡ 1
boundary_ends repo q at packets =
    after_ends (boundary_from (repo.boundaries q) at) (EndsWithRefs whole repo q) packets (boundary_has_none (repo.boundaries q) at) (refs_end repo q Header)

negotiated_ends : (ready : Bool) (repo : Repository) (q : List Arg) (lines packets : List Pkt)
    → flushes lines ≡ 0 → IsNegotiated ready lines whole repo q packets → flushes packets ≡ 1
negotiated_ends true repo q lines packets none h =
    let no_flush = flushes-append lines ready_lines in
    after_ends (lines ++ ready_lines) (EndsWithBoundary whole repo q) packets (omega (arith, no_flush, none)) (boundary_ends repo q Header) h
negotiated_ends false repo q lines packets none h = omega (arith, ap flushes h, flushes-append lines (flush ∷ []), none)

-- from each place on an answer has one flush
pub fetch_ends_later : (repo : Repository) (q : List Arg) (place : FetchPlace) (packets : List Pkt)
    → IsFetchFrom whole repo q place packets → flushes packets ≡ 1
fetch_ends_later repo q (Acknowledgments at) packets h =
    negotiated_ends (is_ready_for repo q) repo q (acknowledgments_from repo q at) packets (acknowledgments_have_none repo q at) h
fetch_ends_later repo q Delimiter packets h = after_ends (delim ∷ []) (EndsWithBoundary whole repo q) packets refl (boundary_ends repo q Header) h
fetch_ends_later repo q (ShallowInfo at) packets h = boundary_ends repo q at packets h
fetch_ends_later repo q (WantedRefs at) packets h = refs_end repo q at packets h
fetch_ends_later repo q (Packfile at) packets h = packfile_ends_later (repo.pack q) at packets h

ends_by : (repo : Repository) (q : List Arg) (b : Bool) (packets : List Pkt) → IsFetchAnswerBy b whole repo q packets → flushes packets ≡ 1
ends_by repo q true packets h = fetch_ends_later repo q (Acknowledgments AcknowledgmentsHeader) packets h
ends_by repo q false packets h = fetch_ends_later repo q (ShallowInfo Header) packets h

pub fetch_ends_once : (repo : Repository) (q : List Arg) (packets : List Pkt) → IsFetchAnswer whole repo q packets → flushes packets ≡ 1
fetch_ends_once repo q packets h = ends_by repo q (negotiates q) packets h

-- an answer that breaks off has none
after_none : (first : List Pkt) (P : List Pkt → Type 0) (packets : List Pkt) → flushes first ≡ 0 → ((others : List Pkt) → P others → flushes others ≡ 0)
    → IsAfter first P packets → flushes packets ≡ 0
after_none first P packets none others h = omega (arith, ap flushes h.packets_are, flushes-append first h.others, none, others h.others h.holds)

broken_refs : (repo : Repository) (q : List Arg) (packets : List Pkt) → EndsWithRefs broken repo q packets → flushes packets ≡ 0
broken_refs repo q packets =
    after_none (wanted_refs repo (want_refs_in q)) (IsPackfile broken (repo.pack q)) packets (wanted_has_none repo (want_refs_in q) Header)
    (broken_packfile_has_none (repo.pack q))

broken_boundary : (repo : Repository) (q : List Arg) (packets : List Pkt) → EndsWithBoundary broken repo q packets → flushes packets ≡ 0
broken_boundary repo q packets =
    after_none (shallow_info (repo.boundaries q)) (EndsWithRefs broken repo q) packets (boundary_has_none (repo.boundaries q) Header) (broken_refs repo q)

broken_negotiated : (ready : Bool) (repo : Repository) (q : List Arg) (lines packets : List Pkt) → flushes lines ≡ 0
    → IsNegotiated ready lines broken repo q packets → flushes packets ≡ 0
broken_negotiated true repo q lines packets none h =
    let no_flush = flushes-append lines ready_lines in
    after_none (lines ++ ready_lines) (EndsWithBoundary broken repo q) packets (omega (arith, no_flush, none)) (broken_boundary repo q) h
broken_negotiated false repo q lines packets none h = absurd h

broken_by : (repo : Repository) (q : List Arg) (b : Bool) (packets : List Pkt) → IsFetchAnswerBy b broken repo q packets → flushes packets ≡ 0
broken_by repo q true packets h =
    broken_negotiated (is_ready_for repo q) repo q (acknowledgments repo q) packets (acknowledgments_have_none repo q AcknowledgmentsHeader) h
broken_by repo q false packets h = broken_boundary repo q packets h

pub broken_fetch_has_none : (repo : Repository) (q : List Arg) (packets : List Pkt) → IsFetchAnswer broken repo q packets → flushes packets ≡ 0
broken_fetch_has_none repo q packets h = broken_by repo q (negotiates q) packets h
