-- Messages end with their flushes, the requests of a client as well as what a server gives.
use Rattle.std.proofs.Common.{arith, if◌then◌else◌, ◌≡◌, ℕ, ◌+◌, Bool, true, false, map, Option, List, [], ◌∷◌}
use Rattle.std.proofs.Common.{◌++◌, length, codes, inl, inr, ◌⊎◌, refl, sym, ap, ◌∙◌, append_assoc, append-nil}
use Rattle.git_names.specs.declared.object_format.Format.{Format}
use Rattle.git_pkt.specs.Packets.{Pkt, flush, flushes}
use Rattle.git_pkt.specs.Splits.{Given}
use Rattle.git_msg.specs.Arguments.{Arg}
use Rattle.git_msg.specs.Asked.{Asked, ls_refs, fetch, object_info, ref_prefixes_in, peel_in, symrefs_in}
use Rattle.git_msg.specs.Agents.{named_if}
use Rattle.git_msg.specs.WrittenRequest.{text_line, agent_line, format_line, lines_written}
use Rattle.git_msg.specs.declared.agent.Agent.{Agent}
use Rattle.git_msg.specs.declared.offers.Caps.{Caps}
use Rattle.git_msg.specs.declared.offers.Offer.{Offer}
use Rattle.git_client.specs.Machine.Client.{questions_of}
use Rattle.git_client.specs.Parts.{Terms, nearest}
use Rattle.git_server.specs.Answers.{advertisement_of, offered_line, fetch_line, ls_refs_line, IsAnswer, reference_packet, shown_refs, unborn_packets}
use Rattle.git_server.specs.FetchAnswers.{EndsWithBoundary, EndsWithRefs, IsAfter, IsFetchAnswerBy, IsNegotiated, acknowledgments, is_ready_for, negotiates}
use Rattle.git_server.specs.Packs.{IsPackfile, packfile_header, whole}
use Rattle.git_server.specs.Repository.{Repository}
use Rattle.git_server.specs.Sessions.{Setting, AreAnswers, advertised}
use Rattle.git_server.proofs.AtRest.{EndsWithFlush, packets_of}
use Rattle.git_server.proofs.Flushes.{flushes-append}
use Rattle.git_server.proofs.OneSession.{line_is_unsent}
use Rattle.git_laws.proofs.RequestsReceived.{lines_clear, lines_end, lines_of}
use Rattle.git_server.specs.declared.advertisement.AdvertisementLine.TheVariants.{Version}

-- ---- lists whose last packet is a flush

pub record LastFlush (qs : List Pkt) : Type 0 where
  pub front : List Pkt
  pub is : qs ≡ front ++ flush ∷ []

last_after : (xs ys : List Pkt) → LastFlush ys → LastFlush (xs ++ ys)
last_after xs ys h = record { front = xs ++ h.front; is = ap (λ (l : List Pkt). xs ++ l) h.is ∙ sym (append_assoc xs h.front (flush ∷ [])) }

last_more : (x : Pkt) (ys : List Pkt) → LastFlush ys → LastFlush (x ∷ ys)
last_more x ys h = record { front = x ∷ h.front; is = ap (λ (l : List Pkt). x ∷ l) h.is }

last_as : (xs ys : List Pkt) → xs ≡ ys → LastFlush ys → LastFlush xs
last_as xs ys e h = record { front = h.front; is = e ∙ h.is }

-- a list is empty, or ends with a flush
abbrev pub Closes : List Pkt → Type 0
Closes qs = (qs ≡ []) ⊎ LastFlush qs

pub closes_both : (xs ys : List Pkt) → Closes xs → Closes ys → Closes (xs ++ ys)
closes_both xs ys first (inr h) = inr (last_after xs ys h)
closes_both xs ys (inl none) (inl e) = inl (ap (λ (l : List Pkt). l ++ ys) none ∙ e)
closes_both xs ys (inr h) (inl e) = inr (last_as (xs ++ ys) xs (ap (λ (l : List Pkt). xs ++ l) e ∙ append-nil xs) h)

nothing_behind : (f front back : List Pkt) → f ++ flush ∷ [] ≡ front ++ back → flushes back ≡ 0 → back ≡ []
nothing_behind f [] back e none = absurd (omega (arith, ap flushes e, flushes-append f (flush ∷ []), none))
nothing_behind [] (x ∷ []) back e none = let h : [] ≡ back = cc in sym h
nothing_behind [] (x ∷ y ∷ front) back e none = absurd (cc)
nothing_behind (y ∷ f) (x ∷ front) back e none = let h : f ++ flush ∷ [] ≡ front ++ back = cc in nothing_behind f front back h none

nothing_both : (front back : List Pkt) → [] ≡ front ++ back → back ≡ []
nothing_both [] back e = sym e
nothing_both (x ∷ front) back e = absurd (cc)

pub ends_closed : (qs : List Pkt) → Closes qs → EndsWithFlush qs
ends_closed qs (inl none) front back e zero = nothing_both front back (sym none ∙ e)
ends_closed qs (inr h) front back e zero = nothing_behind h.front front back (sym h.is ∙ e) zero

-- ---- requests

question_once : (agent : Option Agent) (object_format : Bool) (format : Format) (q : Asked) → flushes (lines_written agent object_format format q) ≡ 1
question_once agent object_format format q =
    omega (
      arith,
      ap flushes (lines_end agent object_format format q),
      flushes-append (lines_of agent object_format format q) (flush ∷ []),
      lines_clear agent object_format format q,
    )

pub questions_close : (t : Terms) (caps : Caps) (asked : List Asked) → Closes (questions_of t caps asked)
questions_close t caps [] = inl refl
questions_close t caps (q ∷ qs) =
    let agent = named_if caps.agent t.agent in
    closes_both (lines_written agent caps.object_format t.format q) (questions_of t caps qs)
    (inr (record { front = lines_of agent caps.object_format t.format q; is = lines_end agent caps.object_format t.format q }))
    (questions_close t caps qs)

pub questions_count : (t : Terms) (caps : Caps) (asked : List Asked) → flushes (questions_of t caps asked) ≡ length asked
questions_count t caps [] = refl
questions_count t caps (q ∷ qs) =
    omega (
      arith,
      flushes-append (lines_written (named_if caps.agent t.agent) caps.object_format t.format q) (questions_of t caps qs),
      question_once (named_if caps.agent t.agent) caps.object_format t.format q,
      questions_count t caps qs,
    )

-- ---- answers

after_last : (first : List Pkt) (P : List Pkt → Type 0) (packets : List Pkt) → ((others : List Pkt) → P others → LastFlush others) → IsAfter first P packets
    → LastFlush packets
after_last first P packets ends h = last_as packets (first ++ h.others) h.packets_are (last_after first h.others (ends h.others h.holds))

packfile_last : (pack : List ℕ) (packets : List Pkt) → IsPackfile whole pack packets → LastFlush packets
packfile_last pack packets h =
    last_as packets (packfile_header ∷ h.tail) h.packets_are (last_more packfile_header h.tail (record { front = h.ends.bands; is = h.ends.packets_are }))

refs_last : (repo : Repository) (q : List Arg) (packets : List Pkt) → EndsWithRefs whole repo q packets → LastFlush packets
refs_last repo q packets = after_last _ (IsPackfile whole (repo.pack q)) packets (packfile_last (repo.pack q))

boundary_last : (repo : Repository) (q : List Arg) (packets : List Pkt) → EndsWithBoundary whole repo q packets → LastFlush packets
boundary_last repo q packets = after_last _ (EndsWithRefs whole repo q) packets (refs_last repo q)

negotiated_last : (ready : Bool) (repo : Repository) (q : List Arg) (lines packets : List Pkt) → IsNegotiated ready lines whole repo q packets
    → LastFlush packets
negotiated_last true repo q lines packets h = after_last _ (EndsWithBoundary whole repo q) packets (boundary_last repo q) h
negotiated_last false repo q lines packets h = record { front = lines; is = h }

fetch_last : (repo : Repository) (q : List Arg) (b : Bool) (packets : List Pkt) → IsFetchAnswerBy b whole repo q packets → LastFlush packets
fetch_last repo q true packets h = negotiated_last (is_ready_for repo q) repo q (acknowledgments repo q) packets h
fetch_last repo q false packets h = boundary_last repo q packets h

answer_last : (repo : Repository) (q : Asked) (packets : List Pkt) → IsAnswer repo q packets → LastFlush packets
answer_last repo (ls_refs q) packets h =
    let unborn = unborn_packets q repo.unborn_head in
    let shown = map (reference_packet (symrefs_in q) (peel_in q)) (shown_refs (ref_prefixes_in q) repo.refs) in
    record { front = unborn ++ shown; is = h ∙ sym (append_assoc unborn shown (flush ∷ [])) }
answer_last repo (object_info q) packets h = record { front = _ ∷ _; is = h }
answer_last repo (fetch q) packets h = fetch_last repo q (negotiates q) packets h

answers_close : (repo : Repository) (asked : List Asked) (packets : List Pkt) → AreAnswers repo asked packets → Closes packets
answers_close repo [] packets h = inl h
answers_close repo (q ∷ qs) packets (answer, more, e, is, later) =
    rw e (closes_both answer more (inr (answer_last repo q answer is)) (answers_close repo qs more later))

offered_last : (offer : Offer) → LastFlush (advertisement_of offer)
offered_last offer = record {
  front = text_line (codes "version 2") ∷ agent_line offer.agent ∷ ls_refs_line offer ∷ fetch_line offer
      ∷ (offered_line offer.server_option (codes "server-option")
      ++ format_line offer.format ∷ offered_line offer.object_info (codes "object-info"));
  is = simp append_assoc;
}

advertised_close : (b : Bool) (offer : Offer) → Closes (if b then advertisement_of offer else [])
advertised_close true offer = inr (offered_last offer)
advertised_close false offer = inl refl

pub given_close : (s : Setting) (asked : List Asked) (answers : List Pkt) → AreAnswers s.repo asked answers → Closes (advertised s ++ answers)
given_close s asked answers h = closes_both (advertised s) answers (advertised_close s.advertise s.offer) (answers_close s.repo asked answers h)

-- an advertisement has one flush
pub advertises_once : (s : Setting) → s.advertise ≡ true → flushes (advertised s) ≡ 1
advertises_once s is = rw is (line_is_unsent s.offer Version)

-- ---- packets, the nearest first

pub flushes_nearest : (gs : List Given) (before : List Pkt) → flushes (nearest gs before) ≡ flushes (packets_of gs) + flushes before
flushes_nearest [] before = omega arith
flushes_nearest (g ∷ gs) before = one g.packet refl (flushes_nearest gs (g.packet ∷ before)) where
  one : (p : Pkt) → g.packet ≡ p → flushes (nearest gs (g.packet ∷ before)) ≡ flushes (packets_of gs) + flushes (g.packet ∷ before)
      → flushes (nearest gs (g.packet ∷ before)) ≡ flushes (g.packet ∷ packets_of gs) + flushes before
  one p e h = omega (arith, h, flushes-append (g.packet ∷ []) (packets_of gs), flushes-append (g.packet ∷ []) before)
