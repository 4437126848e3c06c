-- What a server has to send, by its phase.
use Rattle.std.proofs.Common.{arith, ◌≡◌, ◌<◌, length, length-append, ℕ, Bool, true, false, if◌then◌else◌, List}
use Rattle.std.proofs.Common.{drop, map, [], ◌∷◌, ◌++◌, Option, Some, None, codes, refl, sym, ap, ◌∙◌, subst}
use Rattle.git_pkt.specs.Packets.{Pkt, flush}
use Rattle.git_pkt.specs.Splits.{Given}
use Rattle.git_pkt.specs.declared.fault.Fault.{Fault}
use Rattle.git_msg.specs.declared.offers.Offer.{Offer}
use Rattle.git_server.specs.Repository.{Repository}
use Rattle.git_server.specs.Machine.AnsweredRequest.{IsNext, IsAnswerFrom, most_from}
use Rattle.git_server.specs.Answers.{offered_line, error_packet, info_packet, reference_packet, shown_refs, unborn_packets}
use Rattle.git_server.specs.Packs.{whole, broken}
use Rattle.git_server.specs.Machine.AdvertisementLines.{format_on, advertisement_packet, advertisement_line_after, advertisement_from, advertisement_after}
use Rattle.git_server.specs.Machine.Phases.{FlushIsAt, LeftIn, MayBreak, advertising_phase, kept_in, outcome_in, AreUnsent, most_unsent, stored_in}
use Rattle.git_server.specs.Machine.LatePacks.{HasNoPackUnsentIn}
use Rattle.git_server.specs.declared.advertisement.AdvertisementLine.{AdvertisementLine}
use Rattle.git_server.specs.declared.advertisement.AdvertisementLine.TheVariants.{Version, Agent, LsRefs, Fetch, ServerOption, ObjectFormat, ObjectInfo, End}
use Rattle.git_server.specs.declared.answer.Answer.{Answer}
use Rattle.git_server.specs.declared.answer.Answer.TheVariants.{References, Fetching, Sizes}
use Rattle.git_server.specs.declared.ls_refs.ReferencesPlace.TheVariants.{First, Entry}
use Rattle.git_server.specs.declared.object_info.SizesPlace.TheVariants.{Header as SizesHeader, Object}
use Rattle.git_server.specs.declared.answer.Answered.TheVariants.{Part}
use Rattle.git_server.specs.declared.outcome.Outcome.TheVariants.{Refused}
use Rattle.git_server.specs.declared.server.Phase.{Phase}
use Rattle.git_server.specs.declared.server.Phase.TheVariants.{Advertising, Between, Answering, Refusing}
use Rattle.git_server.proofs.FetchPackets.{some_of_fetch}
use Rattle.git_msg.specs.Asked.{oids_in, ref_prefixes_in, peel_in, symrefs_in}

option_lines : (offer : Offer) (b : Bool)
    → offered_line b (codes "server-option") ++ format_on offer ≡ advertisement_from offer (if b then ServerOption else ObjectFormat)
option_lines offer true = refl
option_lines offer false = refl

info_lines : (offer : Offer) (b : Bool)
    → offered_line b (codes "object-info") ++ flush ∷ [] ≡ advertisement_from offer (if b then ObjectInfo else End)
info_lines offer true = refl
info_lines offer false = refl

pub one_line : (offer : Offer) (line : AdvertisementLine)
    → advertisement_from offer line ≡ advertisement_packet offer line ∷ advertisement_after offer (advertisement_line_after offer line)
one_line offer Version = refl
one_line offer Agent = refl
one_line offer LsRefs = refl
one_line offer Fetch = ap (λ (l : List Pkt). advertisement_packet offer Fetch ∷ l) (option_lines offer offer.server_option)
one_line offer ServerOption = refl
one_line offer ObjectFormat = ap (λ (l : List Pkt). advertisement_packet offer ObjectFormat ∷ l) (info_lines offer offer.object_info)
one_line offer ObjectInfo = refl
one_line offer End = refl

some_packets : (packets : List Pkt) → 0 < length (packets ++ flush ∷ [])
some_packets [] = omega arith
some_packets (p ∷ ps) = omega arith

some_after : (first packets : List Pkt) → 0 < length (first ++ (packets ++ flush ∷ []))
some_after first packets = omega (arith, length-append first (packets ++ flush ∷ []), some_packets packets)

-- after a line of the advertisement no answer breaks off
module _ {A : Type 0} where
  pub whole_advertising : (o : Option AdvertisementLine) (repo : Repository) (phase : Phase A) (later : List Pkt) → phase ≡ advertising_phase o
      → MayBreak repo phase later → ⊥
  whole_advertising (Some line) repo phase later is may = subst (λ (p : Phase A). MayBreak repo p later) is may
  whole_advertising None repo phase later is may = subst (λ (p : Phase A). MayBreak repo p later) is may

module _ {A : Type 0} where
  advertising_is_unsent : (offer : Offer) (repo : Repository) (o : Option AdvertisementLine) (phase : Phase A) (later : List Pkt) → phase ≡ advertising_phase o
      → AreUnsent offer repo phase later → later ≡ advertisement_after offer o
  advertising_is_unsent offer repo (Some line) phase later is has_unsent = subst (λ (p : Phase A). AreUnsent offer repo p later) is has_unsent
  advertising_is_unsent offer repo None phase later is has_unsent = subst (λ (p : Phase A). AreUnsent offer repo p later) is has_unsent

  advertising_most : (offer : Offer) (repo : Repository) (o : Option AdvertisementLine) (phase : Phase A) → phase ≡ advertising_phase o
      → most_unsent offer repo phase ≡ length (advertisement_after offer o)
  advertising_most offer repo (Some line) phase is = ap (most_unsent offer repo) is
  advertising_most offer repo None phase is = ap (most_unsent offer repo) is

  -- after such a line no request is kept
  pub none_kept_in_advertising : (o : Option AdvertisementLine) (phase : Phase A) → phase ≡ advertising_phase o → kept_in phase ≡ 0
  none_kept_in_advertising (Some line) phase is = ap kept_in is
  none_kept_in_advertising None phase is = ap kept_in is

  pub none_stored_in_advertising : (o : Option AdvertisementLine) (phase : Phase A) → phase ≡ advertising_phase o → stored_in phase ≡ 0
  none_stored_in_advertising (Some line) phase is = ap stored_in is
  none_stored_in_advertising None phase is = ap stored_in is

  pub none_unsent_in_advertising : (o : Option AdvertisementLine) (phase : Phase A) (repo : Repository) → phase ≡ advertising_phase o
      → HasNoPackUnsentIn repo phase
  none_unsent_in_advertising (Some line) phase repo is = subst (HasNoPackUnsentIn repo) (sym is) tt
  none_unsent_in_advertising None phase repo is = subst (HasNoPackUnsentIn repo) (sym is) tt

  -- after a line of the advertisement the other lines are pending
  pub line_behind : (offer : Offer) (repo : Repository) (old new : Phase A) (line : AdvertisementLine) (next : Option AdvertisementLine) (packet : Pkt)
      → old ≡ Advertising line → packet ≡ advertisement_packet offer line
      → next ≡ advertisement_line_after offer line → new ≡ advertising_phase next
      → (later : List Pkt) → AreUnsent offer repo new later → AreUnsent offer repo old (packet ∷ later)
  line_behind offer repo old new line next packet was packet_is next_is is later has_unsent =
      subst (λ (p : Phase A). AreUnsent offer repo p (packet ∷ later)) (sym was)
      (ap (λ (l : List Pkt). packet ∷ l) (advertising_is_unsent offer repo next new later is has_unsent ∙ ap (advertisement_after offer) next_is)
      ∙ ap (λ (p : Pkt). p ∷ advertisement_after offer (advertisement_line_after offer line)) packet_is ∙ sym (one_line offer line))

  pub fewer_lines : (offer : Offer) (repo : Repository) (old new : Phase A) (line : AdvertisementLine) (next : Option AdvertisementLine)
      → old ≡ Advertising line
      → next ≡ advertisement_line_after offer line → new ≡ advertising_phase next → most_unsent offer repo new < most_unsent offer repo old
  fewer_lines offer repo old new line next was next_is is =
      let after = advertising_most offer repo next new is ∙ ap (λ (o : Option AdvertisementLine). length (advertisement_after offer o)) next_is in
      omega (arith, after, ap (most_unsent offer repo) was, ap length (one_line offer line))

  -- something of an answer that is not whole is left
  pub some_left : (repo : Repository) (answer : Answer A) → 0 < most_from repo answer
  some_left repo (References request First) = some_after (unborn_packets request.asked repo.unborn_head)
      (map (reference_packet (symrefs_in request.asked) (peel_in request.asked)) (shown_refs (ref_prefixes_in request.asked) repo.refs))
  some_left repo (References request (Entry next)) = some_packets (map (reference_packet (symrefs_in request.asked) (peel_in request.asked))
      (shown_refs (ref_prefixes_in request.asked) (drop next repo.refs)))
  some_left repo (Fetching request place) = some_of_fetch repo request.asked place
  some_left repo (Sizes request SizesHeader) = omega arith
  some_left repo (Sizes request (Object next)) = some_packets (map (info_packet repo) (drop next (oids_in request.asked)))

  module _ (offer : Offer) (repo : Repository) (old : Phase A) (answer : Answer A) (offset : ℕ) (packet : Pkt) (was : old ≡ Answering answer offset) where
    -- one packet of an answer, and more of it
    module _ (other : Answer A) (follows : IsNext (λ m a later. IsAnswerFrom m repo a later) (most_from repo) answer Part other packet) where
      pub part_is_unsent : (later : List Pkt) → AreUnsent offer repo (Answering other offset) later → AreUnsent offer repo old (packet ∷ later)
      part_is_unsent later has_unsent = subst (λ (p : Phase A). AreUnsent offer repo p (packet ∷ later)) (sym was) (follows.0 whole later has_unsent)

      pub part_breaks : (later : List Pkt) → MayBreak repo (Answering other offset) later → MayBreak repo old (packet ∷ later)
      part_breaks later may = subst (λ (p : Phase A). MayBreak repo p (packet ∷ later)) (sym was) (follows.0 broken later may)

      pub part_less : most_unsent offer repo (Answering other offset) < most_unsent offer repo old
      part_less = omega (arith, follows.1, ap (most_unsent offer repo) was)

    -- the last one
    pub last_is_unsent : IsAnswerFrom whole repo answer (packet ∷ [])
        → (later : List Pkt) → AreUnsent {A = A} offer repo Between later → AreUnsent offer repo old (packet ∷ later)
    last_is_unsent follows later nothing =
        subst (λ (p : Phase A). AreUnsent offer repo p (packet ∷ later)) (sym was)
        (subst (λ (l : List Pkt). IsAnswerFrom whole repo answer (packet ∷ l)) (sym nothing) follows)

    pub last_less : most_unsent {A = A} offer repo Between < most_unsent offer repo old
    last_less = omega (arith, some_left repo answer, ap (most_unsent offer repo) was)

  -- a phase without outcome, in which no part of a request is left
  pub record IsQuiet (phase : Phase A) : Type 0 where
    pub none : outcome_in phase ≡ None
    pub out : (left : List Given) → LeftIn phase left → left ≡ []
    pub back : (left : List Given) → left ≡ [] → LeftIn phase left

  quiet_advertising : (line : AdvertisementLine) → IsQuiet (Advertising line)
  quiet_advertising line = record { none = refl; out = λ left h. h; back = λ left h. h }

  quiet_answering : (answer : Answer A) (offset : ℕ) → IsQuiet (Answering answer offset)
  quiet_answering answer offset = record { none = refl; out = λ left h. h; back = λ left h. h }

  quiet_between : IsQuiet Between
  quiet_between = record { none = refl; out = λ left h. h; back = λ left h. h }

  quiet_by : (o : Option AdvertisementLine) → IsQuiet (advertising_phase o)
  quiet_by (Some line) = quiet_advertising line
  quiet_by None = quiet_between

  pub is_advertising : (phase : Phase A) (line : AdvertisementLine) → phase ≡ Advertising line → IsQuiet phase
  is_advertising phase line is = subst IsQuiet (sym is) (quiet_advertising line)

  pub is_answering : (phase : Phase A) (answer : Answer A) (offset : ℕ) → phase ≡ Answering answer offset → IsQuiet phase
  is_answering phase answer offset is = subst IsQuiet (sym is) (quiet_answering answer offset)

  pub is_between : (phase : Phase A) → phase ≡ Between → IsQuiet phase
  is_between phase is = subst IsQuiet (sym is) quiet_between

  pub is_advertised : (phase : Phase A) (o : Option AdvertisementLine) → phase ≡ advertising_phase o → IsQuiet phase
  is_advertised phase o is = subst IsQuiet (sym is) (quiet_by o)

  pub same_outcome : (old new : Phase A) → IsQuiet old → IsQuiet new → outcome_in new ≡ outcome_in old
  same_outcome old new q r = r.none ∙ sym q.none

  pub left_stays : (old new : Phase A) → IsQuiet old → IsQuiet new → (left : List Given) → LeftIn old left → LeftIn new left
  left_stays old new q r left h = r.back left (q.out left h)

  -- while one request is answered its flush is where it was; after a line of the advertisement none is answered
  pub flush_stays : (answer : Answer A) (offset : ℕ) (old : Phase A) (other : Answer A) → old ≡ Answering answer offset → (packets : List Given)
      → FlushIsAt old packets → FlushIsAt (Answering other offset) packets
  flush_stays answer offset old other was packets h = subst (λ (p : Phase A). FlushIsAt p packets) was h

  pub flush_unasked : (o : Option AdvertisementLine) (phase : Phase A) → phase ≡ advertising_phase o → (packets : List Given) → FlushIsAt phase packets
  flush_unasked (Some line) phase is packets = subst (λ (p : Phase A). FlushIsAt p packets) (sym is) tt
  flush_unasked None phase is packets = subst (λ (p : Phase A). FlushIsAt p packets) (sym is) tt

  -- after the packet of a fault nothing is pending
  pub refusal_behind : (offer : Offer) (repo : Repository) (old : Phase A) (fault : Fault) (packet : Pkt) → old ≡ Refusing fault → packet ≡ error_packet fault
      → (later : List Pkt) → later ≡ [] → AreUnsent offer repo old (packet ∷ later)
  refusal_behind offer repo old fault packet was is later nothing = subst (λ (p : Phase A). AreUnsent offer repo p (packet ∷ later)) (sym was)
      (ap (λ (l : List Pkt). packet ∷ l) nothing ∙ ap (λ (p : Pkt). p ∷ []) is)

  pub refusal_outcome : (old : Phase A) (fault : Fault) → old ≡ Refusing fault → Some (Refused fault) ≡ outcome_in old
  refusal_outcome old fault was = sym (ap outcome_in was)

  pub refusal_left : (old : Phase A) (fault : Fault) → old ≡ Refusing fault → (left : List Given) → LeftIn old left → left ≡ []
  refusal_left old fault was left h = subst (λ (p : Phase A). LeftIn p left) was h
