-- A server to which whole requests were sent, and which sent as many messages as they are: it used all of them, has nothing to send, and waits.
use Rattle.std.proofs.Common.{arith, ◌≡◌, ◌≢◌, ℕ, ◌+◌, ◌/◌, ◌≤◌, ◌<◌, true, false, length, map, List, [], ◌∷◌, ◌++◌, Option, Some, None, refl, sym, ap, ◌∙◌}
use Rattle.std.proofs.Common.{append_assoc, append-nil, subst, length-append, slice_index, inl, inr}
use Rattle.std.proofs.lemmas.List.{get_or_append_left, get_or_past, map-append}
use Rattle.std.proofs.lemmas.Bool.{cases_lt}
use Rattle.git_names.specs.Digits.{digit_value, lower_digit}
use Rattle.git_pkt.specs.Digits.{digits_of, digits_value}
use Rattle.git_pkt.specs.Packets.{Pkt, flush, flushes, delim, resp_end, payload, Spells, body_of, length_field, longest_payload, spelling_of}
use Rattle.git_pkt.specs.Splits.{Given, SpellsAll}
use Rattle.git_pkt.specs.Faults.{StopsBy, last_position}
use Rattle.git_pkt.specs.declared.fault.Fault.{Fault}
use Rattle.git_pkt.specs.declared.fault.Kind.{Kind}
use Rattle.git_pkt.specs.declared.fault.Kind.TheVariants.{BadDigit, BadLength, TooLong, PackSource, RemoteError, StreamTooLong, Truncated}
use Rattle.git_pkt.proofs.Spelling.{allowed_field, digits_value-append, same_start}
use Rattle.git_pkt.proofs.Written.{digits_value-digits_of, spells_written}
use Rattle.git_msg.specs.Asked.{Asked, ls_refs, fetch, object_info}
use Rattle.git_msg.specs.WholeRequests.{AreRequests}
use Rattle.git_msg.proofs.WholeRequests.{NoFlush, lines_have_no_flush}
use Rattle.git_server.specs.Repository.{RepoState}
use Rattle.git_server.specs.Packs.{broken}
use Rattle.git_server.specs.Answers.{AllFit, IsAnswerAs, spelled}
use Rattle.git_server.specs.Sessions.{Setting, EndsBy, IsEnding, IsRequest, IsTail, IsTailBy, Stream, advertised}
use Rattle.git_server.specs.Machine.Server.{Running, StandsBy, outcome_of, wants_input}
use Rattle.git_server.specs.declared.outcome.Outcome.{Outcome}
use Rattle.git_server.specs.declared.outcome.Outcome.TheVariants.{Closed, Flush, Refused}
use Rattle.git_server.specs.declared.server.Server.{Server}
use Rattle.git_server.proofs.FetchPackets.{broken_fetch_has_none}
use Rattle.git_server.proofs.Flushes.{flushes-append}
use Rattle.git_server.proofs.Going.{some_unsent}
use Rattle.git_server.proofs.OneSession.{answers_end, flush_unsent}
use Rattle.git_server.proofs.Sent.{is_whole}

-- ---- packets that begin as a whole one does

-- a number past the digits has none
no_digit : (n : ℕ) → 16 ≤ n → digit_value (lower_digit n) ≡ 16
unfolding lower_digit digit_value
no_digit n far = rw (get_or_past {X = ℕ} (48 ∷ 49 ∷ 50 ∷ 51 ∷ 52 ∷ 53 ∷ 54 ∷ 55 ∷ 56 ∷ 57 ∷ 97 ∷ 98 ∷ 99 ∷ 100 ∷ 101 ∷ 102 ∷ []) n 0 (omega (arith, far))) refl

-- a number whose first digit is one is below 65,536
below : (n : ℕ) → digit_value (lower_digit (n / 4096)) < 16 → n < 65536
below n digit = elim (cases_lt n 65536) [
  | inl few ↦ few
  | inr far ↦ absurd (omega (arith, digit, no_digit (n / 4096) (omega (arith, far))))
]

few_bytes : (q : Pkt) → length_field q ≤ 65520 → length (body_of q) ≤ longest_payload
few_bytes flush few = omega arith
few_bytes delim few = omega arith
few_bytes resp_end few = omega arith
few_bytes (payload bytes) few = omega (arith, few)

-- a spelling that begins as some whole packet does is that of a packet of the wire
pub fits_where_begun : (p q : Pkt) (s x y : List ℕ) → Spells p s → s ++ x ≡ spelling_of q ++ y → length (body_of q) ≤ longest_payload
fits_where_begun p q s x y h e =
    let first : slice_index s 0 ≡ lower_digit (length_field q / 4096) =
    sym (get_or_append_left s x 0 0 (omega (arith, h.digits.four))) ∙ ap (λ (l : List ℕ). slice_index l 0) e in
    let small : length_field q < 65536 = below (length_field q) (subst (λ (c : ℕ). digit_value c < 16) first (h.digits.digits 0 (omega arith))) in
    let value : digits_value s ≡ length_field q =
    sym (digits_value-append s x h.digits.four) ∙ ap digits_value (e ∙ append_assoc (digits_of (length_field q)) (body_of q) y)
    ∙ digits_value-digits_of (length_field q) (body_of q ++ y) small in
    few_bytes q (omega (arith, value, (allowed_field p s h).1))

-- the packets, wherever they are
abbrev pub packets_of : List Given → List Pkt
packets_of gs = map (λ g. g.packet) gs

-- the packets of a front of spelled packets are the first of these, and what is left spells the others
pub record IsFront (qs : List Pkt) (gs : List Given) (left : List ℕ) : Type 0 where
  pub more : List Pkt
  pub parts : qs ≡ packets_of gs ++ more
  pub left_is : left ≡ spelled more

pub front_of : (p : ℕ) (used unused rest : List ℕ) (gs : List Given) (qs : List Pkt) → SpellsAll p used gs rest → used ++ unused ≡ spelled qs
    → IsFront qs gs (rest ++ unused)
front_of p used unused rest [] qs h e = record { more = qs; parts = refl; left_is = ap (λ (l : List ℕ). l ++ unused) (sym h) ∙ e }
front_of p used unused rest (g ∷ gs) [] (s, later, parts, at, spells, tail) e =
    absurd (omega (arith, spells.digits.four, ap length parts, length-append s later, ap length e, length-append used unused))
front_of p used unused rest (g ∷ gs) (q ∷ qs) (s, later, parts, at, spells, tail) e =
    let both : s ++ (later ++ unused) ≡ spelling_of q ++ spelled qs =
    sym (append_assoc s later unused) ∙ ap (λ (l : List ℕ). l ++ unused) (sym parts) ∙ e in
    let same = same_start g.packet q s (spelling_of q) (later ++ unused) (spelled qs) spells
    (spells_written q (fits_where_begun g.packet q s (later ++ unused) (spelled qs) spells both)) both in
    let front = front_of (p + length s) later unused rest gs qs tail same.rest in
    record {
      more = front.more;
      parts = ap (λ (x : Pkt). x ∷ qs) (sym same.packet) ∙ ap (λ (xs : List Pkt). g.packet ∷ xs) front.parts;
      left_is = front.left_is;
    }

-- ---- how many flushes there are

-- nothing without a flush is at the end
abbrev pub EndsWithFlush : List Pkt → Type 0
EndsWithFlush qs = (front back : List Pkt) → qs ≡ front ++ back → flushes back ≡ 0 → back ≡ []

none_flushes : (gs : List Given) → NoFlush gs → flushes (packets_of gs) ≡ 0
none_flushes [] none = refl
none_flushes (g ∷ gs) none = first g.packet none.0 (none_flushes gs none.1) where
  first : (p : Pkt) → p ≢ flush → flushes (packets_of gs) ≡ 0 → flushes (p ∷ packets_of gs) ≡ 0
  first flush other later = absurd (other refl)
  first delim other later = later
  first resp_end other later = later
  first (payload bytes) other later = later

flushes_of_both : (front back : List Given) → flushes (packets_of (front ++ back)) ≡ flushes (packets_of front) + flushes (packets_of back)
flushes_of_both front back = ap flushes (map-append (λ (g : Given). g.packet) front back) ∙ flushes-append (packets_of front) (packets_of back)

module _ (s : Setting) where
  request_flushes : (packets : List Given) (q : Asked) → IsRequest s packets q → flushes (packets_of packets) ≡ 1
  request_flushes packets q (kept, asks, had) =
      let none = none_flushes asks.front (lines_have_no_flush s.offer s.limit [] asks.front asks.lines asks.taken) in
      let last : flushes (asks.last.packet ∷ []) ≡ 1 = ap (λ (p : Pkt). flushes (p ∷ [])) asks.ends in
      omega (arith, ap (λ (gs : List Given). flushes (packets_of gs)) asks.whole, flushes_of_both asks.front (asks.last ∷ []), none, last)

  requests_flushes : (packets : List Given) (asked : List Asked) (left : List Given) → AreRequests (IsRequest s) packets asked left
      → flushes (packets_of packets) ≡ length asked + flushes (packets_of left)
  requests_flushes packets [] left same = omega (arith, ap (λ (gs : List Given). flushes (packets_of gs)) same)
  requests_flushes packets (q ∷ qs) left (front, more, whole, first, rest) =
      omega (
        arith,
        ap (λ (gs : List Given). flushes (packets_of gs)) whole,
        flushes_of_both front more,
        request_flushes front q first,
        requests_flushes more qs left rest,
      )

  left_behind : (packets : List Given) (asked : List Asked) (left : List Given) → AreRequests (IsRequest s) packets asked left
      → (front : List Given) × (packets ≡ front ++ left)
  left_behind packets [] left same = ([], same)
  left_behind packets (q ∷ qs) left (front, more, whole, first, rest) =
      let (others, behind) = left_behind more qs left rest in
      (front ++ others, whole ∙ ap (λ (gs : List Given). front ++ gs) behind ∙ sym (append_assoc front others left))

  broken_flushes : (q : Asked) (packets : List Pkt) → IsAnswerAs broken s.repo q packets → flushes packets ≡ 0
  broken_flushes (ls_refs q) packets h = absurd h
  broken_flushes (fetch q) packets h = broken_fetch_has_none s.repo q packets h
  broken_flushes (object_info q) packets h = absurd h

  announced_flushes : (kind : Kind) (left : List Given) (fault : Fault) (tail : List Pkt) → IsTailBy kind s left fault tail → flushes tail ≡ 0
  announced_flushes PackSource left fault tail h = broken_flushes h.asked tail h.breaks
  announced_flushes RemoteError left fault tail h = ap flushes (sym h)
  announced_flushes kind left fault tail h = ap flushes (sym h)

  pub tail_flushes : (left : List Given) (outcome : Outcome) (tail : List Pkt) → IsTail s left outcome tail → flushes tail ≡ 0
  tail_flushes left Flush tail h = ap flushes (sym h)
  tail_flushes left Closed tail h = ap flushes (sym h)
  tail_flushes left (Refused fault) tail h = announced_flushes fault.kind left fault tail h

-- ---- what was sent, and used of it

no_packets : (gs : List Given) → packets_of gs ≡ [] → gs ≡ []
no_packets [] e = refl
no_packets (g ∷ gs) e = absurd (cc)

-- all of what was sent was used, and nothing is left of it
pub record IsAllUsed (unused : List ℕ) (left : List Given) (rest : List ℕ) : Type 0 where
  pub none_unused : unused ≡ []
  pub none_left : left ≡ []
  pub no_rest : rest ≡ []

both_nothing : (xs ys : List ℕ) → xs ++ ys ≡ [] → (xs ≡ []) × (ys ≡ [])
both_nothing [] ys e = (refl, e)
both_nothing (x ∷ xs) ys e = absurd (cc)

module _ (s : Setting) (qs : List Pkt) (used unused : List ℕ) (content : spelled qs ≡ used ++ unused) (ends : EndsWithFlush qs)
    (asked : List Asked) (left : List Given) (rest : List ℕ) (stream : Stream s used asked left rest) where
  -- no more requests came than were sent
  pub few_asked : (length asked ≤ flushes qs)
  few_asked =
      let front = front_of 0 used unused rest stream.packets qs stream.splits.spelled (sym content) in
      omega (
        arith,
        requests_flushes s stream.packets asked left stream.requests,
        ap flushes front.parts,
        flushes-append (packets_of stream.packets) front.more,
      )

  -- where all came, all was used
  pub all_used : flushes qs ≤ length asked → IsAllUsed unused left rest
  all_used many =
      let front = front_of 0 used unused rest stream.packets qs stream.splits.spelled (sym content) in
      let count = requests_flushes s stream.packets asked left stream.requests in
      let total = ap flushes front.parts ∙ flushes-append (packets_of stream.packets) front.more in
      let none_more : front.more ≡ [] = ends (packets_of stream.packets) front.more front.parts (omega (arith, count, total, many)) in
      let (earlier, behind) = left_behind s stream.packets asked left stream.requests in
      let apart : qs ≡ packets_of earlier ++ packets_of left =
      front.parts ∙ ap (λ (l : List Pkt). packets_of stream.packets ++ l) none_more ∙ append-nil (packets_of stream.packets)
      ∙ ap packets_of behind ∙ map-append (λ (g : Given). g.packet) earlier left in
      let nothing = both_nothing rest unused (front.left_is ∙ ap spelled none_more) in
      record {
        none_unused = nothing.1;
        none_left = no_packets left (ends (packets_of earlier) (packets_of left) apart (omega (arith, count, total, many)));
        no_rest = nothing.0;
      }

-- ---- a session does not end with whole requests alone

stops_late : (kind : Kind) (end offset : ℕ) → StopsBy end [] end kind offset → kind ≢ Truncated → kind ≡ StreamTooLong
stops_late Truncated end offset stops other = absurd (other refl)
stops_late StreamTooLong end offset stops other = refl
stops_late BadDigit end offset ((k, bad, at), shows) other = absurd (omega (arith, bad.there))
stops_late BadLength end offset ((digits, number, at), shows) other = absurd (omega (arith, digits.four))
stops_late TooLong end offset ((digits, number, at), shows) other = absurd (omega (arith, digits.four))
stops_late kind end offset stops other = absurd stops.0

nothing_last : (front : List Given) (last : Given) → [] ≡ front ++ last ∷ [] → ⊥
nothing_last [] last e = cc
nothing_last (g ∷ front) last e = cc

ends_in_vain : (s : Setting) (end : ℕ) (outcome : Outcome) → EndsBy s false [] [] end outcome
    → (fault : Fault) × (outcome ≡ Refused fault) × (fault.kind ≡ StreamTooLong)
ends_in_vain s end Flush h = absurd (nothing_last [] h.0.last h.0.alone)
ends_in_vain s end Closed h = absurd (let no : false ≡ true = h.0 in cc)
ends_in_vain s end (Refused fault) (inl (inl p)) = absurd (nothing_last p.front p.last p.whole)
ends_in_vain s end (Refused fault) (inl (inr (inl b))) =
    (fault, refl, stops_late fault.kind end fault.offset (subst (λ (n : ℕ). StopsBy n [] end fault.kind fault.offset) (omega arith) b.stops) b.not_the_end)
ends_in_vain s end (Refused fault) (inl (inr (inr c))) = absurd (let no : false ≡ true = c.ended in cc)
ends_in_vain s end (Refused fault) (inr w) = absurd (let (front, last, whole, at) = w.at in nothing_last front last whole)

-- ---- at rest

module _ {R A : Type 0} (state : R → RepoState) (server : Server R A) (s : Setting) (qs : List Pkt) (used unused given : List ℕ)
    (r : Running state s used false given server) (content : spelled qs ≡ used ++ unused) (ends : EndsWithFlush qs)
    (enough : (ps : List Pkt) → AllFit ps → given ≡ spelled ps → flushes qs + flushes (advertised s) ≤ flushes ps)
    (in_time : (fault : Fault) → outcome_of server ≡ Some (Refused fault) → fault.kind ≡ StreamTooLong → unused ≢ []) where
  pub record IsAtRest : Type 0 where
    pub all : unused ≡ []
    pub waits : wants_input server ≡ true

  at_rest_by : (o : Option Outcome) → outcome_of server ≡ o → StandsBy o s used false given server → IsAtRest
  at_rest_by None none (_, h) =
      let (unsent, has_unsent) = some_unsent server.offer s.repo server.phase in
      let whole = is_whole s h.asked h.sent unsent (h.is_sent unsent has_unsent) in
      let stream : Stream s used h.asked h.left h.rest = record { packets = h.packets; splits = h.reads.splits; requests = h.requests } in
      let few = few_asked s qs used unused content ends h.asked h.left h.rest stream in
      let many = enough h.sent h.fit h.given_is in
      let parts = sym (flushes-append h.sent unsent) ∙ ap flushes whole.parts ∙ flushes-append (advertised s) whole.answers in
      let count = answers_end s.repo h.asked whole.answers whole.answered in
      let all = all_used s qs used unused content ends h.asked h.left h.rest stream (omega (arith, many, parts, count)) in
      record {
        all = all.none_unused;
        waits = flush_unsent server.offer s.repo server.phase unsent none has_unsent (omega (arith, few, many, parts, count));
      }
  at_rest_by (Some outcome) some h =
      let (unsent, has_unsent) = some_unsent server.offer s.repo server.phase in
      let e : IsEnding s used false given outcome unsent = h unsent has_unsent in
      let tail = tail_flushes s e.left outcome (e.sent ++ unsent) e.parts in
      let tail_parts = flushes-append e.sent unsent in
      let many = enough ((advertised s ++ e.answers) ++ e.sent) e.fit e.given_is in
      let parts = flushes-append (advertised s ++ e.answers) e.sent in
      let answer_parts = flushes-append (advertised s) e.answers in
      let count = answers_end s.repo e.asked e.answers e.answered in
      let all = all_used s qs used unused content ends e.asked e.left e.rest e.stream (omega (arith, tail, tail_parts, many, parts, answer_parts, count)) in
      let so : EndsBy s false [] [] (length used) outcome =
      subst (λ (gs : List Given). EndsBy s false gs [] (length used) outcome) all.none_left
      (subst (λ (l : List ℕ). EndsBy s false e.left l (length used) outcome) all.no_rest e.ends) in
      let (fault, is, late) = ends_in_vain s (length used) outcome so in
      absurd (in_time fault (some ∙ ap Some is) late all.none_unused)

  pub at_rest : IsAtRest
  at_rest = at_rest_by (outcome_of server) refl r.stands

-- ---- before the first byte

late_at_end : (kind : Kind) (end offset : ℕ) → StopsBy end [] end kind offset → kind ≡ StreamTooLong → end ≡ last_position
late_at_end StreamTooLong end offset stops late = stops.1
late_at_end kind end offset stops late = absurd (cc)

never_at_once : (s : Setting) (outcome : Outcome) → EndsBy s false [] [] 0 outcome → ⊥
never_at_once s Flush h = nothing_last [] h.0.last h.0.alone
never_at_once s Closed h = let no : false ≡ true = h.0 in cc
never_at_once s (Refused fault) (inl (inl p)) = nothing_last p.front p.last p.whole
never_at_once s (Refused fault) (inl (inr (inl b))) =
    let stops : StopsBy 0 [] 0 fault.kind fault.offset = b.stops in
    omega (arith, late_at_end fault.kind 0 fault.offset stops (stops_late fault.kind 0 fault.offset stops b.not_the_end))
never_at_once s (Refused fault) (inl (inr (inr c))) = let no : false ≡ true = c.ended in cc
never_at_once s (Refused fault) (inr w) = let (front, last, whole, at) = w.at in nothing_last front last whole

none_behind : (front back : List Pkt) → [] ≡ front ++ back → back ≡ []
none_behind [] back e = sym e
none_behind (p ∷ front) back e = absurd (cc)

module _ {R A : Type 0} (state : R → RepoState) (server : Server R A) (s : Setting) (r : Running state s [] false [] server) where
  open_by : (o : Option Outcome) → StandsBy o s [] false [] server → o ≡ None
  open_by None h = refl
  open_by (Some outcome) h =
      let (unsent, has_unsent) = some_unsent server.offer s.repo server.phase in
      let e : IsEnding s [] false [] outcome unsent = h unsent has_unsent in
      let all = all_used s [] [] [] refl (λ front back is none. none_behind front back is) e.asked e.left e.rest e.stream (omega arith) in
      absurd (never_at_once s outcome (subst (λ (gs : List Given). EndsBy s false gs [] 0 outcome) all.none_left
      (subst (λ (l : List ℕ). EndsBy s false e.left l 0 outcome) all.no_rest e.ends)))

  -- no session ends before its first byte
  pub open_at_first : outcome_of server ≡ None
  open_at_first = open_by (outcome_of server) r.stands
