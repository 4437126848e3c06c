-- What a check found, it may have found where a write failed: whatever it results in, its lines are also those of a check that a failed write ended.
use Rattle.std.proofs.Common.{◌≡◌, ◌⊎◌, inl, inr, ℕ, ◌+◌, ◌≤◌, All, true, false, List, [], ◌∷◌, ◌++◌, length, Option, Some, None, Result, Ok, Err}
use Rattle.std.proofs.Common.{refl, sym, subst, ap, ◌∙◌, append_assoc, append-nil}
use Rattle.git_pkt.specs.Splits.{Given, SpellsAll}
use Rattle.git_pkt.specs.declared.fault.Fault.{Fault}
use Rattle.git_pkt.proofs.Spelling.{none_begins_nothing}
use Rattle.git_msg.specs.Asked.{command_asked}
use Rattle.git_msg.specs.Advertisement.{offers_command}
use Rattle.git_msg.specs.Machine.HeldRequest.{asked_of}
use Rattle.git_msg.specs.declared.offers.Caps.{Caps}
use Rattle.git_client.specs.Conversation.{HasEvents, HasNoted}
use Rattle.git_client.specs.Events.{turns_of}
use Rattle.git_client.specs.Machine.Client.{History}
use Rattle.git_client.specs.Parts.{Terms}
use Rattle.git2show_lib.specs.Others.{Advertised}
use Rattle.git2show_lib.specs.OtherLines.{Question, known}
use Rattle.git2show_lib.specs.Machine.CheckFaults.{Standing}
use Rattle.git2show_lib.specs.Machine.CheckedStreams.{AreReceived, AreUnread, Begun, Checked, EndsAs, Found, IsBad, IsBadAnswer, IsBadSieved, IsCutOff}
use Rattle.git2show_lib.specs.Machine.CheckedStreams.{IsOffered, IsOtherExpected, IsReported, Received, Turn, bytes_begun, events_shown}
use Rattle.git2show_lib.specs.Machine.CheckedStreams.{lines_begun, place_after, passed_in, questions_in, received_shown, turns_shown, whole_of}
use Rattle.git2show_lib.specs.Machine.JudgedRequests.{AreAskedBy, AreQuestions}
use Rattle.git2show_lib.specs.declared.checking.CheckFault.{CheckFault}
use Rattle.git2show_lib.specs.declared.checking.CheckFault.TheVariants.{Requests, Responses, ReadFault, WriteFault, ReadLimit}

-- ---- the first of the requests

-- the packets of the first requests
questions_front : (by : Advertised) (limit : ℕ) (packets : List Given) (asked more : List Question) (left : List Given)
    → AreQuestions by limit packets (asked ++ more) left
    → (front : List Given) × (back : List Given) × (packets ≡ front ++ back) × AreQuestions by limit front asked []
questions_front by limit packets [] more left are = ([], packets, refl, refl)
questions_front by limit packets (q ∷ asked) more left (one, others, parts, is, are) =
    let (front, back, cut, whole) = questions_front by limit others asked more left are in (
      one ++ front,
      back,
      parts ∙ ap (λ (gs : List Given). one ++ gs) cut ∙ sym (append_assoc one front back),
      (one, front, refl, is, whole),
    )

-- the bytes of the first packets
spelled_front : (p : ℕ) (bytes : List ℕ) (gs more : List Given) (rest : List ℕ) → SpellsAll p bytes (gs ++ more) rest
    → (front : List ℕ) × (back : List ℕ) × (bytes ≡ front ++ back) × SpellsAll p front gs []
spelled_front p bytes [] more rest h = ([], bytes, refl, refl)
spelled_front p bytes (g ∷ gs) more rest (own, others, cut, at, spells, tail) =
    let (front, back, parts, is) = spelled_front (p + length own) others gs more rest tail in (
      own ++ front,
      back,
      cut ∙ ap (λ (l : List ℕ). own ++ l) parts ∙ sym (append_assoc own front back),
      (own, front, refl, at, spells, is),
    )

-- the bytes of the first requests are whole requests, and nothing comes after the last of them
pub asked_front : (by : Advertised) (limit : ℕ) {bytes : List ℕ} {asked : List Question} (more : List Question) {left : List Given} {rest : List ℕ}
    → AreAskedBy by limit bytes (asked ++ more) left rest
    → (front : List ℕ) × (back : List ℕ) × (bytes ≡ front ++ back) × AreAskedBy by limit front asked [] []
asked_front by limit {bytes} {asked} more {left} {rest} are =
    let (first, later, cut, whole) = questions_front by limit are.packets asked more left are.requests in
    let (front, back, parts, spelled) =
    spelled_front 0 bytes first later rest (subst (λ (gs : List Given). SpellsAll 0 bytes gs rest) cut are.splits.spelled) in (
      front,
      back,
      parts,
      record { packets = first; splits = record { spelled = spelled; ends = none_begins_nothing }; requests = whole },
    )

-- ---- what a check found

-- all that a check states, apart from how it ended
pub record Finds (t : Terms) (limit : ℕ) (read given : List (List ℕ)) (unused : List ℕ) (h : History) (by : Advertised) (r : Received) (found : Found)
    : Type 0 where
  pub were_read : read ≡ (found.used ++ found.unused) ∷ ((whole_of r ++ bytes_begun r.begun) ++ unused) ∷ []
  pub announced : given ≡ received_shown r ∷ []
  pub received : AreReceived t h.asked h.used h.events r
  pub arrived : HasEvents t h.asked h.used h.events
  pub may_be : (caps : Caps) → HasNoted t h.asked h.used caps → All (λ q. offers_command caps (command_asked q) ≡ true) h.asked
  pub in_turn : length h.asked ≤ turns_of h.events
  pub offered : IsOffered t h.used by ⊎ AreUnread found
  pub asks : AreAskedBy by limit found.used found.asked found.left found.rest

-- The first requests that were read came in turn. The next one was asked or refused, or it is for a command that is not known, and its answer may have
-- begun.
abbrev pub CameInTurn : Terms → History → Received → Found → Type 0
CameInTurn t h r found =
    ((more : List Question) × (found.asked ≡ questions_in r.turns ++ more) × (r.begun ≡ None))
    ⊎ ((begun : Begun) × IsOtherExpected t h r begun found)

-- no bytes are left of none
left_of_none : (front back : List ℕ) → front ++ back ≡ [] → (front ≡ []) × (back ≡ [])
left_of_none [] back none = (refl, none)
left_of_none (byte ∷ front) back none = absurd (cc)

module _ {A : Type 0} {t : Terms} {limit : ℕ} {read given : List (List ℕ)} where
  -- a check that found this, and ended so
  pub ends_so : {result : Result (Unit {0}) CheckFault} {requests responses : Standing} {unused : List ℕ} {h : History} {by : Advertised} {r : Received}
      {found : Found} → Finds t limit read given unused h by r found → EndsAs A t by limit result requests responses unused h r found
      → Checked A t limit result requests responses read given
  ends_so {unused = unused} {h} {by} {r} {found} f ended = record {
    h = h;
    unused = unused;
    found = found;
    by = by;
    r = r;
    were_read = f.were_read;
    announced = f.announced;
    received = f.received;
    arrived = f.arrived;
    may_be = f.may_be;
    in_turn = f.in_turn;
    offered = f.offered;
    asks = f.asks;
    ends = ended;
  }

  module _ {unused : List ℕ} {h : History} {by : Advertised} {r : Received} {found : Found} (f : Finds t limit read given unused h by r found)
      (requests responses : Standing) where
    -- the requests that came in turn were used, and all that was read after them was not
    cut_requests : (more : List Question) → found.asked ≡ questions_in r.turns ++ more → r.begun ≡ None
        → Checked A t limit (Err WriteFault) requests responses read given
    cut_requests more asked none =
        let (front, back, cut, asks) =
        asked_front by limit more (subst (λ (qs : List Question). AreAskedBy by limit found.used qs found.left found.rest) asked f.asks) in
        let first : Found = record { used = front; unused = back ++ found.unused; asked = questions_in r.turns; left = []; rest = [] } in
        let unread : AreUnread found → AreUnread first = λ u.
        let (no_front, no_back) = left_of_none front back (sym cut ∙ u.nothing_used) in
        record { nothing_used = no_front; nothing_waits = rw (no_back, u.nothing_waits) refl } in
        ends_so {unused = unused} {h = h} {by = by} {r = r} {found = first} (record {
          were_read = f.were_read
              ∙ ap (λ (l : List ℕ). (l ++ found.unused) ∷ ((whole_of r ++ bytes_begun r.begun) ++ unused) ∷ []) cut
              ∙ ap (λ (l : List ℕ). l ∷ ((whole_of r ++ bytes_begun r.begun) ++ unused) ∷ []) (append_assoc front back found.unused);
          announced = f.announced;
          received = f.received;
          arrived = f.arrived;
          may_be = f.may_be;
          in_turn = f.in_turn;
          offered = elim f.offered [
            | inl offered ↦ inl offered
            | inr u ↦ inr (unread u)
          ];
          asks = asks;
        }) (inl (record { asked = refl; nothing_left = refl; no_rest = refl; nothing_begun = none }))

    -- the line of the next one was written, and nothing of its answer was used
    cut_answer : (begun : Begun) → IsOtherExpected t h r begun found → Checked A t limit (Err WriteFault) requests responses read given
    cut_answer begun e =
        let named : Begun = record { lines = begun.lines; bytes = [] } in
        let now : Received = record { opening = r.opening; greeting = r.greeting; turns = r.turns; begun = Some named } in
        let same_bytes : (whole_of r ++ bytes_begun r.begun) ++ unused ≡ (whole_of now ++ []) ++ (begun.bytes ++ unused) =
        ap (λ (b : Option Begun). (whole_of r ++ bytes_begun b) ++ unused) e.is_begun ∙ append_assoc (whole_of r) begun.bytes unused
        ∙ ap (λ (l : List ℕ). l ++ (begun.bytes ++ unused)) (sym (append-nil (whole_of r))) in
        ends_so {unused = begun.bytes ++ unused} {h = h} {by = by} {r = now} {found = found} (record {
          were_read = f.were_read ∙ ap (λ (l : List ℕ). (found.used ++ found.unused) ∷ l ∷ []) same_bytes;
          announced = f.announced ∙ ap (λ (b : Option Begun). ((events_shown r.greeting ++ turns_shown r.turns) ++ lines_begun b) ∷ []) e.is_begun;
          received = record {
            asked_is = f.received.asked_is;
            used_is = f.received.used_is;
            events_are = f.received.events_are;
            one_turn = f.received.one_turn;
            in_turn = f.received.in_turn;
          };
          arrived = f.arrived;
          may_be = f.may_be;
          in_turn = f.in_turn;
          offered = f.offered;
          asks = f.asks;
        }) (inr (record {
          begun = named;
          expected = record { asked = e.asked; is_begun = refl; nothing_left = e.nothing_left; no_rest = e.no_rest; whole = e.whole };
          none_came = refl;
        }))

    -- a write failed there
    pub broken_of : CameInTurn t h r found → Checked A t limit (Err WriteFault) requests responses read given
    broken_of (inl (more, asked, none)) = cut_requests more asked none
    broken_of (inr (begun, e)) = cut_answer begun e

-- ---- whatever a check results in

came_all : {t : Terms} {h : History} {r : Received} {found : Found} → found.asked ≡ questions_in r.turns → r.begun ≡ None → CameInTurn t h r found
came_all {r = r} asked none = inl ([], asked ∙ sym (append-nil (questions_in r.turns)), none)

module _ (A : Type 0) (by : Advertised) (limit : ℕ) (requests responses : Standing) (unused : List ℕ) {t : Terms} {h : History} {r : Received}
    {found : Found} where
  came_where_bad : (fault : Fault) → IsBad A t by requests responses unused h r found fault → CameInTurn t h r found
  came_where_bad fault (inl b) = came_all b.all_asked.asked b.all_asked.nothing_begun
  came_where_bad fault (inr (inl b)) = came_all b.answered.asked b.answered.nothing_begun
  came_where_bad fault (inr (inr (inl b))) = inl (known (asked_of b.request) b.noted ∷ [], b.asked, b.nothing_begun)
  came_where_bad fault (inr (inr (inr b))) = came_all b.answered.asked b.answered.nothing_begun

  came_where_refused : (fault : Fault)
      → IsReported (IsBad A t by requests responses unused h r found) (passed_in r.turns) fault
      ⊎ (IsReported (IsBadAnswer t responses unused h r found) (place_after r.opening r.turns) fault
      ⊎ ((earlier : List Turn) × IsReported (IsBadSieved t responses unused h r found earlier) (place_after r.opening earlier) fault))
      → CameInTurn t h r found
  came_where_refused fault (inl b) = came_where_bad b.own b.is
  came_where_refused fault (inr (inl b)) = inr (b.is.begun, b.is.expected)
  came_where_refused fault (inr (inr (earlier, b))) = came_all b.is.all_asked.asked b.is.all_asked.nothing_begun

  came_where_cut_off : (of_requests of_responses : Type 0) → IsCutOff t by limit of_requests of_responses requests responses unused h r found
      → CameInTurn t h r found
  came_where_cut_off of_requests of_responses (inl (inl w, shown)) = came_all w.all_asked.asked w.all_asked.nothing_begun
  came_where_cut_off of_requests of_responses (inl (inr w, shown)) = inr (w.begun, w.expected)
  came_where_cut_off of_requests of_responses (inr (inl (w, shown))) = came_all w.answered.asked w.answered.nothing_begun
  came_where_cut_off of_requests of_responses (inr (inr (w, shown))) = came_all w.answered.asked w.answered.nothing_begun

  -- however it ended, the first requests came in turn
  pub came_in_turn : (result : Result (Unit {0}) CheckFault) → EndsAs A t by limit result requests responses unused h r found → CameInTurn t h r found
  came_in_turn (Ok done) ended = came_all ended.answered.asked ended.answered.nothing_begun
  came_in_turn (Err (Requests fault)) ended = came_all ended.answered.asked ended.answered.nothing_begun
  came_in_turn (Err (Responses fault)) ended = came_where_refused fault ended
  came_in_turn (Err ReadFault) ended = came_where_cut_off (requests.failed ≡ true) (responses.failed ≡ true) ended
  came_in_turn (Err WriteFault) (inl all_asked) = came_all all_asked.asked all_asked.nothing_begun
  came_in_turn (Err WriteFault) (inr shown) = inr (shown.begun, shown.expected)
  came_in_turn (Err ReadLimit) ended = came_where_cut_off (Unit {0}) (responses.ended ≡ false) ended

module _ {A : Type 0} {t : Terms} {limit : ℕ} {result : Result (Unit {0}) CheckFault} {requests responses : Standing} {read given : List (List ℕ)}
    (c : Checked A t limit result requests responses read given) where
  -- what a check found
  abbrev pub finds : Finds t limit read given c.unused c.h c.by c.r c.found
  finds = record {
    were_read = c.were_read;
    announced = c.announced;
    received = c.received;
    arrived = c.arrived;
    may_be = c.may_be;
    in_turn = c.in_turn;
    offered = c.offered;
    asks = c.asks;
  }

  -- a check with these lines may be one that a failed write ended
  pub broken_anywhere : (of_requests of_responses : Standing) → Checked A t limit (Err WriteFault) of_requests of_responses read given
  broken_anywhere of_requests of_responses = broken_of finds of_requests of_responses (came_in_turn A c.by limit requests responses c.unused result c.ends)
