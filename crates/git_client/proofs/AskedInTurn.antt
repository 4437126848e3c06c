-- Requests that were asked, each in its turn, and each allowed by what was advertised.
use Rattle.std.proofs.Common.{arith, ◌≡◌, inl, inr, ℕ, true, All, List, [], ◌∷◌, ◌++◌, length, map}
use Rattle.std.proofs.Common.{refl, sym, ap, ◌∙◌, subst, append_assoc, append-nil, length-append}
use Rattle.std.proofs.lemmas.List.{map-append, nil_from_length}
use Rattle.std.proofs.lemmas.List.Elements.{All-cons, All-head, All-nil, All-push, All-tail}
use Rattle.git_names.specs.declared.object_format.Format.{Format}
use Rattle.git_msg.specs.Advertisement.{noted_of, offers_command}
use Rattle.git_msg.specs.Asked.{Asked, command_asked}
use Rattle.git_msg.specs.Checks.{Passes}
use Rattle.git_msg.specs.Machine.HeldRequest.{asked_of}
use Rattle.git_msg.specs.declared.offers.Caps.{Caps}
use Rattle.git_msg.specs.declared.requests.Request.{Request}
use Rattle.git_client.specs.Parts.{Terms, advertisement_of, nearest}
use Rattle.git_client.specs.Events.{EventValue}
use Rattle.git_client.specs.Conversation.{HasNoted}
use Rattle.git_client.specs.Machine.Client.{History, Converses, ask_checks, can_ask, caps_of, format_of}
use Rattle.git_client.specs.Machine.Runs.{HasAsked}
use Rattle.git_client.specs.Machine.Running.{AskedInTurn, MayAsk, MayBeAsked}
use Rattle.git_client.specs.declared.client.Client.{Client}
use Rattle.git_client.proofs.CanAsk.{can_ask_announces}
use Rattle.git_client.proofs.EventsReceived.{has_noted, is_whole}
use Rattle.git_client.proofs.Notes.{noted_at}
use Rattle.git_client.proofs.Sequences.{turns-append}

-- ---- taking requests off a vector

-- one more was taken
pub next_is : {X : Type 0} (all front rest later : List X) (x : X) → all ≡ front ++ rest → rest ≡ x ∷ later → all ≡ front ++ x ∷ later
next_is {X} all front rest later x split next = split ∙ ap (λ (l : List X). front ++ l) next

pub one_more : {X : Type 0} (all front rest later : List X) (x : X) → all ≡ front ++ rest → rest ≡ x ∷ later → all ≡ (front ++ x ∷ []) ++ later
one_more all front rest later x split next = next_is all front rest later x split next ∙ sym (append_assoc front (x ∷ []) later)

-- no more is left
pub none_more : {X : Type 0} (all front rest : List X) → all ≡ front ++ rest → length rest ≡ 0 → all ≡ front ++ []
none_more {X} all front rest split none = split ∙ ap (λ (l : List X). front ++ l) (nil_from_length rest none)

-- ---- requests that were asked

-- the command of this request was advertised
abbrev pub HasCommand : Caps → Asked → Type 0
HasCommand caps q = offers_command caps (command_asked q) ≡ true

module _ {A : Type 0} (t : Terms) where
  pub none_in_turn : AskedInTurn {A = A} t [] [] [] []
  none_in_turn = record { are = refl; in_turn = omega arith; may_be = inl refl }

  -- more bytes were used
  pub received_in_turn : (asked : List Asked) (used more : List ℕ) (events now : List EventValue) (front : List (Request A))
      → AskedInTurn t asked used events front → AskedInTurn t asked (used ++ more) (events ++ now) front
  received_in_turn asked used more events now front h = record {
    are = h.are;
    in_turn = omega (arith, h.in_turn, turns-append events now);
    may_be = elim h.may_be [
      | inl none ↦ inl none
      | inr m ↦ inr (record {
        first = m.first;
        begun = m.begun;
        events = m.events;
        whole = m.whole;
        more = m.more;
        later = m.later ++ more;
        asked_is = m.asked_is;
        used_is = ap (λ (l : List ℕ). l ++ more) m.used_is ∙ append_assoc m.begun m.later more;
        passes = m.passes;
      })
    ];
  }

  -- a request is asked when it is allowed
  module _ (h : History) (client : Client A) (front : List (Request A)) (request : Request A) (stands : Converses t h client)
      (ready : can_ask client ≡ true) (passes : Passes (ask_checks (format_of client) (caps_of client) request)) where
    -- it is allowed by the advertisement, also by that of a conversation that began this one
    passes_by : (caps : Caps) → caps_of client ≡ caps → Passes (ask_checks t.format caps request)
    passes_by caps same =
        subst (λ (c : Caps). Passes (ask_checks t.format c request)) same
        (subst (λ (f : Format). Passes (ask_checks f (caps_of client) request)) stands.format_is passes)

    may_be_first : front ≡ [] → MayBeAsked t (h.asked ++ asked_of request ∷ []) h.used (front ++ request ∷ [])
    may_be_first none =
        let whole = is_whole t h client stands ready in
        let caps = noted_of (advertisement_of (nearest whole.given [])) in
        let same : caps_of client ≡ caps =
        noted_at t h.asked h.used h.events whole [] h.asked [] h.used (caps_of client) (sym (append-nil h.asked)) (sym (append-nil h.used))
        (has_noted t h client stands) in
        record {
          first = h.asked;
          begun = h.used;
          events = h.events;
          whole = whole;
          more = asked_of request ∷ [];
          later = [];
          asked_is = refl;
          used_is = sym (append-nil h.used);
          passes = All-push (MayAsk t caps) front request (subst (All (MayAsk t caps)) (sym none) (All-nil (MayAsk t caps))) (passes_by caps same);
        }

    may_be_next : (m : MayBeAsked t h.asked h.used front) → MayBeAsked t (h.asked ++ asked_of request ∷ []) h.used (front ++ request ∷ [])
    may_be_next m =
        let caps = noted_of (advertisement_of (nearest m.whole.given [])) in
        let same : caps_of client ≡ caps =
        noted_at t m.first m.begun m.events m.whole m.more h.asked m.later h.used (caps_of client) m.asked_is m.used_is (has_noted t h client stands) in
        record {
          first = m.first;
          begun = m.begun;
          events = m.events;
          whole = m.whole;
          more = m.more ++ asked_of request ∷ [];
          later = m.later;
          asked_is = ap (λ (l : List Asked). l ++ asked_of request ∷ []) m.asked_is ∙ append_assoc m.first m.more (asked_of request ∷ []);
          used_is = m.used_is;
          passes = All-push (MayAsk t caps) front request m.passes (passes_by caps same);
        }

    pub asked_in_turn : AskedInTurn t h.asked h.used h.events front
        → AskedInTurn t (h.asked ++ asked_of request ∷ []) h.used h.events (front ++ request ∷ [])
    asked_in_turn a =
        let turn = ((can_ask_announces client true ready t h stands).0 refl).2 in
        record {
          are = ap (λ (l : List Asked). l ++ asked_of request ∷ []) a.are ∙ sym (map-append asked_of front (request ∷ []));
          in_turn = omega (arith, turn, length-append h.asked (asked_of request ∷ []));
          may_be = inr (elim a.may_be [ inl none ↦ may_be_first none | inr m ↦ may_be_next m ]);
        }

  -- so the advertisement allows each request
  pub may_be_asked : (asked : List Asked) (used : List ℕ) (events : List EventValue) (front : List (Request A)) → AskedInTurn t asked used events front
      → (caps : Caps) → HasNoted t asked used caps → All (MayAsk t caps) front
  may_be_asked asked used events front a caps noted = elim a.may_be [
    | inl none ↦ subst (All (MayAsk t caps)) (sym none) (All-nil (MayAsk t caps))
    | inr m ↦ subst (λ (c : Caps). All (MayAsk t c) front)
        (sym (noted_at t m.first m.begun m.events m.whole m.more asked m.later used caps m.asked_is m.used_is noted)) m.passes
  ]

  -- and advertises the command of each
  commands_of_each : (caps : Caps) (front : List (Request A)) → All (MayAsk t caps) front
      → All (HasCommand caps) (map asked_of front)
  commands_of_each caps [] all = All-nil (HasCommand caps)
  commands_of_each caps (request ∷ front) all =
      All-cons (HasCommand caps) (asked_of request) (map asked_of front) (All-head (MayAsk t caps) request front all).1.0
      (commands_of_each caps front (All-tail (MayAsk t caps) request front all))

  pub commands_advertised : (asked : List Asked) (used : List ℕ) (events : List EventValue) (front : List (Request A))
      → AskedInTurn t asked used events front → (caps : Caps) → HasNoted t asked used caps
      → All (HasCommand caps) asked
  commands_advertised asked used events front a caps noted =
      subst (All (HasCommand caps)) (sym a.are)
      (commands_of_each caps front (may_be_asked asked used events front a caps noted))

  -- the requests that were asked are the first of these
  pub has_asked : (requests front rest : List (Request A)) (h : History) → requests ≡ front ++ rest → AskedInTurn t h.asked h.used h.events front
      → HasAsked t requests rest h
  has_asked requests front rest h split a = record {
    front = front;
    all = split;
    asked = a.are;
    may_be = may_be_asked h.asked h.used h.events front a;
    in_turn = a.in_turn;
  }
