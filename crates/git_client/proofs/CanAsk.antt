-- When a client can ask, by its history.
use Rattle.std.proofs.Common.{arith, ◌≡◌, ◌↔◌, ◌≤◌, ℕ, suc, Bool, true, false, List, [], ◌∷◌, length, Option, None, length-append, refl, sym, ap, ◌∙◌}
use Rattle.git_pkt.specs.Packets.{flushes}
use Rattle.git_pkt.specs.Splits.{Given}
use Rattle.git_pkt.specs.declared.reader.PacketReader.{PacketReader}
use Rattle.git_msg.specs.Advertisement.{noted_of}
use Rattle.git_msg.specs.Asked.{Asked}
use Rattle.git_client.specs.Parts.{Terms, nearest, advertisement_of, is_end_expected}
use Rattle.git_client.specs.Places.{response_end, place_after}
use Rattle.git_client.specs.Events.{EventValue, turns_of}
use Rattle.git_client.specs.Opened.{opened_in}
use Rattle.git_client.specs.Conversation.{GiveAll}
use Rattle.git_client.specs.Machine.Turns.{fault_in, is_ready, has_left_in}
use Rattle.git_client.specs.Machine.Client.{History, Converses, StandsIn, IsExpected, fault_of, can_ask, phase_of}
use Rattle.git_client.specs.declared.phase.Phase.{Phase}
use Rattle.git_client.specs.declared.phase.Phase.TheVariants.{Receiving, Ready, Asking, Leaving, Left, Failed}
use Rattle.git_client.specs.declared.client.Client.{Client}
use Rattle.git_client.specs.declared.phase.Expected.{Expected}
use Rattle.git_client.specs.declared.phase.Expected.TheVariants.{ResponseEnd}
use Rattle.git_client.proofs.PlacePackets.{comes_after, one_if}
use Rattle.git_client.proofs.Opened.{no_turns_opened}
use Rattle.git_client.proofs.Sequences.{turns-append, turns_are_messages}
use Rattle.git_client.proofs.Judged.{place_is}

turns_before : (t : Terms) (asked : List Asked) (clean : List Given) (events : List EventValue) (n : ℕ) → is_end_expected t.ending (nearest clean []) ≡ false
    → GiveAll t asked [] clean events → flushes (nearest clean []) ≡ n → turns_of events ≡ n
turns_before t asked clean events n none g count =
    let turns = turns_are_messages t asked clean events g in
    omega (arith, turns, ap one_if none, count)

-- while something is expected, there were at most as many turns as requests
turns_while_expected : (t : Terms) (asked : List Asked) (clean : List Given) (events : List EventValue) (expected : Expected) → GiveAll t asked [] clean events
    → IsExpected t asked (nearest clean []) expected → turns_of events ≤ length asked
turns_while_expected t asked clean events ResponseEnd g d =
    let turns = turns_are_messages t asked clean events g in
    let before = nearest clean [] in
    let last = comes_after t asked before response_end (place_is t asked before ResponseEnd (noted_of (advertisement_of before)) d refl) in
    omega (arith, turns, ap one_if last, d.counts)
turns_while_expected t asked clean events expected g d =
    let turns = turns_are_messages t asked clean events g in
    omega (arith, turns, d.counts)

-- a client can ask exactly if it has no error, has not left, and had one turn more than it asked requests
turn_is : (phase : Phase) (t : Terms) (asked : List Asked) (clean given : List Given) (rest : List ℕ) (end : ℕ) (question : Option Asked)
    (reader : PacketReader) (events : List EventValue) → StandsIn phase t asked clean given rest end question reader → GiveAll t asked [] clean events
    → (is_ready phase ≡ true) ↔ ((fault_in phase ≡ None) × (has_left_in phase ≡ false) × (turns_of events ≡ suc (length asked)))
turn_is (Receiving expected) t asked clean given rest end question reader events h g =
    let few = turns_while_expected t asked clean events expected g h.behind in
    (λ e. absurd (cc), λ (none, stays, more). absurd (omega (arith, few, more)))
turn_is Ready t asked clean given rest end question reader events h g =
    (λ e. (refl, refl, turns_before t asked clean events _ h.behind.no_end_expected g h.behind.all_flushes), λ _. refl)
turn_is (Asking writer) t asked clean given rest end question reader events h g =
    let whole = h.behind.whole in
    let few = turns_before t asked clean events _ whole.no_end_expected g whole.all_flushes in
    let long = ap length h.behind.asked_is ∙ length-append h.behind.earlier (h.behind.last ∷ []) in
    (λ e. absurd (cc), λ (none, stays, more). absurd (omega (arith, few, more, long)))
turn_is Leaving t asked clean given rest end question reader events h g = (λ e. absurd (cc), λ (none, stays, more). absurd (cc))
turn_is Left t asked clean given rest end question reader events h g = (λ e. absurd (cc), λ (none, stays, more). absurd (cc))
turn_is (Failed fault) t asked clean given rest end question reader events h g = (λ e. absurd (cc), λ (none, stays, more). absurd (cc))

-- the history for each result of `can_ask`
pub can_ask_announces : {A : Type 0} (client : Client A) (answer : Bool) → can_ask client ≡ answer → (t : Terms) (h : History) → Converses t h client
    → (answer ≡ true) ↔ ((fault_of client ≡ None) × (h.left ≡ false) × (turns_of h.events ≡ suc (length h.asked)))
can_ask_announces client answer is t h c =
    let turn = turn_is (phase_of client) t h.asked _ _ _ _ _ _ c.whole c.stands c.gives in
    let opened = opened_in (place_after t h.asked (nearest c.clean [])) c.rest in
    let same : turns_of h.events ≡ turns_of c.whole =
    omega (arith, ap turns_of c.events_are, turns-append c.whole opened, no_turns_opened (place_after t h.asked (nearest c.clean [])) c.rest) in (
      (λ yes. let found = turn.0 (is ∙ yes) in (found.0, c.left ∙ found.1, same ∙ found.2)),
      (λ found. sym is ∙ turn.1 (found.0, sym c.left ∙ found.1, sym same ∙ found.2)),
    )
