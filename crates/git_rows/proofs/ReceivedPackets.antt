-- Packets as a client receives them.
use Rattle.std.proofs.Common.{◌≡◌, ℕ, suc, List, [], ◌∷◌, ◌++◌, Some, codes, length, refl, ap, ◌∙◌}
use Rattle.git_pkt.specs.Packets.{Pkt, flush, flushes}
use Rattle.git_pkt.specs.Splits.{Given, Splits}
use Rattle.git_pkt.specs.declared.fault.Kind.{Kind}
use Rattle.git_pkt.proofs.Streams.{one_split}
use Rattle.git_msg.specs.Asked.{Asked}
use Rattle.git_msg.specs.WrittenRequest.{text_line}
use Rattle.git_client.specs.Conversation.{GiveAll, GivesAt, HasEvents, IsConversation, RefusesAt}
use Rattle.git_client.specs.Events.{EventValue, Gives, Refuses, offered}
use Rattle.git_client.specs.Parts.{Terms, nearest}
use Rattle.git_client.specs.Places.{Place, place_after, version}
use Rattle.git_client.proofs.Determined.{one_event_list}
use Rattle.git_client.proofs.EventsReceived.{later_questions}
use Rattle.git_rows.specs.Worked.{at}
use Rattle.git_rows.specs.WorkedConversations.{offer_bytes, offered_before, terms}
use Rattle.git_names.specs.Digits.{lower_digit}
use Rattle.git_pkt.proofs.Spelling.{none_begins_nothing}
use Rattle.git_rows.proofs.WrittenPackets.{splits_written}
use Rattle.git_rows.proofs.TextsByComputing.{no_error_by}

pub gives_at : (t : Terms) (asked : List Asked) (before : List Pkt) (p : Pkt) (events : List EventValue) (place : Place)
    → place_after t asked before ≡ Some place → Gives t.format t.ending place p events → GivesAt t asked before p events
gives_at t asked before p events place is gives = record { place = place; is_place = is; gives = gives }

pub refuses_at : (t : Terms) (asked : List Asked) (before : List Pkt) (p : Pkt) (kind : Kind) (place : Place)
    → place_after t asked before ≡ Some place → Refuses t.format t.ending place p kind → RefusesAt t asked before p kind
refuses_at t asked before p kind place is refuses = record { place = place; is_place = is; refuses = refuses }

-- the line that begins an advertisement
pub gives_version : (t : Terms) (asked : List Asked) → GivesAt t asked [] (text_line (codes "version 2")) []
gives_version t asked =
    gives_at t asked [] (text_line (codes "version 2")) [] version refl (record { no_error = no_error_by (codes "version 2") refl; conveys = refl })

-- the advertisement without capabilities, and what follows it
pub offer_then : (asked : List Asked) (more : List Given) (later : List EventValue) → GiveAll terms asked offered_before more later
    → GiveAll terms asked [] (at 0 (text_line (codes "version 2")) ∷ at 14 flush ∷ more) (offered ∷ later)
offer_then asked more later h = (
  [],
  offered ∷ later,
  refl,
  gives_version terms asked,
  (
    offered ∷ [],
    later,
    refl,
    gives_at terms asked (text_line (codes "version 2") ∷ []) flush (offered ∷ []) _ refl refl,
    h,
  ),
)

-- the packets of a conversation have a flush for the advertisement and one for each request
pub flushes_are : (t : Terms) (asked : List Asked) (bytes : List ℕ) (events : List EventValue) (given : List Given) (rest : List ℕ)
    → IsConversation t asked bytes events → Splits 0 bytes given rest → flushes (nearest given []) ≡ suc (length asked)
flushes_are t asked bytes events given rest h k =
    let same = one_split 0 bytes given h.given rest [] k.spelled h.splits.spelled k.ends h.splits.ends in
    ap (λ (gs : List Given). flushes (nearest gs [])) same.packets ∙ h.all_flushes

-- a conversation has one list of events
pub conversation_events : (t : Terms) (asked : List Asked) (bytes : List ℕ) (events others : List EventValue)
    → IsConversation t asked bytes events → HasEvents t (asked ++ []) bytes others → events ≡ others
conversation_events t asked bytes events others h k = one_event_list t (asked ++ []) bytes events others (later_questions t asked [] bytes events h) k

-- the advertisement alone
abbrev pub offer_packets : List Given
offer_packets = at 0 (text_line (codes "version 2")) ∷ at 14 flush ∷ []

pub offer_splits : Splits 0 offer_bytes offer_packets []
unfolding lower_digit
offer_splits = splits_written 0 (text_line (codes "version 2") ∷ flush ∷ []) [] refl none_begins_nothing

pub whole_offer : IsConversation terms [] offer_bytes (offered ∷ [])
whole_offer = record { given = offer_packets; splits = offer_splits; gives = offer_then [] [] [] refl; all_flushes = refl; no_end_expected = refl }
