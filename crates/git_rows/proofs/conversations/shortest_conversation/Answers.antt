use Rattle.std.proofs.Common.{◌≡◌, [], ◌∷◌, codes, refl, arith, inl}
use Rattle.git_names.specs.Digits.{lower_digit}
use Rattle.git_names.specs.declared.object_format.Format.TheVariants.{Sha256}
use Rattle.git_pkt.specs.Packets.{flush}
use Rattle.git_pkt.specs.declared.fault.Kind.TheVariants.{WrongFormat}
use Rattle.git_pkt.proofs.Spelling.{none_begins_nothing}
use Rattle.git_msg.specs.WrittenRequest.{text_line}
use Rattle.git_client.specs.Conversation.{HasEvents}
use Rattle.git_client.specs.Events.{offered}
use Rattle.git_client.specs.Parts.{terms_of}
use Rattle.git_client.specs.declared.events.Ending.TheVariants.{FlushOnly}
use Rattle.git_client.proofs.EventsReceived.{later_questions}
use Rattle.git_rows.specs.Worked.{at}
use Rattle.git_rows.specs.WorkedConversations.{asked_refs, offer_bytes, terms}
use Rattle.git_rows.proofs.OpenRests.{open_nothing}
use Rattle.git_rows.proofs.ReceivedPackets.{conversation_events, flushes_are, gives_version, offer_packets, offer_splits, refuses_at, whole_offer}
use Rattle.git_rows.proofs.WrittenPackets.{splits_written}
use Rattle.git_rows.proofs.conversations.shortest_conversation.Goals as goal

-- a client of SHA-256 refuses the flush of the advertisement, since no line has named its format
refused : HasEvents (terms_of Sha256 FlushOnly) [] offer_bytes []
refused = record {
  clean = at 0 (text_line (codes "version 2")) ∷ [];
  whole = [];
  opened = [];
  sounds = record {
    given = offer_packets;
    rest = [];
    more = at 14 flush ∷ [];
    splits = offer_splits;
    cut = refl;
    gives = ([], [], refl, gives_version (terms_of Sha256 FlushOnly) [], refl);
    stops = (WrongFormat, refuses_at (terms_of Sha256 FlushOnly) [] (text_line (codes "version 2") ∷ []) flush WrongFormat _ refl refl);
  };
  of_rest = inl (open_nothing, refl);
  events_are = refl;
}

pub returns-clause-whole : goal.returns-clause-whole
returns-clause-whole c = whole_offer

pub returns-clause-not_without_its_event : goal.returns-clause-not_without_its_event
returns-clause-not_without_its_event c = λ h.
    let same : [] ≡ offered ∷ [] =
    conversation_events terms [] offer_bytes [] (offered ∷ []) h (later_questions terms [] [] offer_bytes (offered ∷ []) whole_offer) in
    cc

pub returns-clause-not_before_its_flush : goal.returns-clause-not_before_its_flush
unfolding lower_digit
returns-clause-not_before_its_flush c = λ h.
    let split = splits_written 0 (text_line (codes "version 2") ∷ []) [] refl none_begins_nothing in
    let count : 0 ≡ 1 = flushes_are terms [] (codes "000eversion 2\n") [] _ [] h split in
    omega (arith, count)

pub returns-clause-not_before_the_response : goal.returns-clause-not_before_the_response
returns-clause-not_before_the_response c = λ h.
    let count : 1 ≡ 2 = flushes_are terms asked_refs offer_bytes (offered ∷ []) offer_packets [] h offer_splits in
    omega (arith, count)

pub returns-clause-not_in_another_format : goal.returns-clause-not_in_another_format
returns-clause-not_in_another_format c = λ h.
    let same : offered ∷ [] ≡ [] = conversation_events (terms_of Sha256 FlushOnly) [] offer_bytes (offered ∷ []) [] h refused in
    cc
