use Rattle.std.proofs.Common.{◌≡◌, List, [], ◌∷◌, ◌++◌, codes, refl, arith, inl}
use Rattle.git_names.specs.Digits.{lower_digit}
use Rattle.git_pkt.specs.Packets.{flush}
use Rattle.git_pkt.specs.Splits.{Given, Splits}
use Rattle.git_pkt.proofs.Spelling.{none_begins_nothing}
use Rattle.git_msg.specs.WrittenRequest.{text_line}
use Rattle.git_client.specs.Conversation.{GivesAt, HasEvents}
use Rattle.git_client.specs.Events.{ended, offered, reference}
use Rattle.git_client.proofs.Determined.{one_event_list}
use Rattle.git_rows.specs.Worked.{all_a, at}
use Rattle.git_rows.specs.WorkedConversations.{asked_refs, head_ref, offered_before, refs_begun_bytes, terms}
use Rattle.git_rows.proofs.BareReferences.{head_line}
use Rattle.git_rows.proofs.OpenRests.{open_nothing}
use Rattle.git_rows.proofs.ReceivedPackets.{flushes_are, gives_at, offer_then}
use Rattle.git_rows.proofs.TextsByComputing.{no_error_by}
use Rattle.git_rows.proofs.WrittenPackets.{splits_written}
use Rattle.git_rows.proofs.conversations.reference_received.Goals as goal

gives_line : GivesAt terms asked_refs offered_before (text_line (all_a ++ codes " HEAD")) (reference head_ref ∷ [])
gives_line = gives_at terms asked_refs offered_before (text_line (all_a ++ codes " HEAD")) (reference head_ref ∷ []) _ refl
    (record { no_error = no_error_by (all_a ++ codes " HEAD") refl; conveys = head_line })

abbrev begun_packets : List Given
begun_packets = at 0 (text_line (codes "version 2")) ∷ at 14 flush ∷ at 18 (text_line (all_a ++ codes " HEAD")) ∷ []

begun_splits : Splits 0 refs_begun_bytes begun_packets []
unfolding lower_digit
begun_splits = splits_written 0 (text_line (codes "version 2") ∷ flush ∷ text_line (all_a ++ codes " HEAD") ∷ []) [] refl none_begins_nothing

begun : HasEvents terms asked_refs refs_begun_bytes (offered ∷ reference head_ref ∷ [])
begun = record {
  clean = begun_packets;
  whole = offered ∷ reference head_ref ∷ [];
  opened = [];
  sounds = record {
    given = begun_packets;
    rest = [];
    more = [];
    splits = begun_splits;
    cut = refl;
    gives = offer_then asked_refs (at 18 (text_line (all_a ++ codes " HEAD")) ∷ []) (reference head_ref ∷ [])
        (reference head_ref ∷ [], [], refl, gives_line, refl);
    stops = tt;
  };
  of_rest = inl (open_nothing, refl);
  events_are = refl;
}

pub returns-clause-whole : goal.returns-clause-whole
unfolding lower_digit
returns-clause-whole c = record {
  given = at 0 (text_line (codes "version 2")) ∷ at 14 flush ∷ at 18 (text_line (all_a ++ codes " HEAD")) ∷ at 68 flush ∷ [];
  splits = splits_written 0 (text_line (codes "version 2") ∷ flush ∷ text_line (all_a ++ codes " HEAD") ∷ flush ∷ []) [] refl none_begins_nothing;
  gives = offer_then asked_refs (at 18 (text_line (all_a ++ codes " HEAD")) ∷ at 68 flush ∷ []) (reference head_ref ∷ ended ∷ [])
      (reference head_ref ∷ [], ended ∷ [], refl, gives_line, (ended ∷ [], [], refl, gives_at _ _ _ flush (ended ∷ []) _ refl refl, refl));
  all_flushes = refl;
  no_end_expected = refl;
}

pub returns-clause-begun : goal.returns-clause-begun
returns-clause-begun c = begun

pub returns-clause-not_ended_before_its_flush : goal.returns-clause-not_ended_before_its_flush
returns-clause-not_ended_before_its_flush c = λ h. let same = one_event_list terms asked_refs refs_begun_bytes _ _ h begun in cc

pub returns-clause-not_without_the_reference : goal.returns-clause-not_without_the_reference
returns-clause-not_without_the_reference c = λ h. let same = one_event_list terms asked_refs refs_begun_bytes _ _ h begun in cc

pub returns-clause-not_whole_before_its_flush : goal.returns-clause-not_whole_before_its_flush
returns-clause-not_whole_before_its_flush c = λ h.
    let count : 1 ≡ 2 = flushes_are terms asked_refs refs_begun_bytes _ begun_packets [] h begun_splits in
    omega (arith, count)
