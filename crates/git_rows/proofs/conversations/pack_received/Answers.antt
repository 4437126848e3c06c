use Rattle.std.proofs.Common.{◌≡◌, ℕ, List, [], ◌∷◌, ◌++◌, codes, refl, arith, inl}
use Rattle.git_names.specs.Digits.{digit_value, lower_digit}
use Rattle.git_pkt.specs.Digits.{digits_value}
use Rattle.git_pkt.specs.Packets.{Pkt, flush, payload}
use Rattle.git_pkt.specs.Splits.{Given, Splits}
use Rattle.git_pkt.proofs.Spelling.{none_begins_nothing, none_begins_partial}
use Rattle.git_msg.specs.WrittenRequest.{text_line}
use Rattle.git_client.specs.Conversation.{GiveAll, GivesAt, HasEvents}
use Rattle.git_client.specs.Events.{EventValue, ended, offered, pack, progress, section}
use Rattle.git_client.specs.Packs.{HasPack}
use Rattle.git_client.specs.declared.sections.Section.TheVariants.{Packfile}
use Rattle.git_client.proofs.Determined.{one_event_list}
use Rattle.git_client.proofs.Packs.{one_pack}
use Rattle.git_rows.specs.Worked.{at}
use Rattle.git_rows.specs.WorkedConversations.{after_header, asked_fetch, offered_before, pack_bytes, terms}
use Rattle.git_rows.proofs.OpenRests.{open_by, open_nothing}
use Rattle.git_rows.proofs.ReceivedPackets.{gives_at, offer_then}
use Rattle.git_rows.proofs.TextsByComputing.{differ, no_error_by}
use Rattle.git_rows.proofs.WrittenPackets.{splits_written}
use Rattle.git_rows.proofs.conversations.pack_received.Goals as goal

-- the packets up to a byte on this band, and then others
abbrev packets : ℕ → List Pkt → List Pkt
packets band more = text_line (codes "version 2") ∷ flush ∷ text_line (codes "packfile") ∷ payload (band ∷ codes "A") ∷ more

abbrev begun : ℕ → List Given → List Given
begun band more =
    at 0 (text_line (codes "version 2")) ∷ at 14 flush ∷ at 18 (text_line (codes "packfile")) ∷ at 31 (payload (band ∷ codes "A")) ∷ more

gives_header : GivesAt terms asked_fetch offered_before (text_line (codes "packfile")) (section Packfile ∷ [])
gives_header = gives_at terms asked_fetch offered_before (text_line (codes "packfile")) (section Packfile ∷ []) _ refl
    (record { no_error = no_error_by (codes "packfile") refl; conveys = (refl, refl) })

gives_pack : (more : List Given) (later : List EventValue)
    → GiveAll terms asked_fetch (payload (1 ∷ codes "A") ∷ after_header (codes "packfile")) more later
    → GiveAll terms asked_fetch [] (begun 1 more) (offered ∷ section Packfile ∷ pack 65 ∷ later)
gives_pack more later h =
    offer_then asked_fetch (at 18 (text_line (codes "packfile")) ∷ at 31 (payload (1 ∷ codes "A")) ∷ more) (section Packfile ∷ pack 65 ∷ later) (
      section Packfile ∷ [],
      pack 65 ∷ later,
      refl,
      gives_header,
      (
        pack 65 ∷ [],
        later,
        refl,
        gives_at terms asked_fetch (after_header (codes "packfile")) (payload (1 ∷ codes "A")) (pack 65 ∷ []) _ refl refl,
        h,
      ),
    )

gives_progress : (more : List Given) (later : List EventValue)
    → GiveAll terms asked_fetch (payload (2 ∷ codes "A") ∷ after_header (codes "packfile")) more later
    → GiveAll terms asked_fetch [] (begun 2 more) (offered ∷ section Packfile ∷ progress 65 ∷ later)
gives_progress more later h =
    offer_then asked_fetch (at 18 (text_line (codes "packfile")) ∷ at 31 (payload (2 ∷ codes "A")) ∷ more) (section Packfile ∷ progress 65 ∷ later) (
      section Packfile ∷ [],
      progress 65 ∷ later,
      refl,
      gives_header,
      (
        progress 65 ∷ [],
        later,
        refl,
        gives_at terms asked_fetch (after_header (codes "packfile")) (payload (2 ∷ codes "A")) (progress 65 ∷ []) _ refl refl,
        h,
      ),
    )

gives_end : (band : ℕ) → GiveAll terms asked_fetch (payload (band ∷ codes "A") ∷ after_header (codes "packfile")) (at 37 flush ∷ []) (ended ∷ [])
gives_end band = (
  ended ∷ [],
  [],
  refl,
  gives_at terms asked_fetch (payload (band ∷ codes "A") ∷ after_header (codes "packfile")) flush (ended ∷ []) _ refl refl,
  refl,
)

whole_splits : (band : ℕ) → Splits 0 (pack_bytes band (codes "0000")) (begun band (at 37 flush ∷ [])) []
unfolding lower_digit
whole_splits band = splits_written 0 (packets band (flush ∷ [])) [] refl none_begins_nothing

-- the beginning of a packet of two bytes
abbrev rest : List ℕ
rest = codes "0007" ++ 1 ∷ codes "B"

open_splits : Splits 0 (pack_bytes 1 rest) (begun 1 []) rest
unfolding digit_value digits_value lower_digit
open_splits = splits_written 0 (packets 1 []) rest refl (none_begins_partial rest (omega arith) (omega arith))

open_events : HasEvents terms asked_fetch (pack_bytes 1 rest) (offered ∷ section Packfile ∷ pack 65 ∷ pack 66 ∷ [])
unfolding digit_value digits_value
open_events = record {
  clean = begun 1 [];
  whole = offered ∷ section Packfile ∷ pack 65 ∷ [];
  opened = pack 66 ∷ [];
  sounds = record { given = begun 1 []; rest = rest; more = []; splits = open_splits; cut = refl; gives = gives_pack [] [] refl; stops = tt };
  of_rest = inl (open_by rest refl, refl);
  events_are = refl;
}

whole_pack : HasPack terms asked_fetch (pack_bytes 1 (codes "0000")) (codes "A")
whole_pack = record {
  clean = begun 1 (at 37 flush ∷ []);
  more = [];
  rest = [];
  events = offered ∷ section Packfile ∷ pack 65 ∷ ended ∷ [];
  opened = [];
  splits = whole_splits 1;
  gives = gives_pack (at 37 flush ∷ []) (ended ∷ []) (gives_end 1);
  stops = tt;
  of_rest = inl (open_nothing, refl);
  pack_is = refl;
}

no_pack : HasPack terms asked_fetch (pack_bytes 2 (codes "0000")) []
no_pack = record {
  clean = begun 2 (at 37 flush ∷ []);
  more = [];
  rest = [];
  events = offered ∷ section Packfile ∷ progress 65 ∷ ended ∷ [];
  opened = [];
  splits = whole_splits 2;
  gives = gives_progress (at 37 flush ∷ []) (ended ∷ []) (gives_end 2);
  stops = tt;
  of_rest = inl (open_nothing, refl);
  pack_is = refl;
}

pub returns-clause-whole : goal.returns-clause-whole
returns-clause-whole c = record {
  given = begun 1 (at 37 flush ∷ []);
  splits = whole_splits 1;
  gives = gives_pack (at 37 flush ∷ []) (ended ∷ []) (gives_end 1);
  all_flushes = refl;
  no_end_expected = refl;
}

pub returns-clause-begun : goal.returns-clause-begun
returns-clause-begun c = open_events

pub returns-clause-bytes : goal.returns-clause-bytes
returns-clause-bytes c = whole_pack

pub returns-clause-bytes_of_an_open_packet : goal.returns-clause-bytes_of_an_open_packet
unfolding digit_value digits_value
returns-clause-bytes_of_an_open_packet c = record {
  clean = begun 1 [];
  more = [];
  rest = rest;
  events = offered ∷ section Packfile ∷ pack 65 ∷ [];
  opened = codes "B";
  splits = open_splits;
  gives = gives_pack [] [] refl;
  stops = tt;
  of_rest = inl (open_by rest refl, refl);
  pack_is = refl;
}

pub returns-clause-progress_is_no_pack : goal.returns-clause-progress_is_no_pack
returns-clause-progress_is_no_pack c = no_pack

pub returns-clause-not_another_byte : goal.returns-clause-not_another_byte
returns-clause-not_another_byte c = λ h.
    differ (codes "B") (codes "A") refl (one_pack terms asked_fetch (pack_bytes 1 (codes "0000")) (codes "B") (codes "A") h whole_pack)

pub returns-clause-not_the_progress : goal.returns-clause-not_the_progress
returns-clause-not_the_progress c = λ h.
    differ (codes "A") [] refl (one_pack terms asked_fetch (pack_bytes 2 (codes "0000")) (codes "A") [] h no_pack)

pub returns-clause-not_less_of_an_open_packet : goal.returns-clause-not_less_of_an_open_packet
returns-clause-not_less_of_an_open_packet c = λ h.
    let less = offered ∷ section Packfile ∷ pack 65 ∷ [] in
    let all = offered ∷ section Packfile ∷ pack 65 ∷ pack 66 ∷ [] in
    let same : less ≡ all = one_event_list terms asked_fetch (pack_bytes 1 rest) less all h open_events in
    cc
