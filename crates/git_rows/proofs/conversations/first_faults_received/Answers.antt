use Rattle.std.proofs.Common.{◌≡◌, true, [], ◌∷◌, codes, refl, ap, arith, inl, inr}
use Rattle.git_names.specs.Digits.{digit_value, lower_digit}
use Rattle.git_names.specs.declared.object_format.Format.TheVariants.{Sha256}
use Rattle.git_pkt.specs.Digits.{digits_value}
use Rattle.git_pkt.specs.Packets.{flush, payload}
use Rattle.git_pkt.specs.declared.fault.Fault.{Fault}
use Rattle.git_pkt.specs.declared.fault.Kind.TheVariants.{NotVersion2, RemoteError, Truncated, WrongFormat}
use Rattle.git_pkt.proofs.Spelling.{none_begins_nothing, none_begins_short}
use Rattle.git_msg.specs.WrittenRequest.{text_line}
use Rattle.git_client.specs.Conversation.{FirstMalformed}
use Rattle.git_client.specs.Parts.{terms_of}
use Rattle.git_client.specs.Places.{capabilities, version}
use Rattle.git_client.specs.declared.events.Ending.TheVariants.{FlushOnly}
use Rattle.git_client.proofs.OneFault.{one_by_name, one_shown}
use Rattle.git_rows.specs.Worked.{at, fault_at}
use Rattle.git_rows.specs.WorkedConversations.{offer_bytes, terms}
use Rattle.git_rows.proofs.OpenRests.{open_by, stops_at_letter}
use Rattle.git_rows.proofs.ReceivedPackets.{gives_version, refuses_at}
use Rattle.git_rows.proofs.TextsByComputing.{differ, no_error_by}
use Rattle.git_rows.proofs.WrittenPackets.{splits_written}
use Rattle.git_rows.proofs.conversations.first_faults_received.Goals as goal

no_version : FirstMalformed terms [] (codes "0007ERR") (fault_at NotVersion2 0)
unfolding lower_digit
no_version = inl (record {
  given = at 0 (payload (codes "ERR")) ∷ [];
  rest = [];
  splits = splits_written 0 (payload (codes "ERR") ∷ []) [] refl none_begins_nothing;
  first = record {
    clean = [];
    bad = at 0 (payload (codes "ERR"));
    more = [];
    events = [];
    cut = refl;
    sound = refl;
    refused = refuses_at terms [] [] (payload (codes "ERR")) NotVersion2 version refl
        (inr (no_error_by (codes "ERR") refl, (differ (codes "ERR") (codes "version 2") refl, refl)));
    at = refl;
  };
})

another_format : FirstMalformed (terms_of Sha256 FlushOnly) [] offer_bytes (fault_at WrongFormat 14)
unfolding lower_digit
another_format = inl (record {
  given = at 0 (text_line (codes "version 2")) ∷ at 14 flush ∷ [];
  rest = [];
  splits = splits_written 0 (text_line (codes "version 2") ∷ flush ∷ []) [] refl none_begins_nothing;
  first = record {
    clean = at 0 (text_line (codes "version 2")) ∷ [];
    bad = at 14 flush;
    more = [];
    events = [];
    cut = refl;
    sound = ([], [], refl, gives_version (terms_of Sha256 FlushOnly) [], refl);
    refused = refuses_at (terms_of Sha256 FlushOnly) [] (text_line (codes "version 2") ∷ []) flush WrongFormat _ refl refl;
    at = refl;
  };
})

cut_short : FirstMalformed terms [] (codes "000eversion 2\n00") (fault_at Truncated 14)
unfolding digit_value digits_value lower_digit
cut_short = inr (inr (record {
  given = at 0 (text_line (codes "version 2")) ∷ [];
  rest = codes "00";
  events = [];
  splits = splits_written 0 (text_line (codes "version 2") ∷ []) (codes "00") refl (none_begins_short (codes "00") (omega arith));
  sound = ([], [], refl, gives_version terms [], refl);
  still_open = open_by (codes "00") refl;
  expected = (capabilities true, refl);
  kind = refl;
  at = refl;
}))

pub returns-clause-no_version : goal.returns-clause-no_version
returns-clause-no_version c = no_version

pub returns-clause-error : goal.returns-clause-error
unfolding lower_digit
returns-clause-error c = inl (record {
  given = at 0 (text_line (codes "ERR nope")) ∷ [];
  rest = [];
  splits = splits_written 0 (text_line (codes "ERR nope") ∷ []) [] refl none_begins_nothing;
  first = record {
    clean = [];
    bad = at 0 (text_line (codes "ERR nope"));
    more = [];
    events = [];
    cut = refl;
    sound = refl;
    refused = refuses_at terms [] [] (text_line (codes "ERR nope")) RemoteError version refl
        (inl (record { message = codes "nope"; spelled = refl }, refl));
    at = refl;
  };
})

pub returns-clause-another_format : goal.returns-clause-another_format
returns-clause-another_format c = another_format

pub returns-clause-no_digit : goal.returns-clause-no_digit
returns-clause-no_digit c = inr (inl (record {
  given = [];
  rest = codes "00g";
  events = [];
  splits = record { spelled = refl; ends = none_begins_short (codes "00g") (omega arith) };
  sound = refl;
  expected = (version, refl);
  by = stops_at_letter;
}))

pub returns-clause-cut : goal.returns-clause-cut
returns-clause-cut c = cut_short

pub returns-clause-not_by_another_name : goal.returns-clause-not_by_another_name
returns-clause-not_by_another_name c = λ h.
    let same = ap (λ (fault : Fault). fault.kind) (one_shown terms [] (codes "0007ERR") _ _ h no_version (λ e. cc) (λ e. cc)) in
    cc

pub returns-clause-not_at_another_offset : goal.returns-clause-not_at_another_offset
returns-clause-not_at_another_offset c = λ h.
    let offset : 0 ≡ 14 = ap (λ (fault : Fault). fault.offset)
    (one_by_name (terms_of Sha256 FlushOnly) [] offer_bytes (fault_at WrongFormat 0) (fault_at WrongFormat 14) h another_format refl) in
    omega (arith, offset)

pub returns-clause-not_cut_elsewhere : goal.returns-clause-not_cut_elsewhere
returns-clause-not_cut_elsewhere c = λ h.
    let offset : 16 ≡ 14 = ap (λ (fault : Fault). fault.offset)
    (one_by_name terms [] (codes "000eversion 2\n00") (fault_at Truncated 16) (fault_at Truncated 14) h cut_short refl) in
    omega (arith, offset)
