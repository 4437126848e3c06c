use Rattle.std.proofs.Common.{◌≡◌, ℕ, true, false, [], ◌∷◌, ◌++◌, codes, refl, ap, arith, inl, inr}
use Rattle.std.specs.Fmt.{digits}
use Rattle.std.proofs.lemmas.List.Elements.{All-nil}
use Rattle.git_names.specs.Digits.{lower_digit}
use Rattle.git_pkt.specs.Packets.{delim}
use Rattle.git_pkt.specs.declared.fault.Kind.TheVariants.{BadDigit, Truncated, UnknownCommand}
use Rattle.git_pkt.proofs.Spelling.{none_begins_nothing, none_begins_short}
use Rattle.git_msg.specs.Admission.{IsAdmitted}
use Rattle.git_msg.specs.Arguments.{with_id}
use Rattle.git_msg.specs.declared.words.ObjectWord.{ObjectWord}
use Rattle.git_msg.specs.Lines.{command}
use Rattle.git_msg.specs.WrittenRequest.{text_line}
use Rattle.git_msg.specs.declared.arguments.Command.TheVariants.{Fetch, LsRefs}
use Rattle.git_server.specs.Admission.{barred}
use Rattle.git_server.specs.Answers.{error_packet}
use Rattle.git_server.specs.Sessions.{Begins, IsSession}
use Rattle.git_server.specs.declared.outcome.Outcome.{Outcome}
use Rattle.git_server.specs.declared.outcome.Outcome.TheVariants.{Closed, Refused}
use Rattle.git_server.proofs.OneOutcome.{one_end, one_outcome}
use Rattle.git_rows.specs.Worked.{all_b, at, fault_at, name_b, offer_all}
use Rattle.git_rows.specs.WorkedSessions.{repo, setting}
use Rattle.git_rows.proofs.ObjectNamesByComputing.{all_b_is_name}
use Rattle.git_rows.proofs.OpenRests.{open_nothing, stops_at_letter}
use Rattle.git_rows.proofs.RequestLines.{fetch_begun, fetch_command, ls_refs_command, unknown_command}
use Rattle.git_rows.proofs.ServedRequests.{first_is_unbarred}
use Rattle.git_rows.proofs.TextsByComputing.{no_error_by}
use Rattle.git_rows.proofs.WrittenPackets.{fit_by, splits_written}
use Rattle.git_rows.proofs.sessions.input_refused.Goals as goal

abbrev offset_of : Outcome → ℕ
offset_of (Refused fault) = fault.offset
offset_of outcome = 0

nothing_begun : Begins setting []
nothing_begun = record { lines = []; taken = tt; admitted = All-nil (IsAdmitted (barred repo)) }

no_digit : IsSession setting (codes "00g") false (codes "0016ERR BadDigit at 2\n") (Refused (fault_at BadDigit 2))
unfolding digits lower_digit
no_digit = record {
  asked = [];
  left = [];
  rest = codes "00g";
  answers = [];
  stream = record {
    packets = [];
    splits = record { spelled = refl; ends = none_begins_short (codes "00g") (omega arith) };
    requests = refl;
  };
  ends = inl (inr (inl (record { goes_on = refl; begins = nothing_begun; stops = stops_at_letter; not_the_end = λ e. cc })));
  answered = refl;
  tail = error_packet (fault_at BadDigit 2) ∷ [];
  is_tail = refl;
  given_is = refl;
  fit = fit_by (error_packet (fault_at BadDigit 2) ∷ []) refl;
}

cut : IsSession setting (codes "0014command=ls-refs\n") true (codes "0018ERR Truncated at 20\n") (Refused (fault_at Truncated 20))
unfolding digits lower_digit
cut = record {
  asked = [];
  left = at 0 (text_line (codes "command=ls-refs")) ∷ [];
  rest = [];
  answers = [];
  stream = record {
    packets = at 0 (text_line (codes "command=ls-refs")) ∷ [];
    splits = splits_written 0 (text_line (codes "command=ls-refs") ∷ []) [] refl none_begins_nothing;
    requests = refl;
  };
  ends = inl (inr (inr (record {
    ended = refl;
    begins = record { lines = command LsRefs ∷ []; taken = (ls_refs_command 49, tt); admitted = All-nil (IsAdmitted (barred repo)) };
    unrefused = open_nothing;
    inside = inl (λ e. cc);
    name = refl;
    at = refl;
  })));
  answered = refl;
  tail = error_packet (fault_at Truncated 20) ∷ [];
  is_tail = refl;
  given_is = refl;
  fit = fit_by (error_packet (fault_at Truncated 20) ∷ []) refl;
}

pub returns-clause-unknown_command : goal.returns-clause-unknown_command
unfolding digits lower_digit
returns-clause-unknown_command c = record {
  asked = [];
  left = at 0 (text_line (codes "command=bundle-uri")) ∷ [];
  rest = [];
  answers = [];
  stream = record {
    packets = at 0 (text_line (codes "command=bundle-uri")) ∷ [];
    splits = splits_written 0 (text_line (codes "command=bundle-uri") ∷ []) [] refl none_begins_nothing;
    requests = refl;
  };
  ends = inl (inl (record {
    front = [];
    last = at 0 (text_line (codes "command=bundle-uri"));
    whole = refl;
    begins = nothing_begun;
    announced = inr (
      first_is_unbarred offer_all 49 (barred repo) (at 0 (text_line (codes "command=bundle-uri"))),
      inl (record {
        front = [];
        at = at 0 (text_line (codes "command=bundle-uri"));
        back = [];
        items = [];
        whole = refl;
        taken = tt;
        why = record { fault = unknown_command 49; offset_is = refl };
      }),
    );
    no_rest = refl;
  }));
  answered = refl;
  tail = error_packet (fault_at UnknownCommand 0) ∷ [];
  is_tail = refl;
  given_is = refl;
  fit = fit_by (error_packet (fault_at UnknownCommand 0) ∷ []) refl;
}

pub returns-clause-no_digit : goal.returns-clause-no_digit
returns-clause-no_digit c = no_digit

pub returns-clause-cut : goal.returns-clause-cut
returns-clause-cut c = cut

pub returns-clause-not_ours : goal.returns-clause-not_ours
unfolding lower_digit
returns-clause-not_ours c = record {
  asked = [];
  left = at 0 (text_line (codes "command=fetch")) ∷ at 18 delim ∷ at 22 (text_line (codes "want " ++ all_b)) ∷ [];
  rest = [];
  stream = record {
    packets = at 0 (text_line (codes "command=fetch")) ∷ at 18 delim ∷ at 22 (text_line (codes "want " ++ all_b)) ∷ [];
    splits = splits_written 0 (text_line (codes "command=fetch") ∷ delim ∷ text_line (codes "want " ++ all_b) ∷ []) [] refl none_begins_nothing;
    requests = refl;
  };
  refused = inl (record {
    front = at 0 (text_line (codes "command=fetch")) ∷ at 18 delim ∷ [];
    last = at 22 (text_line (codes "want " ++ all_b));
    whole = refl;
    begins = record { lines = fetch_begun; taken = (fetch_command 49, ((refl, (tt, tt)), tt)); admitted = All-nil (IsAdmitted (barred repo)) };
    announced = inl (record {
      front = at 0 (text_line (codes "command=fetch")) ∷ at 18 delim ∷ [];
      last = at 22 (text_line (codes "want " ++ all_b));
      lines = fetch_begun;
      whole = refl;
      taken = (fetch_command 49, ((refl, (tt, tt)), tt));
      is_barred = record {
        bytes = codes "want " ++ all_b ++ codes "\n";
        arg = with_id ObjectWord.Want name_b;
        behind = refl;
        data_packet = refl;
        is_text = record {
          no_error = no_error_by (codes "want " ++ all_b) refl;
          of = Fetch;
          asked = refl;
          reads = record { is_argument = (refl, record { value = all_b; spelled = refl; states = all_b_is_name }); offered = refl };
        };
        refuses = refl;
      };
      at = refl;
    });
    no_rest = refl;
  });
  of_the_bytes = record { by_memory = λ e. cc; by_pack = λ e. cc };
}

pub returns-clause-not_at_another_offset : goal.returns-clause-not_at_another_offset
returns-clause-not_at_another_offset c = λ h.
    let same = one_end setting (codes "00g") false h.asked no_digit.asked h.left no_digit.left h.rest no_digit.rest (Refused (fault_at BadDigit 1))
    (Refused (fault_at BadDigit 2)) h.stream no_digit.stream (inl h.refused) no_digit.ends h.of_the_bytes
    (record { by_memory = λ e. cc; by_pack = λ e. cc }) in
    let offset : 1 ≡ 2 = ap offset_of same in
    omega (arith, offset)

pub returns-clause-not_closed : goal.returns-clause-not_closed
returns-clause-not_closed c = λ h.
    let same : Closed ≡ Refused (fault_at Truncated 20) =
    one_outcome setting (codes "0014command=ls-refs\n") true [] _ Closed (Refused (fault_at Truncated 20)) h cut
    (record { by_memory = λ w. w; by_pack = λ w. w }) (record { by_memory = λ e. cc; by_pack = λ e. cc }) in
    cc
