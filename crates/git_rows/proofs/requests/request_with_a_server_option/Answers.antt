use Rattle.std.proofs.Common.{◌≡◌, ℕ, ◌≤◌, true, Some, length, [], ◌∷◌, codes, refl, ap, arith, inl, inr}
use Rattle.git_pkt.specs.Packets.{flush}
use Rattle.git_pkt.specs.declared.fault.Kind.TheVariants.{NotAdvertised, TooMuchKept}
use Rattle.git_msg.specs.Asked.{Asked, arguments_in}
use Rattle.git_msg.specs.Lines.{IsCapabilityLine, IsLine, command, key_by, server_option}
use Rattle.git_msg.specs.Requests.{Asks, FirstFault}
use Rattle.git_msg.specs.WrittenRequest.{text_line}
use Rattle.git_msg.specs.declared.arguments.Command.TheVariants.{LsRefs}
use Rattle.git_msg.proofs.FaultLaws.{one_first_fault}
use Rattle.git_msg.proofs.LineLaws.{one_request}
use Rattle.git_rows.specs.Worked.{at, offer_all, option_asked, option_packets}
use Rattle.git_rows.proofs.RequestLines.{ls_refs_command}
use Rattle.git_rows.proofs.TextsByComputing.{no_error_by}
use Rattle.git_rows.proofs.requests.request_with_a_server_option.Goals as goal

is_option : IsCapabilityLine offer_all true (codes "server-option=x") (server_option (codes "x"))
is_option = record {
  no_error = no_error_by (codes "server-option=x") refl;
  key = key_by (codes "server-option");
  value = Some (codes "x");
  has_key = record { word = codes "server-option"; is_capability = (refl, refl, refl); is_word = refl };
  allowed = (refl, (omega arith, tt));
  line_is = refl;
}

option_line : (limit : ℕ) → 15 ≤ limit → IsLine offer_all limit [] (text_line (codes "server-option=x")) (server_option (codes "x"))
option_line limit fits = (is_option, omega (arith, fits))

asks : Asks offer_all 15 option_packets option_asked 15
asks = record {
  front = at 0 (text_line (codes "server-option=x")) ∷ at 20 (text_line (codes "command=ls-refs")) ∷ [];
  last = at 40 flush;
  lines = server_option (codes "x") ∷ command LsRefs ∷ [];
  command = LsRefs;
  whole = refl;
  ends = refl;
  taken = (option_line 15 (omega arith), (ls_refs_command 15, tt));
  once = refl;
  checks = (refl, (tt, ((LsRefs, refl, tt), tt)));
  asked_is = refl;
  kept_is = refl;
}

pub returns-clause-asks : goal.returns-clause-asks
returns-clause-asks c = asks

pub returns-clause-not_without_it : goal.returns-clause-not_without_it
returns-clause-not_without_it c = λ h.
    let same = one_request offer_all 15 option_packets _ _ _ _ h asks in
    let count = ap (λ (q : Asked). length (arguments_in q)) same.0 in
    omega (arith, count)

pub returns-clause-not_uncounted : goal.returns-clause-not_uncounted
returns-clause-not_uncounted c = λ h.
    let same = one_request offer_all 15 option_packets _ _ _ _ h asks in
    let count : 0 ≡ 15 = same.1 in
    omega (arith, count)

-- with one byte less it exceeds the limit
past : FirstFault offer_all 14 option_packets TooMuchKept 0
past = record {
  front = [];
  at = at 0 (text_line (codes "server-option=x"));
  back = at 20 (text_line (codes "command=ls-refs")) ∷ at 40 flush ∷ [];
  items = [];
  whole = refl;
  taken = tt;
  why = record {
    fault = inr (
      is_option.no_error,
      inr (
        (codes "server-option", Some (codes "x"), (refl, refl, refl)),
        inr ((is_option.key, is_option.value, is_option.has_key, is_option.allowed), inl ((server_option (codes "x"), is_option, omega arith), refl)),
      ),
    );
    offset_is = refl;
  };
}

pub returns-clause-past_the_limit : goal.returns-clause-past_the_limit
returns-clause-past_the_limit c = past

pub returns-clause-not_by_another_name : goal.returns-clause-not_by_another_name
returns-clause-not_by_another_name c = λ h.
    let same = one_first_fault offer_all 14 option_packets _ _ _ _ h past in
    let name : NotAdvertised ≡ TooMuchKept = same.0 in
    cc

pub returns-clause-memory : goal.returns-clause-memory
returns-clause-memory c = record {
  front = [];
  last = at 0 (text_line (codes "server-option=x"));
  lines = [];
  line = server_option (codes "x");
  whole = refl;
  taken = tt;
  is_line = option_line 15 (omega arith);
  needs_memory = tt;
  name = refl;
  at = refl;
}
