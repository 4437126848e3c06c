use Rattle.std.proofs.Common.{◌≡◌, [], ◌∷◌, true, false, codes, refl, ap, arith, inl, inr}
use Rattle.git_pkt.specs.Packets.{flush}
use Rattle.git_pkt.specs.declared.fault.Kind.TheVariants.{TooMuchKept}
use Rattle.git_msg.specs.Arguments.{alone}
use Rattle.git_msg.specs.Asked.{has_flag}
use Rattle.git_msg.specs.Requests.{FirstFault}
use Rattle.git_msg.specs.WrittenRequest.{text_line}
use Rattle.git_msg.specs.declared.arguments.Command.TheVariants.{Fetch}
use Rattle.git_msg.specs.declared.flags.Flag.{Flag}
use Rattle.git_msg.proofs.FaultLaws.{no_fault_in_request}
use Rattle.git_msg.proofs.LineLaws.{one_request}
use Rattle.git_rows.specs.Worked.{at, fetch_done_packets, offer_all, want_alone_packets}
use Rattle.git_rows.proofs.RequestLines.{are_want_lines, asks_fetch, done_reads, want_lines}
use Rattle.git_rows.proofs.TextsByComputing.{no_error_by}
use Rattle.git_rows.proofs.requests.fetch_of_one_object.Goals as goal

-- `done` exceeds a limit that is one byte lower
past_the_limit : FirstFault offer_all 48 fetch_done_packets TooMuchKept 72
past_the_limit = record {
  front = want_alone_packets;
  at = at 72 (text_line (codes "done"));
  back = at 81 flush ∷ [];
  items = want_lines;
  whole = refl;
  taken = are_want_lines 48 (omega arith);
  why = record {
    fault = record {
      of = Fetch;
      asked = refl;
      refuses = inr (no_error_by (codes "done") refl, inr ((alone Flag.Done, done_reads), inl (omega arith, refl)));
    };
    offset_is = refl;
  };
}

pub returns-clause-asks : goal.returns-clause-asks
returns-clause-asks c = asks_fetch 49 (omega arith)

pub returns-clause-not_with_haves_to_come : goal.returns-clause-not_with_haves_to_come
returns-clause-not_with_haves_to_come c = λ h.
    let same = one_request offer_all 49 fetch_done_packets _ _ _ _ h (asks_fetch 49 (omega arith)) in
    let is_done : false ≡ true = ap (has_flag Flag.Done) same.0 in
    cc

pub returns-clause-not_past_the_limit : goal.returns-clause-not_past_the_limit
returns-clause-not_past_the_limit c = λ h. no_fault_in_request offer_all 48 fetch_done_packets _ 49 TooMuchKept 72 h past_the_limit
