use Rattle.std.proofs.Common.{[], ◌∷◌, codes, refl, arith, inl, inr, true}
use Rattle.git_pkt.specs.Packets.{delim, flush}
use Rattle.git_pkt.specs.declared.fault.Kind.TheVariants.{NoWants}
use Rattle.git_msg.specs.Arguments.{alone}
use Rattle.git_msg.specs.Asked.{HasWants}
use Rattle.git_msg.specs.Lines.{argument, command, delimiter}
use Rattle.git_msg.specs.WrittenRequest.{text_line}
use Rattle.git_msg.specs.declared.arguments.Command.TheVariants.{Fetch}
use Rattle.git_msg.specs.declared.flags.Flag.{Flag}
use Rattle.git_msg.proofs.FaultLaws.{no_fault_in_request}
use Rattle.git_rows.specs.Worked.{at, fetch_done_packets, fetch_of, offer_all}
use Rattle.git_rows.proofs.RequestLines.{asks_fetch, done_reads, fetch_command}
use Rattle.git_rows.proofs.TextsByComputing.{no_error_by}
use Rattle.git_rows.proofs.requests.fetch_without_a_want.Goals as goal

wants_nothing : ¬ HasWants (fetch_of [] true)
wants_nothing (inl some) = omega arith
wants_nothing (inr negotiates) = cc

pub returns-clause-refused : goal.returns-clause-refused
returns-clause-refused c = record {
  front = at 0 (text_line (codes "command=fetch")) ∷ at 18 delim ∷ at 22 (text_line (codes "done")) ∷ [];
  at = at 31 flush;
  back = [];
  items = command Fetch ∷ delimiter ∷ argument (alone Flag.Done) 4 ∷ [];
  whole = refl;
  taken = (
    fetch_command 49,
    (
      (refl, (tt, tt)),
      (
        record {
          is_text = record { no_error = no_error_by (codes "done") refl; of = Fetch; asked = refl; reads = done_reads };
          long_is = refl;
          fits = omega arith;
        },
        tt,
      ),
    ),
  );
  why = record { fault = inl (Fetch, refl, inr (refl, inl (wants_nothing, refl))); offset_is = refl };
}

pub returns-clause-not_where_there_is_a_want : goal.returns-clause-not_where_there_is_a_want
returns-clause-not_where_there_is_a_want c = λ h.
    no_fault_in_request offer_all 49 fetch_done_packets _ 49 NoWants 81 (asks_fetch 49 (omega arith)) h
