use Rattle.std.proofs.Common.{◌≡◌, [], ◌∷◌, codes, refl, arith, inl, inr}
use Rattle.git_pkt.specs.Packets.{delim}
use Rattle.git_pkt.specs.declared.fault.Kind.TheVariants.{TooMuchKept}
use Rattle.git_msg.specs.Arguments.{ReadsAs, alone, with_text}
use Rattle.git_msg.specs.declared.words.TextWord.{TextWord}
use Rattle.git_msg.specs.Lines.{argument, command, delimiter}
use Rattle.git_msg.specs.Requests.{FirstFault}
use Rattle.git_msg.specs.WrittenRequest.{text_line}
use Rattle.git_msg.specs.declared.arguments.Command.TheVariants.{LsRefs}
use Rattle.git_msg.specs.declared.flags.Flag.{Flag}
use Rattle.git_msg.proofs.FaultLaws.{one_first_fault}
use Rattle.git_rows.specs.Worked.{at, offer_all, three_argument_packets}
use Rattle.git_rows.proofs.RequestLines.{ls_refs_command}
use Rattle.git_rows.proofs.TextsByComputing.{no_error_by}
use Rattle.git_rows.proofs.requests.argument_past_the_limit.Goals as goal

symrefs_reads : ReadsAs LsRefs offer_all (codes "symrefs") (alone Flag.Symrefs)
symrefs_reads = record { is_argument = (refl, record { value = []; spelled = refl; states = tt }); offered = refl }

refused : FirstFault offer_all 26 three_argument_packets TooMuchKept 60
refused = record {
  front =
      at 0 (text_line (codes "command=ls-refs")) ∷ at 20 delim ∷ at 24 (text_line (codes "peel"))
      ∷ at 33 (text_line (codes "ref-prefix refs/heads/")) ∷ [];
  at = at 60 (text_line (codes "symrefs"));
  back = [];
  items =
      command LsRefs ∷ delimiter ∷ argument (alone Flag.Peel) 4 ∷ argument (with_text TextWord.RefPrefix (codes "refs/heads/")) 22 ∷ [];
  whole = refl;
  taken = (
    ls_refs_command 26,
    (
      (refl, (tt, tt)),
      (
        record {
          is_text = record {
            no_error = no_error_by (codes "peel") refl;
            of = LsRefs;
            asked = refl;
            reads = record { is_argument = (refl, record { value = []; spelled = refl; states = tt }); offered = refl };
          };
          long_is = refl;
          fits = omega arith;
        },
        (
          record {
            is_text = record {
              no_error = no_error_by (codes "ref-prefix refs/heads/") refl;
              of = LsRefs;
              asked = refl;
              reads = record { is_argument = (refl, record { value = _; spelled = refl; states = (refl, (omega arith, omega arith)) }); offered = refl };
            };
            long_is = refl;
            fits = omega arith;
          },
          tt,
        ),
      ),
    ),
  );
  why = record {
    fault = record {
      of = LsRefs;
      asked = refl;
      refuses = inr (no_error_by (codes "symrefs") refl, inr ((alone Flag.Symrefs, symrefs_reads), inl (omega arith, refl)));
    };
    offset_is = refl;
  };
}

pub returns-clause-refused : goal.returns-clause-refused
returns-clause-refused c = refused

pub returns-clause-not_at_the_one_before : goal.returns-clause-not_at_the_one_before
returns-clause-not_at_the_one_before c = λ h.
    let same = one_first_fault offer_all 26 three_argument_packets _ _ _ _ h refused in
    let offset : 33 ≡ 60 = same.1 in
    omega (arith, offset)
