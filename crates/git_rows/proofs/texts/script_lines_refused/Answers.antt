use Rattle.std.proofs.Common.{◌≡◌, Some, [], ◌∷◌, codes, refl, arith, inl, subst, sym}
use Rattle.git_pkt.specs.declared.fault.Kind.TheVariants.{UnknownArgument}
use Rattle.git_msg.specs.Arguments.{IsArgumentFault, ReadsAs}
use Rattle.git_msg.specs.declared.arguments.Command.{Command}
use Rattle.git_msg.specs.declared.arguments.Command.TheVariants.{Fetch}
use Rattle.git_msg.proofs.HeadWords.{none_named}
use Rattle.git_msg.proofs.Rows.{argument_or_fault}
use Rattle.git2show_lib.specs.Scripts.{HasBadScriptLine, MayFollow, ScriptLine, argument, blank, command}
use Rattle.git2show_lib.proofs.ScriptLaws.{one_bad_line, script_or_bad}
use Rattle.git_repository.specs.RepositoryLines.{lines_of}
use Rattle.git_rows.specs.Worked.{offer_all}
use Rattle.git_rows.proofs.Scripts.{script}
use Rattle.git_rows.proofs.TextsByComputing.{differ}
use Rattle.git_rows.proofs.texts.script_lines_refused.Goals as goal

-- the text is a flag of another command
symrefs_refused : IsArgumentFault Fetch offer_all (codes "symrefs") UnknownArgument
symrefs_refused = inl (inl (none_named Fetch (codes "symrefs") (λ of value h. cc), refl))

same_command : (c d : Command) → Some c ≡ Some d → c ≡ d
same_command c d e = cc

none_follows : (line : ScriptLine) → ¬ MayFollow offer_all 7 (command Fetch ∷ []) (codes "symrefs") line
none_follows blank h = differ (codes "symrefs") [] refl h
none_follows (command c) h = let none = h.0 in cc
none_follows (argument arg) h =
    let reads : ReadsAs Fetch offer_all (codes "symrefs") arg =
    subst (λ (c : Command). ReadsAs c offer_all (codes "symrefs") arg) (sym (same_command Fetch h.of h.is_open)) h.reads in
    argument_or_fault Fetch offer_all (codes "symrefs") arg UnknownArgument reads symrefs_refused

refused : HasBadScriptLine offer_all 7 (lines_of (codes "fetch\nsymrefs\n")) 2
refused = record {
  front = codes "fetch" ∷ [];
  at = codes "symrefs";
  back = [];
  items = command Fetch ∷ [];
  whole = refl;
  taken = ((refl, refl), tt);
  why = record { at_number = refl; refused = none_follows };
}

pub returns-clause-of_another_command : goal.returns-clause-of_another_command
returns-clause-of_another_command c = refused

pub returns-clause-not_its_command : goal.returns-clause-not_its_command
returns-clause-not_its_command c = λ h.
    let number : 1 ≡ 2 = one_bad_line offer_all 7 (codes "fetch\nsymrefs\n") 1 2 h refused in
    omega (arith, number)

pub returns-clause-not_in_a_script : goal.returns-clause-not_in_a_script
returns-clause-not_in_a_script c = λ h. script_or_bad offer_all 7 (codes "ls-refs\nsymrefs\n\n") _ 2 script h
