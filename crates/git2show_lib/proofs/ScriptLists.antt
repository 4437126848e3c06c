-- The lines of a script with one more after them.
use Rattle.std.proofs.Common.{arith, ◌≡◌, ℕ, ◌≤◌, List, [], ◌∷◌, ◌++◌, Some, refl, ap, sym, ◌∙◌, subst, append_assoc, length, map, reverse}
use Rattle.std.proofs.lemmas.List.{map-append, reverse-append, reverse-reverse}
use Rattle.git_names.specs.declared.object_format.Format.{Format}
use Rattle.git_msg.specs.declared.arguments.Command.{Command}
use Rattle.git_msg.specs.Arguments.{Arg}
use Rattle.git2show_lib.specs.Scripts.{ScriptLine, blank, command, argument, arguments_upto, kept_after, open_after, request_of, requests_in}

-- what is open after one more is what it makes of what was open
pub open_more : (lines : List ScriptLine) (line : ScriptLine) → open_after (reverse (lines ++ line ∷ [])) ≡ open_after (line ∷ reverse lines)
open_more lines line = ap open_after (reverse-append lines (line ∷ []))

pub kept_more : (lines : List ScriptLine) (line : ScriptLine) → kept_after (reverse (lines ++ line ∷ [])) ≡ kept_after (line ∷ reverse lines)
kept_more lines line = ap kept_after (reverse-append lines (line ∷ []))

upto_blank : (lines : List ScriptLine) → arguments_upto (lines ++ blank ∷ []) ≡ arguments_upto lines
upto_blank [] = refl
upto_blank (blank ∷ lines) = refl
upto_blank (command c ∷ lines) = refl
upto_blank (argument arg ∷ lines) = ap (λ (args : List Arg). arg ∷ args) (upto_blank lines)

-- an empty line contains no request
pub requests_blank : (format : Format) (limit : ℕ) (lines : List ScriptLine) → requests_in format limit (lines ++ blank ∷ []) ≡ requests_in format limit lines
requests_blank format limit [] = refl
requests_blank format limit (blank ∷ lines) = requests_blank format limit lines
requests_blank format limit (command c ∷ lines) =
    rw (upto_blank lines, requests_blank format limit lines) refl
requests_blank format limit (argument arg ∷ lines) = requests_blank format limit lines

upto_command : (lines : List ScriptLine) (c : Command) (more : List ScriptLine) → arguments_upto (lines ++ command c ∷ more) ≡ arguments_upto lines
upto_command [] c more = refl
upto_command (blank ∷ lines) c more = refl
upto_command (command d ∷ lines) c more = refl
upto_command (argument arg ∷ lines) c more = ap (λ (args : List Arg). arg ∷ args) (upto_command lines c more)

-- a command begins a request, whatever comes before it
pub requests_cut : (format : Format) (limit : ℕ) (lines : List ScriptLine) (c : Command) (more : List ScriptLine)
    → requests_in format limit (lines ++ command c ∷ more)
    ≡ requests_in format limit lines ++ (request_of format limit c (arguments_upto more) ∷ requests_in format limit more)
requests_cut format limit [] c more = refl
requests_cut format limit (blank ∷ lines) c more = requests_cut format limit lines c more
requests_cut format limit (command d ∷ lines) c more =
    rw (upto_command lines c more, requests_cut format limit lines c more) refl
requests_cut format limit (argument arg ∷ lines) c more = requests_cut format limit lines c more

-- there are no more requests than lines
pub few_requests : (format : Format) (limit : ℕ) (lines : List ScriptLine) → length (requests_in format limit lines) ≤ length lines
few_requests format limit [] = omega arith
few_requests format limit (blank ∷ lines) = omega (arith, few_requests format limit lines)
few_requests format limit (command c ∷ lines) = omega (arith, few_requests format limit lines)
few_requests format limit (argument arg ∷ lines) = omega (arith, few_requests format limit lines)

upto_all : (args : List Arg) → arguments_upto (map argument args) ≡ args
upto_all [] = refl
upto_all (arg ∷ args) = ap (λ (xs : List Arg). arg ∷ xs) (upto_all args)

none_in_arguments : (format : Format) (limit : ℕ) (args : List Arg) → requests_in format limit (map argument args) ≡ []
none_in_arguments format limit [] = refl
none_in_arguments format limit (arg ∷ args) = none_in_arguments format limit args

-- lines that end in a request of this command with these arguments
pub record Cut (lines : List ScriptLine) (c : Command) : Type 0 where
  pub front : List ScriptLine
  pub args : List Arg
  pub whole : lines ≡ front ++ command c ∷ map argument args

cut_of_reversed : (before : List ScriptLine) (c : Command) → open_after before ≡ Some c → Cut (reverse before) c
cut_of_reversed [] c e = absurd (cc)
cut_of_reversed (blank ∷ before) c e = absurd (cc)
cut_of_reversed (command d ∷ before) c e =
    let same : d ≡ c = cc in record { front = reverse before; args = []; whole = rw same (reverse-append (command c ∷ []) before) }
cut_of_reversed (argument arg ∷ before) c e =
    let cut = cut_of_reversed before c e in
    record {
      front = cut.front;
      args = cut.args ++ arg ∷ [];
      whole = reverse-append (argument arg ∷ []) before
          ∙ ap (λ (ls : List ScriptLine). ls ++ argument arg ∷ []) cut.whole
          ∙ append_assoc cut.front (command c ∷ map argument cut.args) (argument arg ∷ [])
          ∙ ap (λ (ls : List ScriptLine). cut.front ++ command c ∷ ls) (sym (map-append argument cut.args (arg ∷ [])));
    }

-- where a request is open the lines end in it
pub cut_of : (lines : List ScriptLine) (c : Command) → open_after (reverse lines) ≡ Some c → Cut lines c
cut_of lines c e = subst (λ (ls : List ScriptLine). Cut ls c) (reverse-reverse lines) (cut_of_reversed (reverse lines) c e)

pub requests_of_cut : (format : Format) (limit : ℕ) (lines : List ScriptLine) (c : Command) (cut : Cut lines c)
    → requests_in format limit lines ≡ requests_in format limit cut.front ++ request_of format limit c cut.args ∷ []
requests_of_cut format limit lines c cut =
    rw (
      cut.whole,
      requests_cut format limit cut.front c (map argument cut.args),
      upto_all cut.args,
      none_in_arguments format limit cut.args,
    ) refl
