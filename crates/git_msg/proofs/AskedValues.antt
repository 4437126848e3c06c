-- The values that texts contain are allowed in a request, and so are those that they ask for together.
use Rattle.std.proofs.Common.{arith, ◌≡◌, ℕ, Bool, true, false, None, List, length, inl, inr, refl, subst, sym}
use Rattle.std.specs.Prelude.{All, MatchBool, slice_get}
use Rattle.std.proofs.lemmas.Option.{slice_get_cases}
use Rattle.git_names.specs.declared.object_format.Format.{Format}
use Rattle.git_msg.specs.declared.arguments.Command.{Command}
use Rattle.git_msg.specs.declared.arguments.Command.TheVariants.{LsRefs}
use Rattle.git_msg.specs.Arguments.{Arg, alone, with_id, with_text, with_number, HasArgument, StatesValue, IsArgument, IsFor, IsInRange, IsValue}
use Rattle.git_msg.specs.Asked.{HasValues, HasWants, asked_by, only_negotiates, want_refs_in, wants_in}
use Rattle.git_msg.proofs.WrittenArguments.{all_written, written_again}
use Rattle.git_msg.proofs.WrittenNames.{named_in}

-- the value in a text is in its range
stated_in_range : (format : Format) (value : List ℕ) (arg : Arg) → StatesValue format value arg → IsInRange format arg
stated_in_range format value (alone flag) h = tt
stated_in_range format value (with_id word id) h = named_in format value id h
stated_in_range format value (with_text word text) h = h.1
stated_in_range format value (with_number word number) h = h.in_range

pub conveys_in_range : (format : Format) (text : List ℕ) (arg : Arg) → HasArgument format text arg → IsInRange format arg
conveys_in_range format text arg h = stated_in_range format h.value arg h.states

pub conveys_value : (c : Command) (format : Format) (text : List ℕ) (arg : Arg) → IsArgument c format text arg → IsValue c format arg
conveys_value c format text arg h = (subst (IsFor c) (sym h.0) refl, conveys_in_range format text arg h.1)

-- so the values that arguments ask for together are allowed
pub asked_has_values : (c : Command) (format : Format) (args : List Arg) → All (IsValue c format) args → HasValues format (asked_by c args)
asked_has_values LsRefs format args all = record { allowed = all_written (IsValue LsRefs format) args all; in_order = written_again args }
asked_has_values c format args all = record { allowed = all_written (IsValue c format) args all; in_order = written_again args }

-- a fetch without a want negotiates alone, or wants nothing
pub none_wanted : (q : List Arg) (alone : Bool) → length (wants_in q) ≡ 0 → slice_get (want_refs_in q) 0 ≡ None → only_negotiates q ≡ alone
    → MatchBool alone (HasWants q) (¬ HasWants q)
none_wanted q true none refs is = inr is
none_wanted q false none refs is = λ h. elim h [
  | inl some ↦ elim (slice_get_cases (want_refs_in q) 0).1 [
    | inl found ↦ let here = found.2 in absurd (cc)
    | inr past ↦ omega (arith, some, none, past.0)
  ]
  | inr negotiates ↦ absurd (cc)
]
