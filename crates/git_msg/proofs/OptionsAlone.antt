-- The server options of a request, kept alone: requests of every command may have them, and their bytes are counted.
use Rattle.std.proofs.Common.{arith, ◌≡◌, ℕ, ◌≤◌, Bool, true, false, if◌then◌else◌, List, [], ◌∷◌, All, length, subst, sym}
use Rattle.std.proofs.lemmas.List.Elements.{All-filter, All-weaker, filter_passes}
use Rattle.std.proofs.lemmas.List.Sums.{sum_by-cons}
use Rattle.git_names.specs.declared.object_format.Format.{Format}
use Rattle.git_msg.specs.Arguments.{Arg, IsFor, IsInRange, MayHave, row, word_of, written_text}
use Rattle.git_msg.specs.Asked.{bytes_of, is_of, of_word}
use Rattle.git_msg.specs.Kept.{AreOf, IsSound}
use Rattle.git_msg.specs.Machine.ArgumentLists.{held, stored}
use Rattle.git_msg.specs.declared.arguments.Command.{Command}
use Rattle.git_msg.specs.declared.lists.ArgumentLists.{ArgumentLists}
use Rattle.git_msg.specs.declared.words.TextWord.{TextWord}
use Rattle.git_msg.specs.declared.words.Word.{Word}
use Rattle.git_msg.specs.declared.words.Word.TheVariants.{Text as of_text}
use Rattle.git_msg.proofs.HeadWords.{same_word}
use Rattle.git_msg.proofs.HeldArguments.{held_in_order}

abbrev pub option_word : Word
option_word = of_text TextWord.ServerOption

-- requests of every command may have an option
pub option_of_all : (c : Command) (arg : Arg) → is_of option_word arg ≡ true → MayHave c arg
option_of_all c arg is = subst (λ (word : Word). IsFor c (row word).command) (same_word option_word (word_of arg) is) tt

pub options_of_all : (c : Command) (args : List Arg) → AreOf c (of_word option_word args)
options_of_all c args =
    All-weaker (λ arg. is_of option_word arg ≡ true) (MayHave c) (option_of_all c) (of_word option_word args) (filter_passes (is_of option_word) args)

pub alone_of_all : {A : Type 0} (q new : ArgumentLists A) → held new ≡ of_word option_word (held q) → (c : Command) → AreOf c (held new)
alone_of_all q new is c = subst (AreOf c) (sym is) (options_of_all c (held q))

-- fewer arguments have no more bytes
fewer_at : (arg : Arg) (args : List Arg) (is : Bool) → bytes_of (of_word option_word args) ≤ bytes_of args
    → bytes_of (if is then arg ∷ of_word option_word args else of_word option_word args) ≤ bytes_of (arg ∷ args)
fewer_at arg args true less =
    let weight : Arg → ℕ = λ a. length (written_text a) in
    omega (arith, less, sum_by-cons weight arg args, sum_by-cons weight arg (of_word option_word args))
fewer_at arg args false less = let weight : Arg → ℕ = λ a. length (written_text a) in omega (arith, less, sum_by-cons weight arg args)

fewer_bytes : (args : List Arg) → bytes_of (of_word option_word args) ≤ bytes_of args
fewer_bytes [] = omega arith
fewer_bytes (arg ∷ args) = fewer_at arg args (is_of option_word arg) (fewer_bytes args)

pub sound_alone : {A : Type 0} (q new : ArgumentLists A) (format : Format) (kept limit : ℕ) → held new ≡ of_word option_word (held q) → stored new ≤ stored q
    → IsSound (record { format = format; asked = held q; kept = kept; limit = limit; stored = stored q })
    → IsSound (record { format = format; asked = held new; kept = kept; limit = limit; stored = stored new })
sound_alone q new format kept limit alone less h = record {
  ranges = rw alone (All-filter (is_of option_word) (IsInRange format) (held q) h.ranges);
  in_order = held_in_order new;
  written = rw alone (omega (arith, h.written, fewer_bytes (held q)));
  covered = omega (arith, less, h.covered);
  space = h.space;
  in_range = h.in_range;
}
