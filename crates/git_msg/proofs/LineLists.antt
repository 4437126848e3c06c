-- Lists of lines, with one more line at the end.
use Rattle.std.proofs.Common.{arith, ◌≡◌, ℕ, ◌+◌, Bool, true, false, ◌||◌, Option, Some, None, option_to_list, cond, List, [], ◌∷◌, ◌++◌}
use Rattle.std.proofs.Common.{refl, ap, sym, append_assoc, append-nil, rules, ◌∙◌}
use Rattle.std.specs.List.{list_any, filter_map}
use Rattle.std.specs.Prelude.{All, filter}
use Rattle.std.proofs.lemmas.List.Elements.{filter_map-append, All-nil, All-cons, All-head, All-tail}
use Rattle.std.proofs.lemmas.List.Folds.{list_any-append}
use Rattle.std.proofs.lemmas.List.Sums.{sum_by-append}
use Rattle.git_pkt.specs.Packets.{payload, text_of}
use Rattle.git_pkt.specs.Splits.{Given}
use Rattle.git_msg.specs.declared.offers.Offer.{Offer}
use Rattle.git_msg.specs.declared.words.TextWord.{TextWord}
use Rattle.git_msg.specs.declared.words.Word.TheVariants.{Text as of_text}
use Rattle.git_msg.specs.Arguments.{Arg, with_text}
use Rattle.git_msg.specs.Asked.{is_of, of_word, written}
use Rattle.git_msg.specs.Lines.{Line, server_option, argument, command_in, argument_in, option_in, long_of, is_object_format, is_delimiter}
use Rattle.git_msg.specs.Lines.{commands_of, arguments_of, kept_in, options_of, kept_arguments, has_format, has_delimiter, is_none}
use Rattle.git_msg.specs.Lines.{FitsLimit, IsLine, IsArgumentLine, IsCapabilityLine}
use Rattle.git_msg.specs.Requests.{AreLines, IsLineAfter}
use Rattle.git_msg.proofs.ItemLaws.{items_more}
use Rattle.git_msg.proofs.WrittenArguments.{all_written}

or_false : (a b : Bool) → (a || (b || false)) ≡ (b || a)
or_false true true = refl
or_false a b = refl

option_list : {X Y : Type 0} (h : X → Option Y) (x : X) (o : Option Y) → h x ≡ o → filter_map h (x ∷ []) ≡ option_to_list o
option_list h x None e = rw e refl
option_list h x (Some y) e = rw e refl

pub filter_map_snoc : {X Y : Type 0} (h : X → Option Y) (xs : List X) (x : X) → filter_map h (xs ++ x ∷ []) ≡ filter_map h xs ++ option_to_list (h x)
filter_map_snoc h xs x = filter_map-append h xs (x ∷ []) ∙ ap (λ ys. filter_map h xs ++ ys) (option_list h x (h x) refl)

pub list_any_snoc : {X : Type 0} (p : X → Bool) (xs : List X) (x : X) → list_any p (xs ++ x ∷ []) ≡ (p x || list_any p xs)
list_any_snoc p xs x = list_any-append p xs (x ∷ []) ∙ or_false (list_any p xs) (p x)

pub commands_snoc : (lines : List Line) (line : Line) → commands_of (lines ++ line ∷ []) ≡ commands_of lines ++ option_to_list (command_in line)
commands_snoc lines line = filter_map_snoc command_in lines line

pub arguments_snoc : (lines : List Line) (line : Line) → arguments_of (lines ++ line ∷ []) ≡ arguments_of lines ++ option_to_list (argument_in line)
arguments_snoc lines line = filter_map_snoc argument_in lines line

pub options_snoc : (lines : List Line) (line : Line) → options_of (lines ++ line ∷ []) ≡ options_of lines ++ option_to_list (option_in line)
options_snoc lines line = filter_map_snoc option_in lines line

-- an argument is kept after all options and arguments
pub kept_arguments_snoc : (lines : List Line) (arg : Arg) (long : ℕ)
    → kept_arguments (lines ++ argument arg long ∷ []) ≡ kept_arguments lines ++ arg ∷ []
kept_arguments_snoc lines arg long =
    rw (options_snoc lines (argument arg long), arguments_snoc lines (argument arg long), append-nil (options_of lines))
    (sym (append_assoc (options_of lines) (arguments_of lines) (arg ∷ [])))

-- if no argument came, the options alone are kept
pub options_kept : (lines : List Line) → arguments_of lines ≡ [] → kept_arguments lines ≡ options_of lines
options_kept lines none = ap (λ (args : List Arg). options_of lines ++ args) none ∙ append-nil (options_of lines)

pub format_snoc : (lines : List Line) (line : Line) → has_format (lines ++ line ∷ []) ≡ (is_object_format line || has_format lines)
format_snoc lines line = list_any_snoc is_object_format lines line

pub delimiter_snoc : (lines : List Line) (line : Line) → has_delimiter (lines ++ line ∷ []) ≡ (is_delimiter line || has_delimiter lines)
delimiter_snoc lines line = list_any_snoc is_delimiter lines line

pub kept_snoc : (lines : List Line) (line : Line) → kept_in (lines ++ line ∷ []) ≡ kept_in lines + long_of line
kept_snoc lines line = omega (arith, sum_by-append long_of lines (line ∷ []))

-- each of the options has their word
are_options : (lines : List Line) → All (λ arg. is_of (of_text TextWord.ServerOption) arg ≡ true) (options_of lines)
are_options [] = All-nil (λ (arg : Arg). is_of (of_text TextWord.ServerOption) arg ≡ true)
are_options (server_option option ∷ lines) =
    All-cons (λ (arg : Arg). is_of (of_text TextWord.ServerOption) arg ≡ true) (with_text TextWord.ServerOption option) (options_of lines) refl
    (are_options lines)
are_options (line ∷ lines) = are_options lines

-- a test that all pass leaves all
all_left : {X : Type 0} (test : X → Bool) (xs : List X) → All (λ x. test x ≡ true) xs → filter test xs ≡ xs
all_left {X = X} test [] h = refl
all_left {X = X} test (x ∷ xs) h =
    ap (λ (b : Bool). cond b (x ∷ filter test xs) (filter test xs)) (All-head (λ (y : X). test y ≡ true) x xs h)
    ∙ ap (λ (ys : List X). x ∷ ys) (all_left test xs (All-tail (λ (y : X). test y ≡ true) x xs h))

-- so the options alone are all that is written of them
pub written_options : (lines : List Line) → of_word (of_text TextWord.ServerOption) (written (options_of lines)) ≡ written (options_of lines)
written_options lines =
    all_left (is_of (of_text TextWord.ServerOption)) (written (options_of lines))
    (all_written (λ (arg : Arg). is_of (of_text TextWord.ServerOption) arg ≡ true) (options_of lines) (are_options lines))

-- one more packet that is a line
pub lines_snoc : (offer : Offer) (limit : ℕ) (before : List Line) (gs : List Given) (lines : List Line) (g : Given) (line : Line)
    → AreLines offer limit before gs lines → IsLine offer limit (before ++ lines) g.packet line
    → AreLines offer limit before (gs ++ g ∷ []) (lines ++ line ∷ [])
lines_snoc offer limit = items_more (IsLineAfter offer limit)

-- the argument part's lines are argument lines
pub argument_is_line : (offer : Offer) (limit : ℕ) (lines : List Line) (bytes : List ℕ) (arg : Arg) (long : ℕ)
    → has_delimiter lines ≡ true → IsArgumentLine offer limit lines (text_of bytes) arg long
    → IsLine offer limit lines (payload bytes) (argument arg long)
argument_is_line offer limit lines bytes arg long behind h = search rules

-- a capability line is a line of the capability part
pub capability_is_line : (offer : Offer) (limit : ℕ) (lines : List Line) (bytes : List ℕ) (line : Line)
    → has_delimiter lines ≡ false → IsCapabilityLine offer (is_none (commands_of lines)) (text_of bytes) line → FitsLimit limit (kept_in lines) line
    → IsLine offer limit lines (payload bytes) line
capability_is_line offer limit lines bytes line before h in_limit = search rules
