-- A text is one script, or has one first bad line.
use Rattle.std.proofs.Common.{arith, ◌≡◌, ℕ, List, [], refl, ap, sym, ◌∙◌, subst, length, inl}
use Rattle.git_pkt.specs.declared.fault.Kind.TheVariants.{UnknownArgument}
use Rattle.git_msg.specs.declared.offers.Offer.{Offer}
use Rattle.git_msg.specs.declared.arguments.Command.{Command}
use Rattle.git_msg.specs.declared.arguments.Command.TheVariants.{LsRefs, Fetch, ObjectInfo}
use Rattle.git_msg.specs.Arguments.{Arg, ReadsAs, name_of}
use Rattle.git_msg.specs.Asked.{Asked}
use Rattle.git_msg.specs.Kept.{Kept}
use Rattle.git_msg.proofs.HeadWords.{none_named}
use Rattle.git_msg.proofs.ItemLaws.{items_or_bad, one_bad, one_list}
use Rattle.git_msg.proofs.Rows.{argument_or_fault, one_argument}
use Rattle.git_repository.specs.RepositoryLines.{lines_of}
use Rattle.git2show_lib.specs.Scripts.{ScriptLine, blank, command, argument, HasBadScriptLine, IsScript, MayFollow, requests_in}

one_command : (c d : Command) → name_of c ≡ name_of d → c ≡ d
one_command LsRefs LsRefs e = refl
one_command Fetch Fetch e = refl
one_command ObjectInfo ObjectInfo e = refl
one_command c d e = absurd (omega (arith, ap (λ (t : List ℕ). length t) e))

-- an empty text names no command
no_command : (c : Command) → name_of c ≡ [] → ⊥
no_command LsRefs e = cc
no_command Fetch e = cc
no_command ObjectInfo e = cc

-- and is no argument
no_argument : (c : Command) (offer : Offer) (arg : Arg) → ReadsAs c offer [] arg → ⊥
no_argument c offer arg h = argument_or_fault c offer [] arg UnknownArgument h (inl (inl (none_named c [] tt, refl)))

-- a text is one line at most after those before it
one_line : (offer : Offer) (limit : ℕ) (before : List ScriptLine) (text : List ℕ) (a b : ScriptLine) → MayFollow offer limit before text a
    → MayFollow offer limit before text b → a ≡ b
one_line offer limit before text blank blank h k = refl
one_line offer limit before text blank (command c) h k = absurd (no_command c (sym k.1 ∙ h))
one_line offer limit before text blank (argument arg) h k =
    absurd (no_argument k.of offer arg (rw h at k.reads))
one_line offer limit before text (command c) blank h k = absurd (no_command c (sym h.1 ∙ k))
one_line offer limit before text (command c) (command d) h k = ap command (one_command c d (sym h.1 ∙ k.1))
one_line offer limit before text (command c) (argument arg) h k = let none = h.0 in let some = k.is_open in absurd (cc)
one_line offer limit before text (argument arg) blank h k =
    absurd (no_argument h.of offer arg (rw k at h.reads))
one_line offer limit before text (argument arg) (command c) h k = let none = k.0 in let some = h.is_open in absurd (cc)
one_line offer limit before text (argument a) (argument b) h k =
    let first = h.is_open in
    let second = k.is_open in
    let same : h.of ≡ k.of = cc in
    let reads = subst (λ (c : Command). ReadsAs c offer text a) same h.reads in
    ap argument (one_argument k.of offer.format text a b reads.is_argument k.reads.is_argument)

pub one_script : (offer : Offer) (limit : ℕ) (text : List ℕ) (requests other : List (Kept Asked)) → IsScript offer limit text requests
    → IsScript offer limit text other → requests ≡ other
one_script offer limit text requests other h k =
    let same = one_list (MayFollow offer limit) (one_line offer limit) [] (lines_of text) h.lines k.lines h.follow k.follow in
    h.requests_are ∙ ap (requests_in offer.format limit) same ∙ sym k.requests_are

pub script_or_bad : (offer : Offer) (limit : ℕ) (text : List ℕ) (requests : List (Kept Asked)) (number : ℕ) → IsScript offer limit text requests
    → HasBadScriptLine offer limit (lines_of text) number → ⊥
script_or_bad offer limit text requests number h =
    items_or_bad (MayFollow offer limit) (one_line offer limit) 1 number (lines_of text) h.lines h.follow

pub one_bad_line : (offer : Offer) (limit : ℕ) (text : List ℕ) (number other : ℕ) → HasBadScriptLine offer limit (lines_of text) number
    → HasBadScriptLine offer limit (lines_of text) other → number ≡ other
one_bad_line offer limit text number other = one_bad (MayFollow offer limit) (one_line offer limit) 1 number other (lines_of text)
