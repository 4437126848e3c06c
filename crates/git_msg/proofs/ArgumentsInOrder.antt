-- What arguments ask for together is what each adds in turn; and those of a request, in their order, ask for exactly what it asks for.
use Rattle.std.proofs.Common.{◌≡◌, List, [], ◌∷◌, ◌++◌, fold, refl, sym, ap, ◌∙◌, append_assoc, append-nil}
use Rattle.git_msg.specs.declared.arguments.Command.{Command}
use Rattle.git_msg.specs.declared.arguments.Command.TheVariants.{LsRefs}
use Rattle.git_msg.specs.Arguments.{Arg}
use Rattle.git_msg.specs.Asked.{Asked, ls_refs, fetch, object_info, AreInOrder, arguments_in, asked_by, asked_for, command_asked, nothing_asked, with_argument}
use Rattle.git_msg.proofs.WrittenArguments.{one_behind, written_again}

pub same_command : (asked : Asked) (arg : Arg) → command_asked (with_argument asked arg) ≡ command_asked asked
same_command (ls_refs q) arg = refl
same_command asked arg = refl

pub command_for : (c : Command) (args : List Arg) → command_asked (asked_for c args) ≡ c
command_for LsRefs args = refl
command_for c args = refl

pub asked_snoc : (c : Command) (args : List Arg) (arg : Arg) → asked_by c (args ++ arg ∷ []) ≡ with_argument (asked_by c args) arg
asked_snoc LsRefs args arg = ap ls_refs (one_behind args arg)
asked_snoc c args arg = ap (asked_for c) (one_behind args arg)

turn_by_turn : (c : Command) (before args : List Arg) → fold with_argument (asked_by c before) args ≡ asked_by c (before ++ args)
turn_by_turn c before [] = ap (asked_by c) (sym (append-nil before))
turn_by_turn c before (arg ∷ args) =
    ap (λ (a : Asked). fold with_argument a args) (sym (asked_snoc c before arg))
    ∙ turn_by_turn c (before ++ arg ∷ []) args
    ∙ ap (asked_by c) (append_assoc before (arg ∷ []) args)

-- what arguments ask for together is what each adds in turn
pub asked_in_turn : (c : Command) (args : List Arg) → fold with_argument (nothing_asked c) args ≡ asked_by c args
asked_in_turn c args = turn_by_turn c [] args

-- the arguments of a request ask for it
pub asks_for_it : (asked : Asked) → AreInOrder (arguments_in asked) → asked_by (command_asked asked) (arguments_in asked) ≡ asked
asks_for_it (ls_refs q) h = ap ls_refs (sym h)
asks_for_it (fetch q) h = ap fetch (sym h)
asks_for_it (object_info q) h = ap object_info (sym h)

pub arguments_in_order : (c : Command) (args : List Arg) → asked_by c (arguments_in (asked_by c args)) ≡ asked_by c args
arguments_in_order LsRefs args = ap ls_refs (sym (written_again args))
arguments_in_order c args = ap (asked_for c) (sym (written_again args))
