-- Arguments that are added to a request one after the other.
use Rattle.std.proofs.Common.{arith, ◌≡◌, ℕ, ◌+◌, List, [], ◌∷◌, ap, ◌∙◌, fold, length, rules}
use Rattle.std.specs.Prelude.{sum_by}
use Rattle.std.proofs.lemmas.List.Sums.{sum_by-cons}
use Rattle.git_names.specs.declared.object_format.Format.{Format}
use Rattle.git_msg.specs.declared.arguments.Command.{Command}
use Rattle.git_msg.specs.declared.requests.Request.{Request}
use Rattle.git_msg.specs.Arguments.{Arg, stored_in, written_text}
use Rattle.git_msg.specs.Asked.{Asked, asked_by, with_argument}
use Rattle.git_msg.specs.Machine.HeldRequest.{asked_of, kept_of, stored_of, IsEmpty, AddsAll}
use Rattle.git_msg.proofs.ArgumentsInOrder.{asked_in_turn}

module _ {A : Type 0} where
  all_asked : (args : List Arg) (old new : Request A) → AddsAll old args new → asked_of new ≡ fold with_argument (asked_of old) args
  all_asked [] old new same = ap asked_of same
  all_asked (arg ∷ args) old new (next, keeps, rest) = all_asked args next new rest ∙ ap (λ (a : Asked). fold with_argument a args) keeps.asked

  all_kept : (args : List Arg) (old new : Request A) → AddsAll old args new → kept_of new ≡ kept_of old + sum_by (λ arg. length (written_text arg)) args
  all_kept [] old new same = omega (arith, ap kept_of same)
  all_kept (arg ∷ args) old new (next, keeps, rest) =
      omega (arith, keeps.kept, all_kept args next new rest, sum_by-cons (λ arg. length (written_text arg)) arg args)

  all_stored : (args : List Arg) (old new : Request A) → AddsAll old args new → stored_of new ≡ stored_of old + sum_by stored_in args
  all_stored [] old new same = omega (arith, ap stored_of same)
  all_stored (arg ∷ args) old new (next, keeps, rest) = omega (arith, keeps.stored, all_stored args next new rest, sum_by-cons stored_in arg args)

  -- what a request asks for after these arguments were added to an empty one
  pub added_asked : (command : Command) (format : Format) (limit : ℕ) (args : List Arg) (empty request : Request A) → IsEmpty command format limit empty
      → AddsAll empty args request → asked_of request ≡ asked_by command args
  added_asked command format limit args empty request h adds = search (rules, all_asked, asked_in_turn)

  -- how many bytes it counts
  pub added_kept : (command : Command) (format : Format) (limit : ℕ) (args : List Arg) (empty request : Request A) → IsEmpty command format limit empty
      → AddsAll empty args request → kept_of request ≡ sum_by (λ arg. length (written_text arg)) args
  added_kept command format limit args empty request h adds = omega (arith, h.kept, all_kept args empty request adds)

  -- how many bytes it stores
  pub added_stored : (command : Command) (format : Format) (limit : ℕ) (args : List Arg) (empty request : Request A) → IsEmpty command format limit empty
      → AddsAll empty args request → stored_of request ≡ sum_by stored_in args
  added_stored command format limit args empty request h adds = omega (arith, h.stored, all_stored args empty request adds)
