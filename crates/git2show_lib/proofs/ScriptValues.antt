-- Each request of a script has values that are allowed in it.
use Rattle.std.proofs.Common.{◌≡◌, ℕ, List, [], ◌∷◌, ◌++◌, Some, ◌∙◌, All, reverse}
use Rattle.std.proofs.lemmas.List.Elements.{All-cons, All-nil}
use Rattle.git_msg.specs.declared.offers.Offer.{Offer}
use Rattle.git_msg.specs.declared.arguments.Command.{Command}
use Rattle.git_msg.specs.Arguments.{IsValue}
use Rattle.git_msg.specs.Asked.{Asked, HasValues}
use Rattle.git_msg.specs.ItemsInOrder.{AreItems}
use Rattle.git_msg.specs.Kept.{Kept}
use Rattle.git_msg.proofs.AskedValues.{asked_has_values, conveys_value}
use Rattle.git_repository.specs.RepositoryLines.{lines_of}
use Rattle.git2show_lib.specs.Scripts.{ScriptLine, blank, command, argument, IsArgumentAfter, IsScript, MayFollow, arguments_upto, open_after, requests_in}
use Rattle.git2show_lib.proofs.ScriptLists.{open_more}

module _ (offer : Offer) (limit : ℕ) where
  abbrev Has : Kept Asked → Type 0
  Has q = HasValues q.format q.asked

  -- the arguments of the request that is open are allowed in it
  values_upto : (c : Command) (before : List ScriptLine) (texts : List (List ℕ)) (lines : List ScriptLine)
      → AreItems (MayFollow offer limit) before texts lines → open_after (reverse before) ≡ Some c → All (IsValue c offer.format) (arguments_upto lines)
  values_upto c before [] [] h is = All-nil (IsValue c offer.format)
  values_upto c before (text ∷ texts) [] h is = All-nil (IsValue c offer.format)
  values_upto c before [] (line ∷ lines) h is = absurd h
  values_upto c before (text ∷ texts) (blank ∷ lines) h is = All-nil (IsValue c offer.format)
  values_upto c before (text ∷ texts) (command d ∷ lines) h is = All-nil (IsValue c offer.format)
  values_upto c before (text ∷ texts) (argument arg ∷ lines) h is =
      let after : IsArgumentAfter offer limit before text arg = h.0 in
      let is_open = after.is_open in
      let same : after.of ≡ c = cc in
      All-cons (IsValue c offer.format) arg (arguments_upto lines) (rw same at (conveys_value after.of offer.format text arg after.reads.is_argument))
      (values_upto c (before ++ argument arg ∷ []) texts lines h.1 (open_more before (argument arg) ∙ is))

  requests_have : (before : List ScriptLine) (texts : List (List ℕ)) (lines : List ScriptLine) → AreItems (MayFollow offer limit) before texts lines
      → All Has (requests_in offer.format limit lines)
  requests_have before [] [] h = All-nil Has
  requests_have before (text ∷ texts) [] h = All-nil Has
  requests_have before [] (line ∷ lines) h = absurd h
  requests_have before (text ∷ texts) (blank ∷ lines) h = requests_have (before ++ blank ∷ []) texts lines h.1
  requests_have before (text ∷ texts) (command c ∷ lines) h =
      All-cons Has _ (requests_in offer.format limit lines)
      (asked_has_values c offer.format (arguments_upto lines) (values_upto c (before ++ command c ∷ []) texts lines h.1 (open_more before (command c))))
      (requests_have (before ++ command c ∷ []) texts lines h.1)
  requests_have before (text ∷ texts) (argument arg ∷ lines) h = requests_have (before ++ argument arg ∷ []) texts lines h.1

pub script_values : (offer : Offer) (limit : ℕ) (text : List ℕ) (requests : List (Kept Asked)) → IsScript offer limit text requests
    → All (λ q. HasValues q.format q.asked) requests
script_values offer limit text requests h =
    rw h.requests_are (requests_have offer limit [] (lines_of text) h.lines h.follow)
