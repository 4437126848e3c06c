-- The lines of the shallow boundary that are sent for a request, and how many objects are enough.
use Rattle.std.proofs.Common.{◌≡◌, ℕ, ◌<◌, ◌==◌, Bool, true, false, List, [], length, take, refl, ◌∙◌, arith, if◌then◌else◌}
use Rattle.std.specs.Prelude.{nat_le}
use Rattle.std.proofs.lemmas.Bool.Decides.{nat_tests}
use Rattle.std.proofs.lemmas.List.{length-take}
use Rattle.git_names.specs.ObjectName.{ObjectName}
use Rattle.git_msg.specs.declared.Boundary.{Boundary}
use Rattle.git_msg.specs.Asked.{shallows_in}
use Rattle.git_server.specs.AnnouncedBoundary.{boundary_for, is_deepened, announced_lines}
use Rattle.git_msg.specs.Arguments.{Arg}

chosen : (deepened : Bool) (lines : List Boundary) → deepened ≡ true → (if deepened then lines else []) ≡ lines
chosen true lines is = refl
chosen false lines is = cc

-- where the request cuts the history off, the lines are sent
pub announced_for : (lines boundary : List Boundary) (q : List Arg) (shallows : List ObjectName)
    → is_deepened q ≡ true → lines ≡ boundary → shallows ≡ shallows_in q → boundary_for boundary q ≡ announced_lines lines shallows
announced_for lines boundary q shallows is same also = chosen (is_deepened q) (announced_lines boundary (shallows_in q)) is ∙ cc

some_chosen : (deepened : Bool) (lines : List Boundary) (i : ℕ) → i < length (if deepened then lines else []) → deepened ≡ true
some_chosen true lines i within = refl
some_chosen false lines i within = absurd (omega arith)

-- where there is a line at a place, it is one of those that are sent
pub announced_where_some : (lines boundary : List Boundary) (q : List Arg) (shallows : List ObjectName) (i : ℕ)
    → lines ≡ boundary → shallows ≡ shallows_in q → i < length (boundary_for boundary q) → boundary_for boundary q ≡ announced_lines lines shallows
announced_where_some lines boundary q shallows i same also within =
    announced_for lines boundary q shallows (some_chosen (is_deepened q) (announced_lines boundary (shallows_in q)) i within) same also

-- there are enough where those that were looked at are as many
pub enough : {X : Type 0} (xs : List X) (least count : ℕ) → count ≡ length (take least xs) → (count == least) ≡ nat_le least (length xs)
enough xs least count all = let some = length-take least xs in grind (arith, nat_tests)
