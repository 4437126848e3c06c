-- A property of every line of a boundary holds of the lines that are sent, and a commit that is no longer shallow is one of the client's.
use Rattle.std.proofs.Common.{◌≡◌, Bool, true, false, List, [], All, filter, if◌then◌else◌}
use Rattle.std.specs.Ordering.{is_eq}
use Rattle.std.proofs.lemmas.List.Elements.{All-append, All-filter, All-nil, All-weaker, filter_passes}
use Rattle.std.proofs.lemmas.List.Folds.{Any-from_list_any}
use Rattle.git_names.specs.ObjectName.{ObjectName}
use Rattle.git_msg.specs.declared.Boundary.{Boundary}
use Rattle.git_msg.specs.declared.Boundary.TheVariants.{Shallow, Unshallow}
use Rattle.git_msg.specs.Asked.{shallows_in}
use Rattle.git_server.specs.Objects.{object_cmp}
use Rattle.git_server.specs.Repository.{IsUnshallowOf}
use Rattle.git_server.specs.SameObjects.{is_tied, same_object}
use Rattle.git_server.specs.AnnouncedBoundary.{boundary_for, is_deepened, is_shallow_line, is_unshallow_line, announced_lines}
use Rattle.git_msg.specs.Arguments.{Arg}

where_deepened : (P : Boundary → Type 0) (deepened : Bool) (lines : List Boundary) → All P lines → All P (if deepened then lines else [])
where_deepened P true lines all = all
where_deepened P false lines all = All-nil P

-- a property of every line of the boundary holds of each line that is sent
pub announced_keep : (P : Boundary → Type 0) (lines : List Boundary) (q : List Arg) → All P lines → All P (boundary_for lines q)
announced_keep P lines q all =
    where_deepened P (is_deepened q) (announced_lines lines (shallows_in q))
    (All-append P (filter is_shallow_line lines) (filter (is_unshallow_line (shallows_in q)) lines)
    (All-filter is_shallow_line P lines all) (All-filter (is_unshallow_line (shallows_in q)) P lines all))

shallow_means : (shallows : List ObjectName) (line : Boundary) → is_shallow_line line ≡ true → IsUnshallowOf shallows line
shallow_means shallows (Shallow id) conveys = tt
shallow_means shallows (Unshallow id) conveys = absurd (cc)

unshallow_means : (shallows : List ObjectName) (line : Boundary) → is_unshallow_line shallows line ≡ true → IsUnshallowOf shallows line
unshallow_means shallows (Shallow id) conveys = tt
unshallow_means shallows (Unshallow id) conveys =
    let at = Any-from_list_any (λ (shallow : ObjectName). is_eq (object_cmp shallow id)) shallows conveys in
    (at.0, at.1, at.2, at.3, same_object _ _ (is_tied _ at.4))

-- a commit that is sent as no longer shallow is one that the request called shallow
pub announced_unshallow : (lines : List Boundary) (q : List Arg) → All (IsUnshallowOf (shallows_in q)) (boundary_for lines q)
announced_unshallow lines q =
    let shallow = filter is_shallow_line lines in
    let unshallow = filter (is_unshallow_line (shallows_in q)) lines in
    where_deepened (IsUnshallowOf (shallows_in q)) (is_deepened q) (announced_lines lines (shallows_in q))
    (All-append (IsUnshallowOf (shallows_in q)) shallow unshallow
    (All-weaker (λ line. is_shallow_line line ≡ true) (IsUnshallowOf (shallows_in q)) (shallow_means (shallows_in q)) shallow
    (filter_passes is_shallow_line lines))
    (All-weaker (λ line. is_unshallow_line (shallows_in q) line ≡ true) (IsUnshallowOf (shallows_in q)) (unshallow_means (shallows_in q)) unshallow
    (filter_passes (is_unshallow_line (shallows_in q)) lines)))
