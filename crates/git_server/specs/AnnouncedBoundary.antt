-- The shallow boundary that a repository of a few lists sends, and when it is ready to send a pack.
use Rattle.std.specs.Prelude.{ℕ, Bool, true, false, not, ◌||◌, Option, Some, None, List, [], ◌++◌, filter, is_some, nat_le, if◌then◌else◌}
use Rattle.std.specs.List.{list_any}
use Rattle.std.specs.Ordering.{is_eq}
use Rattle.git_names.specs.ObjectName.{ObjectName}
use Rattle.git_msg.specs.declared.Boundary.{Boundary}
use Rattle.git_msg.specs.declared.Boundary.TheVariants.{Shallow, Unshallow}
use Rattle.git_msg.specs.Asked.{is_empty, deepen_in, deepen_nots_in, deepen_since_in, shallows_in}
use Rattle.git_server.specs.Objects.{object_cmp}
use Rattle.git_msg.specs.Arguments.{Arg}

-- whether this number of common objects is enough to send a pack
abbrev pub is_enough : Option ℕ → ℕ → Bool
is_enough None count = false
is_enough (Some least) count = nat_le least count

-- whether the request cuts the history off
abbrev pub is_deepened : List Arg → Bool
is_deepened q = is_some (deepen_in q) || (is_some (deepen_since_in q) || not (is_empty (deepen_nots_in q)))

-- whether this is a `shallow` line
abbrev pub is_shallow_line : Boundary → Bool
is_shallow_line (Shallow id) = true
is_shallow_line (Unshallow id) = false

-- whether this is the `unshallow` line of one of these commits
abbrev pub is_unshallow_line : List ObjectName → Boundary → Bool
is_unshallow_line shallows (Shallow id) = false
is_unshallow_line shallows (Unshallow id) = list_any (λ shallow. is_eq (object_cmp shallow id)) shallows

-- the lines for a client that has these commits without their parents: the shallow commits in their order, and then
-- those of its own that are no longer shallow
abbrev pub announced_lines : List Boundary → List ObjectName → List Boundary
announced_lines lines shallows = filter is_shallow_line lines ++ filter (is_unshallow_line shallows) lines

-- the shallow boundary for a request, which is there if the request cuts the history off
abbrev pub boundary_for : List Boundary → List Arg → List Boundary
boundary_for lines q = if is_deepened q then announced_lines lines (shallows_in q) else []
