-- The lines of wanted references: each has a line where there is such a reference, and is passed over where there is none.
use Rattle.std.proofs.Common.{◌≡◌, ℕ, ◌+◌, ◌<◌, Some, None, List, [], ◌∷◌, ◌++◌, drop, length, slice_get, refl, sym, ap, ◌∙◌, subst}
use Rattle.std.specs.List.{filter_map}
use Rattle.std.proofs.lemmas.Option.{slice_get_within}
use Rattle.git_names.specs.ObjectName.{ObjectName, hex_of}
use Rattle.git_names.specs.RefName.{IsRefName}
use Rattle.git_pkt.specs.Packets.{Pkt}
use Rattle.git_msg.specs.WrittenRequest.{text_line}
use Rattle.git_server.specs.Repository.{Entry, IsFound, IsSound, Repository}
use Rattle.git_server.specs.FetchAnswers.{wanted_packet}
use Rattle.git_server.proofs.Dropped.{dropped, none_dropped}
use Rattle.git_server.proofs.FoundReference.{found_is}

-- a name under which there is something is a reference name
pub found_named : (repo : Repository) (name : List ℕ) (id : ObjectName) → IsSound repo → IsFound repo.refs name (Some id) → IsRefName name
found_named repo name id sound (k, ref, within, at, same) =
    subst IsRefName same.0 (subst (λ (r : Entry). IsRefName r.name) at (sound.named k ref within).by_name)

-- the lines from the name at a place on
abbrev pub lines_from : Repository → List (List ℕ) → ℕ → List Pkt
lines_from repo names at = filter_map (wanted_packet repo) (drop at names)

-- after the last of the names there are none
pub no_more_lines : (repo : Repository) (names : List (List ℕ)) (at : ℕ) → None ≡ slice_get names at → lines_from repo names at ≡ []
no_more_lines repo names at none = ap (filter_map (wanted_packet repo)) (none_dropped names at (sym none))

module _ (repo : Repository) (sound : IsSound repo) (names : List (List ℕ)) (at : ℕ) (name : List ℕ) (here : Some name ≡ slice_get names at) where
  pub within_names : at < length names
  within_names = slice_get_within names at name (sym here)

  lines_here : lines_from repo names at ≡ filter_map (wanted_packet repo) (name ∷ drop (at + 1) names)
  lines_here = ap (filter_map (wanted_packet repo)) (dropped names at name (sym here))

  pub passed_over : IsFound repo.refs name None → lines_from repo names (at + 1) ≡ lines_from repo names at
  passed_over is =
      let absent = found_is repo.refs name None sound.rising is in
      let none : filter_map (wanted_packet repo) (name ∷ drop (at + 1) names) ≡ lines_from repo names (at + 1) = rw absent refl in
      sym (lines_here ∙ none)

  pub announced : (id : ObjectName) → IsFound repo.refs name (Some id)
      → lines_from repo names at ≡ text_line (hex_of id ++ 32 ∷ name) ∷ lines_from repo names (at + 1)
  announced id is =
      let there = found_is repo.refs name (Some id) sound.rising is in
      let one : filter_map (wanted_packet repo) (name ∷ drop (at + 1) names) ≡ text_line (hex_of id ++ 32 ∷ name) ∷ lines_from repo names (at + 1) =
      rw there refl in
      lines_here ∙ one
