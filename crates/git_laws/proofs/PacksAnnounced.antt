-- The packs in the answers.
use Rattle.std.proofs.Common.{◌≡◌, ℕ, Bool, true, false, not, ◌||◌, cond, flat_map, map, List, [], ◌∷◌, ◌++◌, Option, Some, None}
use Rattle.std.proofs.Common.{codes, refl, ap, ◌∙◌}
use Rattle.std.proofs.lemmas.Bool.{cond_both}
use Rattle.std.proofs.lemmas.List.{append-nil}
use Rattle.git_names.specs.ObjectName.{ObjectName}
use Rattle.git_msg.specs.declared.Boundary.{Boundary}
use Rattle.git_msg.specs.declared.Boundary.TheVariants.{Shallow, Unshallow}
use Rattle.git_msg.specs.Asked.{Asked, fetch, ls_refs, object_info, haves_in, oids_in, ref_prefixes_in, want_refs_in, peel_in, symrefs_in}
use Rattle.git_msg.specs.References.{reference_of}
use Rattle.git_client.specs.Events.{EventValue, ack, ended, info, pack, pack_bytes, reference, wanted_ref}
use Rattle.git_client.proofs.Packs.{pack_bytes-append}
use Rattle.git_server.specs.Answers.{asks_for_unborn, shown_line, shown_refs}
use Rattle.git_server.specs.FetchAnswers.{common, is_ready_for, negotiates}
use Rattle.git_server.specs.Repository.{Entry, Repository}
use Rattle.git_laws.specs.AnnouncedAnswers.{answered_pack, found_refs, announced_all, announced_boundaries, announced_boundary, announced_by}
use Rattle.git_laws.specs.AnnouncedAnswers.{announced_common, announced_fetch, announced_pack, announced_packfile, announced_ready}
use Rattle.git_laws.specs.AnnouncedAnswers.{announced_unborn, announced_wanted}
use Rattle.git_msg.specs.Arguments.{Arg}

-- events that have no byte of the pack
no_pack : {X : Type 0} (event : X → EventValue) → ((x : X) (later : List EventValue) → pack_bytes (event x ∷ later) ≡ pack_bytes later) → (xs : List X)
    → pack_bytes (map event xs) ≡ []
no_pack event none [] = refl
no_pack event none (x ∷ xs) = none x (map event xs) ∙ no_pack event none xs

-- the bytes of a pack
pack_is : (bytes : List ℕ) → pack_bytes (map pack bytes) ≡ bytes
pack_is [] = refl
pack_is (byte ∷ bytes) = ap (λ (l : List ℕ). byte ∷ l) (pack_is bytes)

no_boundary : (line : Boundary) (later : List EventValue) → pack_bytes (announced_boundary line ∷ later) ≡ pack_bytes later
no_boundary (Shallow id) later = refl
no_boundary (Unshallow id) later = refl

boundaries_packs : (lines : List Boundary) → pack_bytes (announced_boundaries lines) ≡ []
boundaries_packs [] = refl
boundaries_packs (line ∷ lines) = no_pack announced_boundary no_boundary (line ∷ lines)

no_unborn_pack : (q : List Arg) (head : Option (List ℕ)) → pack_bytes (announced_unborn q head) ≡ []
no_unborn_pack q None = refl
no_unborn_pack q (Some target) =
    cond_both (asks_for_unborn q) (reference (reference_of None (codes "HEAD") (Some target) None) ∷ []) [] (λ (l : List EventValue). pack_bytes l ≡ [])
    (λ _. refl) (λ _. refl)

common_packs : (ids : List ObjectName) → pack_bytes (announced_common ids) ≡ []
common_packs [] = refl
common_packs (id ∷ ids) = no_pack ack (λ x later. refl) (id ∷ ids)

-- the pack after events without a pack
after_none : (events later : List EventValue) (bytes : List ℕ) → pack_bytes events ≡ [] → pack_bytes later ≡ bytes → pack_bytes (events ++ later) ≡ bytes
after_none events later bytes none is = pack_bytes-append events later ∙ rw none is

module _ (repo : Repository) where
  wanted_packs : (names : List (List ℕ)) → pack_bytes (announced_wanted repo names) ≡ []
  wanted_packs [] = refl
  wanted_packs (name ∷ names) = no_pack wanted_ref (λ x later. refl) (found_refs repo (name ∷ names))

  packfile_packs : (q : List Arg) → pack_bytes (announced_pack repo q) ≡ repo.pack q
  packfile_packs q =
      let boundary = announced_boundaries (repo.boundaries q) in
      let wanted = announced_wanted repo (want_refs_in q) in
      after_none (boundary ++ wanted) (announced_packfile (repo.pack q)) (repo.pack q)
      (after_none boundary wanted [] (boundaries_packs (repo.boundaries q)) (wanted_packs (want_refs_in q))) (pack_is (repo.pack q))

  ready_packs : (is_ready : Bool) (q : List Arg) → pack_bytes (announced_ready is_ready repo q) ≡ cond is_ready (repo.pack q) []
  ready_packs true q = packfile_packs q
  ready_packs false q = refl

  fetch_packs : (is_negotiated : Bool) (q : List Arg)
      → pack_bytes (announced_fetch is_negotiated repo q) ≡ cond (not is_negotiated || is_ready_for repo q) (repo.pack q) []
  fetch_packs true q =
      after_none (announced_common (common repo.has (haves_in q))) (announced_ready (is_ready_for repo q) repo q) (cond (is_ready_for repo q) (repo.pack q) [])
      (common_packs (common repo.has (haves_in q))) (ready_packs (is_ready_for repo q) q)
  fetch_packs false q = packfile_packs q

  -- the pack of one answer
  one_pack : (q : Asked) → pack_bytes (announced_by repo q) ≡ answered_pack repo q
  one_pack (ls_refs q) =
      let shown = map (λ (entry : Entry). reference (shown_line (symrefs_in q) (peel_in q) entry)) (shown_refs (ref_prefixes_in q) repo.refs) in
      after_none (announced_unborn q repo.unborn_head) shown [] (no_unborn_pack q repo.unborn_head)
      (no_pack (λ entry. reference (shown_line (symrefs_in q) (peel_in q) entry)) (λ x later. refl) (shown_refs (ref_prefixes_in q) repo.refs))
  one_pack (fetch q) = fetch_packs (negotiates q) q
  one_pack (object_info q) = no_pack (λ id. info (record { id = id; size = repo.object_size id })) (λ x later. refl) (oids_in q)

  after_pack : (q : Asked) → pack_bytes (announced_by repo q ++ ended ∷ []) ≡ answered_pack repo q
  after_pack q = pack_bytes-append (announced_by repo q) (ended ∷ []) ∙ append-nil (pack_bytes (announced_by repo q)) ∙ one_pack q

  -- the packs of all answers, one after the other
  pub all_packs : (asked : List Asked) → pack_bytes (announced_all repo asked) ≡ flat_map (answered_pack repo) asked
  all_packs [] = refl
  all_packs (q ∷ asked) =
      pack_bytes-append (announced_by repo q ++ ended ∷ []) (announced_all repo asked) ∙ rw (after_pack q, all_packs asked) refl
