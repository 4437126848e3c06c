-- What one more line adds to what the lines before it contain.
use Rattle.std.proofs.Common.{arith, ◌≡◌, ℕ, ◌≤◌, Bool, true, false, Option, Some, None, List, [], ◌∷◌, ◌++◌, refl, ap, sym, ◌∙◌, subst, append_assoc}
use Rattle.std.proofs.Common.{length, map, codes}
use Rattle.std.specs.List.{cons_option, filter_map}
use Rattle.std.specs.Option.{IfSome, is_some}
use Rattle.std.specs.Prelude.{All, if◌then◌else◌}
use Rattle.std.proofs.lemmas.List.{append-nil, map-append}
use Rattle.std.proofs.lemmas.List.Elements.{All-push, filter_map-append}
use Rattle.git_names.specs.ObjectName.{ObjectName}
use Rattle.git_server.specs.Repository.{Entry, IsNamed, IsOfFormat, comes_before}
use Rattle.git_server.specs.Objects.{AreRising, object_of, precedes}
use Rattle.git_server.specs.Lists.{AreOfFormat, Lists}
use Rattle.git_repository.specs.Packs.{no_packs}
use Rattle.git_repository.specs.RepositoryLines.{LineContent, reference, unborn, object, ready, boundary}
use Rattle.git_repository.specs.RepositoryText.{MayStand, NamesRise, counts_in, first_of, lists_of_contents, names_in, objects_in, unborn_in}
use Rattle.git_repository.specs.RepositoryText.{count_in, name_in, object_in}
use Rattle.git_repository.specs.Drafts.{ComesLast, ComesLastObject, Holds, IsFit, MayFollow, head_names, names_of, with_content}
use Rattle.git_repository.proofs.LastNames.{head_comes_alone, no_refs_there}
use Rattle.git_server.proofs.Rising.{last_rises, rising_more}

-- what holds of a part of what lines contain, with one more: what held, or what holds with what that line contains of it
module _ {X : Type 0} (P : List X → Type 0) (Q : X → Type 0) (part : LineContent → Option X) (content : List LineContent) (next : LineContent) where
  more : P (filter_map part content) → IfSome (part next) Q → ((x : X) → Q x → P (filter_map part content ++ x ∷ []))
      → P (filter_map part (content ++ next ∷ []))
  more h q one = rw (filter_map-append part content (next ∷ [])) (by_part (part next) q)
    where
      by_part : (o : Option X) → IfSome o Q → P (filter_map part content ++ cons_option o [])
      by_part None q = rw (append-nil (filter_map part content)) h
      by_part (Some x) q = one x q

  last_of : P (filter_map part (content ++ next ∷ [])) → ((x : X) → P (filter_map part content ++ x ∷ []) → Q x) → IfSome (part next) Q
  last_of h one = by_part (part next) (rw (filter_map-append part content (next ∷ [])) at h)
    where
      by_part : (o : Option X) → P (filter_map part content ++ cons_option o []) → IfSome o Q
      by_part None h = tt
      by_part (Some x) h = one x h

first_is_none : {X : Type 0} (xs : List X) → first_of xs ≡ None → xs ≡ []
first_is_none [] e = refl
first_is_none (x ∷ xs) e = absurd (cc)

only_count : (counts : List ℕ) (count : ℕ) → counts ≡ [] → length (counts ++ count ∷ []) ≤ 1
only_count [] count e = omega arith
only_count (x ∷ xs) count e = absurd (cc)

none_before : (counts : List ℕ) (count : ℕ) → length (counts ++ count ∷ []) ≤ 1 → first_of counts ≡ None
none_before [] count h = refl
none_before (x ∷ []) count h = absurd (omega (arith, h))
none_before (x ∷ y ∷ xs) count h = absurd (omega (arith, h))

no_head_there : (head : Option (List ℕ)) (names : List (List ℕ)) → head_names (is_some head) ++ names ≡ [] → head ≡ None
no_head_there None names e = refl
no_head_there (Some target) names e = absurd (cc)

module _ (content : List LineContent) (old : Lists) (h : Holds content old) where
  no_counts : old.ready_after ≡ None → counts_in content ≡ []
  no_counts none = first_is_none (counts_in content) (sym (ap (λ (l : Lists). l.ready_after) h.lists_are) ∙ none)

  objects_stated : old.objects ≡ objects_in content
  objects_stated = ap (λ (l : Lists). l.objects) h.lists_are

  -- `HEAD` comes last where there is no name
  alone : ComesLast (names_of old) (codes "HEAD") → names_of old ≡ []
  alone = head_comes_alone old.unborn_head old.refs h.named

  no_heads : ComesLast (names_of old) (codes "HEAD") → unborn_in content ≡ []
  no_heads last = first_is_none (unborn_in content)
      (sym (ap (λ (l : Lists). l.unborn_head) h.lists_are) ∙ no_head_there old.unborn_head (map (λ (e : Entry). e.name) old.refs) (alone last))

  -- a line that may follow them may be in one text with them
  pub stands_more : (next : LineContent) → MayFollow old next → MayStand (content ++ next ∷ [])
  stands_more next last = record {
    rising_names = more NamesRise (ComesLast (names_of old)) name_in content next h.may_stand.rising_names last.name_last
        (λ name behind. rising_more (λ a b. comes_before a b ≡ true) (names_in content) name h.may_stand.rising_names
        (subst (λ (xs : List (List ℕ)). ComesLast xs name) (sym h.names_are) behind));
    rising_objects = more AreRising (λ sized. ComesLastObject old.objects sized.0) object_in content next h.may_stand.rising_objects last.object_last
        (λ sized behind. rising_more (λ a b. precedes a.0 b.0 ≡ true) (objects_in content) sized h.may_stand.rising_objects
        (subst (λ (xs : List (ObjectName × ℕ)). ComesLastObject xs sized.0) objects_stated behind));
    one_count = more (λ xs. length xs ≤ 1) (λ _. old.ready_after ≡ None) count_in content next h.may_stand.one_count last.first_count
        (λ count none. only_count (counts_in content) count (no_counts none));
  }

  -- and one that may be in one text with them may follow them
  pub follows : (next : LineContent) → MayStand (content ++ next ∷ []) → MayFollow old next
  follows next may = record {
    name_last = last_of NamesRise (ComesLast (names_of old)) name_in content next may.rising_names
        (λ name rises. subst (λ (xs : List (List ℕ)). ComesLast xs name) h.names_are
        (last_rises (λ a b. comes_before a b ≡ true) (names_in content) name rises));
    object_last = last_of AreRising (λ sized. ComesLastObject old.objects sized.0) object_in content next may.rising_objects
        (λ sized rises. subst (λ (xs : List (ObjectName × ℕ)). ComesLastObject xs sized.0) (sym objects_stated)
        (last_rises (λ a b. precedes a.0 b.0 ≡ true) (objects_in content) sized rises));
    first_count = last_of (λ xs. length xs ≤ 1) (λ _. old.ready_after ≡ None) count_in content next may.one_count
        (λ count one. ap (λ (l : Lists). l.ready_after) h.lists_are ∙ none_before (counts_in content) count one);
  }

  names_with : (next : LineContent) → MayFollow old next → names_in content ++ names_in (next ∷ []) ≡ names_of (with_content old next)
  names_with (reference entry) last =
      ap (λ (xs : List (List ℕ)). xs ++ entry.name ∷ []) h.names_are
      ∙ append_assoc (head_names (is_some old.unborn_head)) (map (λ (e : Entry). e.name) old.refs) (entry.name ∷ [])
      ∙ ap (λ (xs : List (List ℕ)). head_names (is_some old.unborn_head) ++ xs) (sym (map-append (λ (e : Entry). e.name) old.refs (entry ∷ [])))
  names_with (unborn target) last =
      ap (λ (xs : List (List ℕ)). xs ++ codes "HEAD" ∷ []) (h.names_are ∙ alone last.name_last)
      ∙ ap (λ (refs : List Entry). codes "HEAD" ∷ map (λ (e : Entry). e.name) refs)
      (sym (no_refs_there (head_names (is_some old.unborn_head)) old.refs (alone last.name_last)))
  names_with (object id size) last = append-nil (names_in content) ∙ h.names_are
  names_with (ready count) last = append-nil (names_in content) ∙ h.names_are
  names_with (boundary line) last = append-nil (names_in content) ∙ h.names_are

  stated_with : (next : LineContent) → MayFollow old next
      → with_content (lists_of_contents old.format content no_packs) next ≡ lists_of_contents old.format (content ++ next ∷ []) no_packs
  stated_with (reference entry) last = simp (filter_map-append, append-nil)
  stated_with (unborn target) last = let none = no_heads last.name_last in simp (filter_map-append, append-nil, none)
  stated_with (object id size) last = simp (filter_map-append, append-nil)
  stated_with (ready count) last = let none = no_counts last.first_count in simp (filter_map-append, append-nil, none)
  stated_with (boundary line) last = simp (filter_map-append, append-nil)

  pub same_format : (next : LineContent) → (with_content old next).format ≡ old.format
  same_format (reference entry) = refl
  same_format (unborn target) = refl
  same_format (object id size) = refl
  same_format (ready count) = refl
  same_format (boundary line) = refl

  -- so they hold with it
  holds_with : (next : LineContent) → MayFollow old next → All (λ ref. IsNamed ref.name ref.target) (with_content old next).refs
      → AreOfFormat (with_content old next) → Holds (content ++ next ∷ []) (with_content old next)
  holds_with next last named of_format = record {
    lists_are = rw (same_format next) (ap (λ (l : Lists). with_content l next) h.lists_are ∙ stated_with next last);
    names_are = filter_map-append name_in content (next ∷ []) ∙ names_with next last;
    may_stand = stands_more next last;
    named = named;
    of_format = of_format;
  }

  pub holds_more : (next : LineContent) → IsFit old.format next → MayFollow old next → Holds (content ++ next ∷ []) (with_content old next)
  holds_more (reference entry) fit last =
      holds_with (reference entry) last (All-push (λ ref. IsNamed ref.name ref.target) old.refs entry h.named fit.1) (record {
        by_refs = All-push (IsOfFormat old.format) old.refs entry h.of_format.by_refs fit.0;
        by_objects = h.of_format.by_objects;
        by_boundaries = h.of_format.by_boundaries;
      })
  holds_more (unborn target) fit last = holds_with (unborn target) last h.named
      (record { by_refs = h.of_format.by_refs; by_objects = h.of_format.by_objects; by_boundaries = h.of_format.by_boundaries })
  holds_more (object id size) fit last = holds_with (object id size) last h.named (record {
    by_refs = h.of_format.by_refs;
    by_objects = All-push (λ sized. sized.0.format ≡ old.format) old.objects (id, size) h.of_format.by_objects fit;
    by_boundaries = h.of_format.by_boundaries;
  })
  holds_more (ready count) fit last = holds_with (ready count) last h.named
      (record { by_refs = h.of_format.by_refs; by_objects = h.of_format.by_objects; by_boundaries = h.of_format.by_boundaries })
  holds_more (boundary line) fit last = holds_with (boundary line) last h.named (record {
    by_refs = h.of_format.by_refs;
    by_objects = h.of_format.by_objects;
    by_boundaries = All-push (λ l. (object_of l).format ≡ old.format) old.boundaries line h.of_format.by_boundaries fit;
  })

-- what holds of a list, where perhaps one more came
pub pushed : {X : Type 0} (P : List X → Type 0) (came : Bool) (old new : List X) (last : X) → new ≡ (if came then old ++ last ∷ [] else old)
    → P old → P (old ++ last ∷ []) → P new
pushed P true old new last is before after = rw is after
pushed P false old new last is before after = rw is before
