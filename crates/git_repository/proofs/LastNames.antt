-- Which name comes after those of references, and after an unborn `HEAD`.
use Rattle.std.proofs.Common.{arith, ◌≡◌, ◌≢◌, ◌↔◌, IsTrue, ℕ, ◌-◌, ◌<◌, Bool, true, false, not, ◌||◌, Option, Some, None, List, [], ◌∷◌, ◌++◌}
use Rattle.std.proofs.Common.{All, codes, length, map, get_or, refl, ap, sym, ◌∙◌, subst, inl, inr}
use Rattle.std.specs.Option.{is_some, ForSome}
use Rattle.std.proofs.lemmas.List.{get_or-map, length-append, length-map}
use Rattle.std.proofs.Math.Seq.{get_or-append_right}
use Rattle.git_names.specs.RefName.{IsRefName}
use Rattle.git_names.proofs.Beginnings.{beginnings}
use Rattle.git_server.specs.Repository.{Entry, IsNamed, IsUnbornHead, comes_before}
use Rattle.git_server.specs.Lists.{Lists}
use Rattle.std.proofs.lemmas.List.Elements.{All-nil, All-push}
use Rattle.git_repository.specs.Drafts.{ComesLast, head_names, names_of}

-- the last name is that of the last reference, where there is one
last_name : (heads : List (List ℕ)) (refs : List Entry) (d : List ℕ) (e : Entry) → 0 < length refs
    → get_or (heads ++ map (λ (r : Entry). r.name) refs) (length (heads ++ map (λ (r : Entry). r.name) refs) - 1) d ≡ (get_or refs (length refs - 1) e).name
last_name heads refs d e some =
    let names : List (List ℕ) = map (λ (r : Entry). r.name) refs in
    let count = length-append heads names in
    let mapped = length-map refs (λ (r : Entry). r.name) in
    let at : length (heads ++ names) - 1 - length heads ≡ length refs - 1 = omega (arith, count, mapped, some) in
    get_or-append_right heads names (length (heads ++ names) - 1) d (omega (arith, count, mapped, some))
    ∙ ap (λ (k : ℕ). get_or names k d) at ∙ get_or-map (λ (r : Entry). r.name) refs (length refs - 1) e d (omega (arith, some))

pub after_refs : (heads : List (List ℕ)) (refs : List Entry) (name : List ℕ) (last : Entry) (before : Bool) → 0 < length refs
    → last ≡ get_or refs (length refs - 1) last → before ≡ comes_before last.name name
    → IsTrue before ↔ ComesLast (heads ++ map (λ (r : Entry). r.name) refs) name
after_refs heads refs name last before some is answer =
    let there : (d : List ℕ) → get_or (heads ++ map (λ (r : Entry). r.name) refs) (length (heads ++ map (λ (r : Entry). r.name) refs) - 1) d ≡ last.name =
    λ d. last_name heads refs d last some ∙ ap (λ (r : Entry). r.name) (sym is) in (
      λ yes d below. subst (λ (n : List ℕ). comes_before n name ≡ true) (sym (there d)) (sym answer ∙ yes),
      λ h.
          let count = length-append heads (map (λ (r : Entry). r.name) refs) in
          let mapped = length-map refs (λ (r : Entry). r.name) in
          answer ∙ subst (λ (n : List ℕ). comes_before n name ≡ true) (there []) (h [] (omega (arith, count, mapped, some))),
    )

-- where there is none, that of an unborn `HEAD`
after_head : (head : Option (List ℕ)) (name : List ℕ) (none before : Bool) → is_some head ≡ not none → before ≡ comes_before (codes "HEAD") name
    → IsTrue (none || before) ↔ ComesLast (head_names (is_some head) ++ []) name
after_head None name true before is answer = (λ yes d below. absurd (omega (arith, below)), λ h. refl)
after_head None name false before is answer = absurd (cc)
after_head (Some target) name true before is answer = absurd (cc)
after_head (Some target) name false before is answer = (λ yes d below. sym answer ∙ yes, λ h. answer ∙ h [] (omega arith))

pub after_unborn : (lists : Lists) (name : List ℕ) (before : Bool) → lists.refs ≡ [] → is_some lists.unborn_head ≡ true
    → before ≡ comes_before (codes "HEAD") name → IsTrue before ↔ ComesLast (names_of lists) name
after_unborn lists name before empty some answer =
    subst (λ (refs : List Entry). IsTrue before ↔ ComesLast (head_names (is_some lists.unborn_head) ++ map (λ (r : Entry). r.name) refs) name) (sym empty)
    (after_head lists.unborn_head name false before some answer)

-- a name that comes after all of them comes after those of the references
pub after_those_of_refs : (heads : List (List ℕ)) (refs : List Entry) (name : List ℕ) → ComesLast (heads ++ map (λ (r : Entry). r.name) refs) name
    → (d : Entry) → 0 < length refs → comes_before (get_or refs (length refs - 1) d).name name ≡ true
after_those_of_refs heads refs name last d some =
    let count = length-append heads (map (λ (r : Entry). r.name) refs) in
    let mapped = length-map refs (λ (r : Entry). r.name) in
    subst (λ (n : List ℕ). comes_before n name ≡ true) (last_name heads refs [] d some) (last [] (omega (arith, count, mapped, some)))

-- no name comes before `HEAD`
none_before_head : (name : List ℕ) → IsRefName name → comes_before name (codes "HEAD") ≡ true → ⊥
none_before_head name named before =
    elim (beginnings name named) [
      | inl is ↦ let h : comes_before (codes "HEAD") (codes "HEAD") ≡ true = subst (λ (n : List ℕ). comes_before n (codes "HEAD") ≡ true) is before in cc
      | inr rest ↦
          let h : comes_before (codes "refs/" ++ rest.0) (codes "HEAD") ≡ true =
          subst (λ (n : List ℕ). comes_before n (codes "HEAD") ≡ true) rest.1 before in cc
    ]

-- so `HEAD` comes last only where there is none
pub head_comes_alone : (head : Option (List ℕ)) (refs : List Entry) → All (λ ref. IsNamed ref.name ref.target) refs
    → ComesLast (head_names (is_some head) ++ map (λ (r : Entry). r.name) refs) (codes "HEAD")
    → head_names (is_some head) ++ map (λ (r : Entry). r.name) refs ≡ []
head_comes_alone None [] named last = refl
head_comes_alone (Some target) [] named last =
    let h : comes_before (codes "HEAD") (codes "HEAD") ≡ true = last [] (omega arith) in absurd (cc)
head_comes_alone head (ref ∷ refs) named last =
    let names : List (List ℕ) = map (λ (r : Entry). r.name) (ref ∷ refs) in
    let count = length-append (head_names (is_some head)) names in
    let mapped = length-map (ref ∷ refs) (λ (r : Entry). r.name) in
    let there = last_name (head_names (is_some head)) (ref ∷ refs) [] ref (omega arith) in
    let before = subst (λ (n : List ℕ). comes_before n (codes "HEAD") ≡ true) there (last [] (omega (arith, count, mapped))) in
    absurd (none_before_head (get_or (ref ∷ refs) (length (ref ∷ refs) - 1) ref).name
    (named (length (ref ∷ refs) - 1) ref (omega arith)).by_name before)

-- what an unborn `HEAD` points to, where it is the first one
pub unborn_announced : (refs : List Entry) (target copied : List ℕ) → refs ≡ [] → copied ≡ target → IsRefName target → ForSome (Some copied) (IsUnbornHead refs)
unborn_announced refs target copied empty same named other is =
    let announced : target ≡ other = let found : copied ≡ other = cc in sym same ∙ found in
    record { named = subst IsRefName announced named; no_head = subst (All (λ ref. ref.name ≢ codes "HEAD")) (sym empty) (All-nil _) }

some_names : (head : Option (List ℕ)) (target : List ℕ) (names : List (List ℕ)) → head ≡ Some target → head_names (is_some head) ++ names ≡ [] → ⊥
some_names None target names is none = cc
some_names (Some other) target names is none = cc

-- it stays one with a reference more, whose name comes after it
pub still_unborn : (head : Option (List ℕ)) (refs : List Entry) (entry : Entry) → All (λ ref. IsNamed ref.name ref.target) refs
    → ForSome head (IsUnbornHead refs) → ComesLast (head_names (is_some head) ++ map (λ (r : Entry). r.name) refs) entry.name
    → ForSome head (IsUnbornHead (refs ++ entry ∷ []))
still_unborn head refs entry named sound last other is =
    let before = sound other is in
    let names : List (List ℕ) = head_names (is_some head) ++ map (λ (r : Entry). r.name) refs in
    record {
      named = before.named;
      no_head = All-push (λ ref. ref.name ≢ codes "HEAD") refs entry before.no_head
          (λ same. some_names head other (map (λ (r : Entry). r.name) refs) is (head_comes_alone head refs named (subst (ComesLast names) same last)));
    }

pub no_refs_there : (heads : List (List ℕ)) (refs : List Entry) → heads ++ map (λ (r : Entry). r.name) refs ≡ [] → refs ≡ []
no_refs_there [] [] e = refl
no_refs_there [] (ref ∷ refs) e = absurd (cc)
no_refs_there (head ∷ heads) refs e = absurd (cc)
