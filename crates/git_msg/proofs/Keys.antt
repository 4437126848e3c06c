-- The key of a capability line ends at its first `=`.
use Rattle.std.proofs.Common.{◌≡◌, ℕ, ◌≤◌, ◌+◌, List, [], ◌∷◌, ◌++◌, length, drop, true, false, Bool, ◌&&◌, not, eqb, sym, subst, arith, refl, rules}
use Rattle.std.proofs.Common.{Option, Some, None, unwrap_or, Bor, suc}
use Rattle.std.specs.Option.{option_copied}
use Rattle.std.proofs.lemmas.Bool.{and_parts}
use Rattle.std.proofs.lemmas.Grind.{common_steps}
use Rattle.std.proofs.lemmas.List.Sums.{AllPass-from_list_all}
use Rattle.git_names.specs.RefName.{Lacks}
use Rattle.git_msg.specs.Capability.{is_key, is_value, IsCapability, IsNoCapability}
use Rattle.git_msg.specs.Advertisement.{key_of, value_of}
use Rattle.git_msg.specs.Texts.{IsCutAt, bytes_left}
use Rattle.git_msg.proofs.TextParts.{cut_place, one_cut}

-- no byte of a key is `=`
key_lacks : (key : List ℕ) → is_key key ≡ true → Lacks key 61
key_lacks key h k within same = search (rules, AllPass-from_list_all, and_parts, eqb)

-- so the key ends before the first `=`, and the value begins after it
cut_at_equals : (text key : List ℕ) (value : Option (List ℕ)) → IsCapability text key value → IsCutAt 61 text key value
cut_at_equals text key None (k, e) = (sym e, subst (λ (t : List ℕ). Lacks t 61) (sym e) (key_lacks key k))
cut_at_equals text key (Some value) (k, e, v) = record { spelled = e; first = key_lacks key k }

pub one_capability : (text key other : List ℕ) (value other_value : Option (List ℕ))
    → IsCapability text key value → IsCapability text other other_value → (key ≡ other) × (value ≡ other_value)
one_capability text key other value other_value h k = search (rules, one_cut, cut_at_equals)

pub is_capability : (text key : List ℕ) (value : Option (List ℕ)) → IsCutAt 61 text key value → is_key key ≡ true → is_value (unwrap_or value []) ≡ true
    → IsCapability text key value
is_capability text key None cut k v = (k, sym cut.0)
is_capability text key (Some value) cut k v = (k, cut.spelled, v)

-- the bytes before the first `=` are no key
pub no_key : (text key : List ℕ) (value : Option (List ℕ)) → IsCutAt 61 text key value → is_key key ≡ false → IsNoCapability text
no_key text key value cut none other more h =
    let same = one_cut 61 text key other value more cut (cut_at_equals text other more h) in
    let known : is_key key ≡ true = rw same.0 (allowed more h) in
    cc where
      allowed : (more : Option (List ℕ)) → IsCapability text other more → is_key other ≡ true
      allowed None h = h.0
      allowed (Some more) h = h.0

-- the bytes after it are no value
pub no_value : (text key : List ℕ) (value : Option (List ℕ)) → IsCutAt 61 text key value → is_value (unwrap_or value []) ≡ false → IsNoCapability text
no_value text key value cut none other more h =
    let same = one_cut 61 text key other value more cut (cut_at_equals text other more h) in
    let known : is_value (unwrap_or value []) ≡ true = rw same.1 (allowed more h) in
    cc where
      allowed : (more : Option (List ℕ)) → IsCapability text other more → is_value (unwrap_or more []) ≡ true
      allowed None h = refl
      allowed (Some more) h = h.2

pub key_is : (text key : List ℕ) (value : Option (List ℕ)) → IsCapability text key value → key_of text ≡ key
key_is text key None h = rw (cut_place 61 text key None (cut_at_equals text key None h), h.1) (grind (arith, common_steps))
key_is text key (Some value) h = rw (cut_place 61 text key (Some value) (cut_at_equals text key (Some value) h), h.1) (grind (arith, common_steps))

after_key : (key value : List ℕ) → drop (length key + 1) (key ++ 61 ∷ value) ≡ value
after_key [] value = refl
after_key (c ∷ key) value = let e : suc (length key) + 1 ≡ suc (length key + 1) = omega arith in rw e (after_key key value)

pub value_is : (text key : List ℕ) (value : Option (List ℕ)) → IsCapability text key value → value_of text ≡ unwrap_or value []
value_is text key None h = rw (cut_place 61 text key None (cut_at_equals text key None h), h.1) (grind (arith, common_steps))
value_is text key (Some value) h =
    rw (cut_place 61 text key (Some value) (cut_at_equals text key (Some value) h), h.1) (after_key key value)

-- a borrowed value, or an empty one
pub value_there : (value : Option (Bor (List ℕ))) (empty : Bor (List ℕ)) → empty.now ≡ [] → (unwrap_or value empty).now ≡ unwrap_or (option_copied value) []
value_there None empty e = e
value_there (Some v) empty e = refl

pub value_within : (value : Option (List ℕ)) → length (unwrap_or value []) ≤ bytes_left value
value_within None = omega arith
value_within (Some value) = omega arith

pub key_with_some : (b all : Bool) → b ≡ false → (not b && all) ≡ all
key_with_some true all e = absurd (cc)
key_with_some false all e = refl

pub capability_or_none : (text key : List ℕ) (value : Option (List ℕ)) → IsCapability text key value → IsNoCapability text → ⊥
capability_or_none text key value h none = none key value h
