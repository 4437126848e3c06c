-- A reference line is one reference.
use Rattle.std.proofs.Common.{arith, ◌≡◌, ℕ, Option, Some, None, List, ◌∷◌, refl, ap, sym, ◌∙◌, subst, codes, rules}
use Rattle.git_names.specs.ObjectName.{ObjectName, IsObjectName}
use Rattle.git_names.specs.declared.object_format.Format.{Format}
use Rattle.git_names.specs.declared.object_format.Format.TheVariants.{Sha1, Sha256}
use Rattle.git_names.proofs.ObjectNames.{one_object_name, reads_back-hex_of}
use Rattle.git_msg.specs.Arguments.{IsNameIn}
use Rattle.git_msg.specs.References.{Ref, IsIdText, IsMaybeObjectName, IsReferenceLine, IsWritable, reference_text, values_of}
use Rattle.git_msg.proofs.ReferenceLines.{reads_back}
use Rattle.git_msg.specs.Texts.{last_of}

same_maybe : (format : Format) (text : Option (List ℕ)) (a b : Option ObjectName) → IsMaybeObjectName format text a → IsMaybeObjectName format text b → a ≡ b
same_maybe format None a b h k = h ∙ sym k
same_maybe format (Some text) a b h k = h.2 ∙ ap Some (one_object_name format text h.0 k.0 h.1 k.1) ∙ sym k.2

-- equal lists have the same first words and the same others
pub same_heads : (a b : List ℕ) (more others : List (List ℕ)) → a ∷ more ≡ b ∷ others → (a ≡ b) × (more ≡ others)
same_heads a b more others e = (cc, cc)

same_parts : (a b : Ref) → a.id ≡ b.id → a.name ≡ b.name → a.target ≡ b.target → a.peeled ≡ b.peeled → a ≡ b
same_parts a b e f g h = search rules

-- `unborn` is no object name
pub unborn_is_no_name : (format : Format) (id : ObjectName) → IsObjectName format (codes "unborn") id → ⊥
unborn_is_no_name Sha1 id h = let count = h.count in omega arith
unborn_is_no_name Sha256 id h = let count = h.count in omega arith

-- a word names one object, or none
one_id : (format : Format) (word : List ℕ) (a b : Option ObjectName) → IsIdText format word a → IsIdText format word b → a ≡ b
one_id format word None None h k = refl
one_id format word (Some a) (Some b) h k = ap Some (one_object_name format word a b h k)
one_id format word None (Some b) h k = absurd (unborn_is_no_name format b (subst (λ (w : List ℕ). IsObjectName format w b) h k))
one_id format word (Some a) None h k = absurd (unborn_is_no_name format a (subst (λ (w : List ℕ). IsObjectName format w a) k h))

pub one_reference : (format : Format) (text : List ℕ) (a b : Ref) → IsReferenceLine format text a → IsReferenceLine format text b → a ≡ b
one_reference format text a b h k =
    let first = same_heads h.id k.id (a.name ∷ h.attributes) (b.name ∷ k.attributes) (sym h.words ∙ k.words) in
    let second = same_heads a.name b.name h.attributes k.attributes first.1 in
    let there : IsIdText format k.id a.id = subst (λ (x : List ℕ). IsIdText format x a.id) first.0 h.id_is in
    let peeled : IsMaybeObjectName format (last_of (values_of (codes "peeled:") k.attributes)) a.peeled =
    subst (λ (ws : List (List ℕ)). IsMaybeObjectName format (last_of (values_of (codes "peeled:") ws)) a.peeled) second.1 h.attributes_are.peeled_is in
    same_parts a b (one_id format k.id a.id b.id there k.id_is) second.0
    (h.attributes_are.target_is ∙ ap (λ (ws : List (List ℕ)). last_of (values_of (codes "symref-target:") ws)) second.1 ∙ sym k.attributes_are.target_is)
    (same_maybe format (last_of (values_of (codes "peeled:") k.attributes)) a.peeled b.peeled peeled k.attributes_are.peeled_is)

-- the written form of a reference reads back as that reference
pub reference_reads_back : (format : Format) (ref : Ref) → ((id : ObjectName) → ref.id ≡ Some id → IsNameIn format id)
    → ((peeled : ObjectName) → ref.peeled ≡ Some peeled → IsNameIn format peeled) → IsWritable ref → IsReferenceLine format (reference_text ref) ref
reference_reads_back format ref ids oids w =
    reads_back format ref.id ref.name ref.target ref.peeled w
    (record { by_id = λ id e. (ids id e).of_format; by_peeled = λ id e. (oids id e).of_format })
    (λ id e. reads_back-hex_of id (ids id e).is_oid) (λ peeled e. reads_back-hex_of peeled (oids peeled e).is_oid)
