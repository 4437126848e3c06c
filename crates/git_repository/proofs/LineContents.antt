-- What lines contain: one thing at the most.
use Rattle.std.proofs.Common.{arith, ◌≡◌, ℕ, ◌+◌, ◌*◌, Option, Some, None, List, [], ◌∷◌, ◌++◌, refl, ap, sym, ◌∙◌, subst}
use Rattle.std.proofs.Common.{get_or, length, codes, unwrap_or, MatchOption}
use Rattle.git_names.proofs.ObjectNames.{one_object_name}
use Rattle.git_msg.proofs.ReferenceLaws.{one_reference}
use Rattle.git_msg.proofs.LastValues.{last_value}
use Rattle.git_msg.specs.Numbers.{IsNumber}
use Rattle.git_repository.specs.Drafts.{IsFit}
use Rattle.git_names.specs.declared.object_format.Format.{Format}
use Rattle.git_names.specs.ObjectName.{ObjectName, IsObjectName}
use Rattle.git_names.specs.RefName.{IsRefName}
use Rattle.git_server.specs.Repository.{Entry}
use Rattle.git_msg.specs.declared.Boundary.TheVariants.{Shallow, Unshallow}
use Rattle.git_msg.specs.Texts.{Follows, last_of}
use Rattle.git_msg.proofs.ReferenceFaults.{reference_or_fault}
use Rattle.git_pkt.specs.declared.fault.Kind.{Kind}
use Rattle.git_msg.specs.References.{Ref, IsMaybeObjectName, IsReferenceFault, IsReferenceLine, values_of}
use Rattle.git_repository.specs.RepositoryLines.{LineContent, reference, unborn, object, ready, boundary, IsSizedObject}
use Rattle.git_repository.specs.RepositoryLines.{HasContent, HasNoContent, ReadsReference, ref_of, shown, unborn_ref}
use Rattle.git_repository.specs.declared.repository_lines.Item.{Item}

byte_at : (k : ℕ) (a b : List ℕ) → a ≡ b → get_or a k 0 ≡ get_or b k 0
byte_at k a b e = ap (λ (xs : List ℕ). get_or xs k 0) e

same_rest_ref : (a b : List ℕ) → codes "ref " ++ a ≡ codes "ref " ++ b → a ≡ b
same_rest_ref a b e = cc

same_rest_object : (a b : List ℕ) → codes "object " ++ a ≡ codes "object " ++ b → a ≡ b
same_rest_object a b e = cc

-- a text that is no line of a reference with an object, or of an unborn `HEAD`
pub no_reference : (format : Format) (line text : List ℕ) → line ≡ codes "ref " ++ text
    → ((content : LineContent) → ReadsReference format text content → ⊥) → HasNoContent format line
no_reference format line text e none (reference entry) is =
    none (reference entry) (subst (λ (t : List ℕ). IsReferenceLine format t (ref_of entry)) (same_rest_ref is.value text (sym is.spelled ∙ e)) is.holds)
no_reference format line text e none (unborn target) is =
    none (unborn target) (subst (λ (t : List ℕ). IsReferenceLine format t (unborn_ref target)) (same_rest_ref is.value text (sym is.spelled ∙ e)) is.holds)
no_reference format line text e none (object id size) is = let h = byte_at 0 _ _ (sym is.spelled ∙ e) in omega (arith, h)
no_reference format line text e none (ready count) is = let h = byte_at 2 _ _ (sym is.spelled ∙ e) in omega (arith, h)
no_reference format line text e none (boundary (Shallow id)) is = let h = byte_at 0 _ _ (sym is.spelled ∙ e) in omega (arith, h)
no_reference format line text e none (boundary (Unshallow id)) is = let h = byte_at 0 _ _ (sym is.spelled ∙ e) in omega (arith, h)

-- what a reference line contains is contained in the line of the text that has it
pub reference_conveys : (format : Format) (line text : List ℕ) (content : LineContent) → line ≡ codes "ref " ++ text → ReadsReference format text content
    → HasContent format line content
reference_conveys format line text (reference entry) e is = record { value = text; spelled = e; holds = is }
reference_conveys format line text (unborn target) e is = record { value = text; spelled = e; holds = is }
reference_conveys format line text (object id size) e is = absurd is
reference_conveys format line text (ready count) e is = absurd is
reference_conveys format line text (boundary other) e is = absurd is

-- so what is read of it is what the line contains
pub line_read : (format : Format) (line text : List ℕ) (read : Option Item) → line ≡ codes "ref " ++ text
    → MatchOption read ((content : LineContent) → ReadsReference format text content → ⊥) (λ item. ReadsReference format text (shown item))
    → MatchOption read (HasNoContent format line) (λ item. HasContent format line (shown item))
line_read format line text None e none = no_reference format line text e none
line_read format line text (Some item) e conveys = reference_conveys format line text (shown item) e conveys

-- a text that is refused contains neither
pub refused_has_no_content : (format : Format) (text : List ℕ) (kind : Kind) → IsReferenceFault format text kind → (content : LineContent)
    → ReadsReference format text content → ⊥
refused_has_no_content format text kind fault (reference entry) is = reference_or_fault format text (ref_of entry) kind is fault
refused_has_no_content format text kind fault (unborn target) is = reference_or_fault format text (unborn_ref target) kind is fault
refused_has_no_content format text kind fault (object id size) is = is
refused_has_no_content format text kind fault (ready count) is = is
refused_has_no_content format text kind fault (boundary line) is = is

-- the entry whose line this is
entry_with : ObjectName → Ref → Entry
entry_with id ref = record { name = ref.name; id = unwrap_or ref.id id; target = ref.target; peeled = ref.peeled }

one_entry : (a b : Entry) → ref_of a ≡ ref_of b → a ≡ b
unfolding entry_with
one_entry a b e = ap (entry_with a.id) e

-- an object line that is refused
pub no_object : (format : Format) (line text : List ℕ) → line ≡ codes "object " ++ text
    → ((id : ObjectName) (size : ℕ) → IsSizedObject format id size text → ⊥) → HasNoContent format line
no_object format line text e fault (object id size) is =
    fault id size (subst (λ (t : List ℕ). IsSizedObject format id size t) (same_rest_object is.value text (sym is.spelled ∙ e)) is.holds)
no_object format line text e fault (unborn target) is = let h = byte_at 0 _ _ (sym is.spelled ∙ e) in omega (arith, h)
no_object format line text e fault (reference entry) is = let h = byte_at 0 _ _ (sym is.spelled ∙ e) in omega (arith, h)
no_object format line text e fault (ready count) is = let h = byte_at 0 _ _ (sym is.spelled ∙ e) in omega (arith, h)
no_object format line text e fault (boundary (Shallow id)) is = let h = byte_at 0 _ _ (sym is.spelled ∙ e) in omega (arith, h)
no_object format line text e fault (boundary (Unshallow id)) is = let h = byte_at 0 _ _ (sym is.spelled ∙ e) in omega (arith, h)

bytes_two : List ℕ → ℕ
bytes_two line = get_or line 0 0 * 256 + get_or line 2 0

-- two bytes of the first word, in which it differs from the others
mark : LineContent → ℕ
mark (reference entry) = 29286
mark (unborn target) = 29286
mark (object id size) = 28522
mark (ready count) = 29281
mark (boundary (Shallow id)) = 29537
mark (boundary (Unshallow id)) = 30067

marked : (format : Format) (line : List ℕ) (content : LineContent) → HasContent format line content → bytes_two line ≡ mark content
unfolding bytes_two mark
marked format line (reference entry) is = ap bytes_two is.spelled
marked format line (unborn target) is = ap bytes_two is.spelled
marked format line (object id size) is = ap bytes_two is.spelled
marked format line (ready count) is = ap bytes_two is.spelled
marked format line (boundary (Shallow id)) is = ap bytes_two is.spelled
marked format line (boundary (Unshallow id)) is = ap bytes_two is.spelled

same_rest_ready : (a b : List ℕ) → codes "ready " ++ a ≡ codes "ready " ++ b → a ≡ b
same_rest_ready a b e = cc

same_rest_shallow : (a b : List ℕ) → codes "shallow " ++ a ≡ codes "shallow " ++ b → a ≡ b
same_rest_shallow a b e = cc

same_rest_unshallow : (a b : List ℕ) → codes "unshallow " ++ a ≡ codes "unshallow " ++ b → a ≡ b
same_rest_unshallow a b e = cc

same_split : (a b x y : List ℕ) → length a ≡ length b → a ++ 32 ∷ x ≡ b ++ 32 ∷ y → (a ≡ b) × (x ≡ y)
same_split [] [] x y l e = (refl, cc)
same_split (c ∷ a) (d ∷ b) x y l e =
    let tails : a ++ 32 ∷ x ≡ b ++ 32 ∷ y = cc in
    let heads : c ≡ d = cc in
    let more = same_split a b x y (omega (arith, l)) tails in
    (ap (λ (n : ℕ). n ∷ a) heads ∙ ap (λ (xs : List ℕ). d ∷ xs) more.0, more.1)
same_split [] (d ∷ b) x y l e = absurd (omega (arith, l))
same_split (c ∷ a) [] x y l e = absurd (omega (arith, l))

one_number : (text : List ℕ) (a b : ℕ) → IsNumber text a → IsNumber text b → a ≡ b
one_number text a b h k = h.value ∙ sym k.value

one_object : (format : Format) (text : List ℕ) (id other : ObjectName) (size count : ℕ) → IsSizedObject format id size text
    → IsSizedObject format other count text → (id ≡ other) × (size ≡ count)
one_object format text id other size count h k =
    let same = same_split h.name k.name h.number k.number (h.name_is.count ∙ sym k.name_is.count) (sym h.spelled ∙ k.spelled) in (
      one_object_name format k.name id other (subst (λ (t : List ℕ). IsObjectName format t id) same.0 h.name_is) k.name_is,
      one_number k.number size count (subst (λ (t : List ℕ). IsNumber t size) same.1 h.number_is) k.number_is,
    )

-- a line is one reference at the most
one_line : (format : Format) (line : List ℕ) (a b : Ref) → Follows (codes "ref ") (λ text. IsReferenceLine format text a) line
    → Follows (codes "ref ") (λ text. IsReferenceLine format text b) line → a ≡ b
one_line format line a b h k =
    one_reference format k.value a b (subst (λ (t : List ℕ). IsReferenceLine format t a)
    (same_rest_ref h.value k.value (sym h.spelled ∙ k.spelled)) h.holds) k.holds

some_same : (a b : List ℕ) → Some a ≡ Some b → a ≡ b
some_same a b e = cc

-- a line contains one thing at the most
one_of_mark : (format : Format) (line : List ℕ) (a b : LineContent) → mark a ≡ mark b → HasContent format line a → HasContent format line b → a ≡ b
unfolding mark
one_of_mark format line (reference a) (reference b) e h k =
    ap reference (one_entry a b (one_line format line (ref_of a) (ref_of b) h k))
one_of_mark format line (unborn a) (unborn b) e h k =
    ap unborn (some_same a b (ap (λ (r : Ref). r.target) (one_line format line (unborn_ref a) (unborn_ref b) h k)))
one_of_mark format line (reference a) (unborn b) e h k =
    let other = ap (λ (r : Ref). r.id) (one_line format line (ref_of a) (unborn_ref b) h k) in absurd (cc)
one_of_mark format line (unborn a) (reference b) e h k =
    let other = ap (λ (r : Ref). r.id) (one_line format line (unborn_ref a) (ref_of b) h k) in absurd (cc)
one_of_mark format line (object id size) (object other count) e h k =
    let same =
    one_object format k.value id other size count (subst (IsSizedObject format id size)
    (same_rest_object h.value k.value (sym h.spelled ∙ k.spelled)) h.holds) k.holds in
    ap (λ (x : ObjectName). object x size) same.0 ∙ ap (object other) same.1
one_of_mark format line (ready a) (ready b) e h k =
    ap ready (one_number k.value a b (subst (λ (t : List ℕ). IsNumber t a) (same_rest_ready h.value k.value (sym h.spelled ∙ k.spelled)) h.holds.number_is)
    k.holds.number_is)
one_of_mark format line (boundary (Shallow a)) (boundary (Shallow b)) e h k =
    ap (λ (x : ObjectName). boundary (Shallow x)) (one_object_name format k.value a b
    (subst (λ (t : List ℕ). IsObjectName format t a) (same_rest_shallow h.value k.value (sym h.spelled ∙ k.spelled)) h.holds) k.holds)
one_of_mark format line (boundary (Unshallow a)) (boundary (Unshallow b)) e h k =
    ap (λ (x : ObjectName). boundary (Unshallow x)) (one_object_name format k.value a b
    (subst (λ (t : List ℕ). IsObjectName format t a) (same_rest_unshallow h.value k.value (sym h.spelled ∙ k.spelled)) h.holds) k.holds)
one_of_mark format line (reference a) (object id size) e h k = absurd (omega (arith, e))
one_of_mark format line (unborn a) (object id size) e h k = absurd (omega (arith, e))
one_of_mark format line (reference a) (ready n) e h k = absurd (omega (arith, e))
one_of_mark format line (unborn a) (ready n) e h k = absurd (omega (arith, e))
one_of_mark format line (reference a) (boundary (Shallow b)) e h k = absurd (omega (arith, e))
one_of_mark format line (unborn a) (boundary (Shallow b)) e h k = absurd (omega (arith, e))
one_of_mark format line (reference a) (boundary (Unshallow b)) e h k = absurd (omega (arith, e))
one_of_mark format line (unborn a) (boundary (Unshallow b)) e h k = absurd (omega (arith, e))
one_of_mark format line (object id size) (reference b) e h k = absurd (omega (arith, e))
one_of_mark format line (object id size) (unborn b) e h k = absurd (omega (arith, e))
one_of_mark format line (object id size) (ready b) e h k = absurd (omega (arith, e))
one_of_mark format line (object id size) (boundary (Shallow b)) e h k = absurd (omega (arith, e))
one_of_mark format line (object id size) (boundary (Unshallow b)) e h k = absurd (omega (arith, e))
one_of_mark format line (ready a) (reference b) e h k = absurd (omega (arith, e))
one_of_mark format line (ready a) (unborn b) e h k = absurd (omega (arith, e))
one_of_mark format line (ready a) (object id size) e h k = absurd (omega (arith, e))
one_of_mark format line (ready a) (boundary (Shallow b)) e h k = absurd (omega (arith, e))
one_of_mark format line (ready a) (boundary (Unshallow b)) e h k = absurd (omega (arith, e))
one_of_mark format line (boundary (Shallow a)) (reference b) e h k = absurd (omega (arith, e))
one_of_mark format line (boundary (Shallow a)) (unborn b) e h k = absurd (omega (arith, e))
one_of_mark format line (boundary (Shallow a)) (object id size) e h k = absurd (omega (arith, e))
one_of_mark format line (boundary (Shallow a)) (ready b) e h k = absurd (omega (arith, e))
one_of_mark format line (boundary (Shallow a)) (boundary (Unshallow b)) e h k = absurd (omega (arith, e))
one_of_mark format line (boundary (Unshallow a)) (reference b) e h k = absurd (omega (arith, e))
one_of_mark format line (boundary (Unshallow a)) (unborn b) e h k = absurd (omega (arith, e))
one_of_mark format line (boundary (Unshallow a)) (object id size) e h k = absurd (omega (arith, e))
one_of_mark format line (boundary (Unshallow a)) (ready b) e h k = absurd (omega (arith, e))
one_of_mark format line (boundary (Unshallow a)) (boundary (Shallow b)) e h k = absurd (omega (arith, e))

pub one_content : (format : Format) (line : List ℕ) (a b : LineContent) → HasContent format line a → HasContent format line b → a ≡ b
one_content format line a b h k = one_of_mark format line a b (sym (marked format line a h) ∙ marked format line b k) h k

maybe_format : (format : Format) (text : Option (List ℕ)) (id : Option ObjectName) → IsMaybeObjectName format text id → (x : ObjectName) → id ≡ Some x
    → x.format ≡ format
maybe_format format None id h x e = absurd (cc)
maybe_format format (Some text) id h x e = let same : h.0 ≡ x = cc in subst (λ (o : ObjectName). o.format ≡ format) same h.1.of_format

-- what a line contains is of the format
pub fit_of_content : (format : Format) (line : List ℕ) (content : LineContent) → HasContent format line content → IsFit format content
fit_of_content format line (reference entry) is =
    let parts = is.holds.attributes_are in (
      record {
        by_id = is.holds.id_is.of_format;
        by_peeled = λ x e. maybe_format format
            (last_of (values_of (codes "peeled:") is.holds.attributes)) entry.peeled parts.peeled_is x e;
      },
      record {
        by_name = is.holds.name_is;
        by_target = λ x e. last_value format (codes "symref-target:") IsRefName
            (λ word value is spelled. is.target value spelled) is.holds.attributes x parts.passes (sym parts.target_is ∙ e);
      },
    )
fit_of_content format line (unborn target) is =
    let parts = is.holds.attributes_are in
    last_value format (codes "symref-target:") IsRefName (λ word value is spelled. is.target value spelled) is.holds.attributes target parts.passes
    (sym parts.target_is)
fit_of_content format line (object id size) is = is.holds.name_is.of_format
fit_of_content format line (ready count) is = tt
fit_of_content format line (boundary (Shallow id)) is = is.holds.of_format
fit_of_content format line (boundary (Unshallow id)) is = is.holds.of_format
