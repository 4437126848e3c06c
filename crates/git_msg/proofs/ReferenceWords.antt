-- The words of reference lines, one by one.
use Rattle.std.proofs.Common.{[], arith, ◌≡◌, ℕ, ◌+◌, ◌-◌, ◌≤◌, ◌==◌, append_assoc, length, take, drop, codes, inl, inr, rules}
use Rattle.std.proofs.Common.{Bool, true, false, Option, Some, None, option_to_list, List, ◌∷◌, ◌++◌, refl, ap, sym, ◌∙◌, subst}
use Rattle.std.specs.Prelude.{if◌then◌else◌}
use Rattle.std.specs.List.{onto_first}
use Rattle.std.specs.Str.{bytes_eq}
use Rattle.std.specs.Option.{option_map}
use Rattle.std.proofs.Math.Seq.{drop-append-add, drop-append_seam, take-append_seam}
use Rattle.std.proofs.lemmas.List.{append-nil, length-append, take-append-drop}
use Rattle.std.proofs.lemmas.Slice.Eq.{bytes_eq-Decides}
use Rattle.git_names.specs.ObjectFormat.{digits_of}
use Rattle.git_names.specs.ObjectName.{ObjectName}
use Rattle.git_names.specs.declared.object_format.Format.{Format}
use Rattle.git_pkt.specs.declared.fault.Kind.{Kind}
use Rattle.git_pkt.specs.declared.fault.Kind.TheVariants.{BadObjectName}
use Rattle.git_msg.specs.declared.reference_places.Part.{Part}
use Rattle.git_msg.specs.declared.reference_places.ReferencePlaces.{ReferencePlaces}
use Rattle.git_msg.specs.Checks.{Passes, Refuses}
use Rattle.git_msg.specs.Texts.{BeginsOtherThan, IsCutAt, IsLeftOf, IsPartedAt, parts_left, spaced_words, last_of}
use Rattle.git_msg.specs.References.{value_behind, values_of, part_of, reference_at, FitsIn, IsAttribute, IsAttributeFault, IsMaybeObjectName}
use Rattle.git_msg.specs.References.{IsIdText, IsNoIdText, IsReferenceFault, IsReferenceLine, PartFits, attribute_checks, id_length, reference_checks}
use Rattle.git_msg.specs.ReferenceParts.{AreLocated, BeginsWithName, IsFound, IsPeeledWith, ReadSoFar, target_with}
use Rattle.git_msg.proofs.LineLists.{filter_map_snoc}

-- a text that does not begin with the word has no value after it
pub nothing_behind : (word text : List ℕ) → BeginsOtherThan word text → value_behind word text ≡ None
nothing_behind word text h = go (bytes_eq (take (length word) text) word) refl where
  go : (b : Bool) → bytes_eq (take (length word) text) word ≡ b → (if b then Some (drop (length word) text) else None) ≡ None
  go false e = refl
  go true e =
      let same : take (length word) text ≡ word = (bytes_eq-Decides (take (length word) text) word).0 e in
      absurd (h (drop (length word) text) (sym (take-append-drop (length word) text) ∙ ap (λ (xs : List ℕ). xs ++ drop (length word) text) same))

-- the value after a word
pub value_spelled : (word text value : List ℕ) → value_behind word text ≡ Some value → text ≡ word ++ value
value_spelled word text value = go (bytes_eq (take (length word) text) word) refl where
  go : (b : Bool) → bytes_eq (take (length word) text) word ≡ b → (if b then Some (drop (length word) text) else None) ≡ Some value → text ≡ word ++ value
  go false e h = cc
  go true e h =
      let same : take (length word) text ≡ word = (bytes_eq-Decides (take (length word) text) word).0 e in
      let rest : drop (length word) text ≡ value = cc in
      sym (take-append-drop (length word) text) ∙ ap (λ (xs : List ℕ). xs ++ drop (length word) text) same ∙ ap (λ (xs : List ℕ). word ++ xs) rest

-- an unknown attribute
pub other_found : (format : Format) (word : List ℕ) (end : ℕ) (found : ReferencePlaces) → BeginsOtherThan (codes "symref-target:") word
    → BeginsOtherThan (codes "peeled:") word → IsFound format word end found found
other_found format word end found no_target no_peeled = record {
  is_attribute = record { target = λ value e. absurd (no_target value e); peeled = λ value e. absurd (no_peeled value e) };
  id = refl;
  name_length = refl;
  target = ap (λ (o : Option (List ℕ)). target_with o end found.target) (sym (nothing_behind (codes "symref-target:") word no_target));
  peeled = subst (λ (o : Option (List ℕ)). IsPeeledWith format o found.peeled found.peeled) (sym (nothing_behind (codes "peeled:") word no_peeled)) refl;
}

last_snoc : {X : Type 0} (xs : List X) (x : X) → last_of (xs ++ x ∷ []) ≡ Some x
last_snoc [] x = refl
last_snoc (a ∷ []) x = refl
last_snoc (a ∷ b ∷ xs) x = last_snoc (b ∷ xs) x

later : {X : Type 0} → Option X → Option X → Option X
later None old = old
later (Some x) old = Some x

last_more : {X : Type 0} (xs : List X) (o : Option X) → last_of (xs ++ option_to_list o) ≡ later o (last_of xs)
unfolding later
last_more xs None = ap last_of (append-nil xs)
last_more xs (Some x) = last_snoc xs x

passes_snoc : (format : Format) (words : List (List ℕ)) (word : List ℕ) → Passes (attribute_checks format words) → IsAttribute format word
    → Passes (attribute_checks format (words ++ word ∷ []))
passes_snoc format [] word h is = (is, tt)
passes_snoc format (w ∷ ws) word h is = (h.0, passes_snoc format ws word h.1 is)

pub refuses_at : (format : Format) (before : List (List ℕ)) (word : List ℕ) (behind : List (List ℕ)) (kind : Kind) → Passes (attribute_checks format before)
    → IsAttributeFault format word kind → Refuses (attribute_checks format (before ++ word ∷ behind)) kind
refuses_at format [] word behind kind h fault = inl fault
refuses_at format (w ∷ ws) word behind kind h fault = inr (h.0, refuses_at format ws word behind kind h.1 fault)

values_more : (key : List ℕ) (words : List (List ℕ)) (word : List ℕ) (value : Option (List ℕ)) → value_behind key word ≡ value
    → last_of (values_of key (words ++ word ∷ [])) ≡ later value (last_of (values_of key words))
values_more key words word value e = search (rules, filter_map_snoc, last_more)

-- the last object name, if another one may follow
maybe_later : (format : Format) (value last : Option (List ℕ)) (old new : Option ObjectName) → IsPeeledWith format value old new
    → IsMaybeObjectName format last old → IsMaybeObjectName format (later value last) new
unfolding later
maybe_later format None last old new h k = subst (λ (o : Option ObjectName). IsMaybeObjectName format last o) (sym h) k
maybe_later format (Some value) last old new h k = h

-- the end of a word that follows some bytes of the text
part_at_end : (text front rest word more value : List ℕ) (end : ℕ) → text ≡ front ++ rest → rest ≡ word ++ more
    → end ≡ length text - length rest + length word → (key : List ℕ) → word ≡ key ++ value
    → value ≡ take (length value) (drop (end - length value) text)
part_at_end text front rest word more value end h k at key spelled =
    let place : end - length value ≡ length front + length key =
    omega (arith, ap length h ∙ length-append front rest, ap length spelled ∙ length-append key value) in
    let there : drop (end - length value) text ≡ value ++ more =
    ap (λ (n : ℕ). drop n text) place ∙ ap (λ (xs : List ℕ). drop (length front + length key) xs) h ∙ drop-append-add front rest (length key)
    ∙ ap (λ (xs : List ℕ). drop (length key) xs) (k ∙ ap (λ (xs : List ℕ). xs ++ more) spelled ∙ append_assoc key value more)
    ∙ drop-append_seam key (value ++ more) in
    sym (ap (λ (xs : List ℕ). take (length value) xs) there ∙ take-append_seam value more)

-- a word, and the text after it
word_first : (rest word : List ℕ) (next : Option (List ℕ)) → IsCutAt 32 rest word next → (more : List ℕ) × (rest ≡ word ++ more)
word_first rest word None h = ([], sym h.0 ∙ sym (append-nil word))
word_first rest word (Some after) h = (32 ∷ after, h.spelled)

pub left_after : (text rest word : List ℕ) (next : Option (List ℕ)) → IsLeftOf text (Some rest) → IsCutAt 32 rest word next → IsLeftOf text next
left_after text rest word None h cut = tt
left_after text rest word (Some after) h cut = (
  h.0 ++ (word ++ 32 ∷ []),
  h.1 ∙ ap (λ (xs : List ℕ). h.0 ++ xs) (cut.spelled ∙ sym (append_assoc word (32 ∷ []) after)) ∙ sym (append_assoc h.0 (word ++ 32 ∷ []) after),
)

-- a word ends within the text
pub word_within : (text rest word : List ℕ) (next : Option (List ℕ)) → IsLeftOf text (Some rest) → IsCutAt 32 rest word next
    → (length rest ≤ length text) × (length word ≤ length rest)
word_within text rest word next h cut = search (rules, word_first, length-append)

-- the last target, if the word may have another one, which ends with it
target_later : (text front rest word more : List ℕ) (value : Option (List ℕ)) (end : ℕ) (target : Option Part) → text ≡ front ++ rest → rest ≡ word ++ more
    → end ≡ length text - length rest + length word → value_behind (codes "symref-target:") word ≡ value
    → later value (option_map (part_of text) target) ≡ option_map (part_of text) (target_with value end target)
unfolding later
target_later text front rest word more None end target h k at e = refl
target_later text front rest word more (Some value) end target h k at e = search (rules, part_at_end, value_spelled)

target_fits : (word : List ℕ) (value : Option (List ℕ)) (end count : ℕ) (target : Option Part) → length word ≤ end → end ≤ count
    → value_behind (codes "symref-target:") word ≡ value → PartFits count target → PartFits count (target_with value end target)
target_fits word None end count target h k e fits = fits
target_fits word (Some value) end count target h k e fits = search (rules, value_spelled, length-append)

module _ (format : Format) (text : List ℕ) (whole : List (List ℕ)) (rest word : List ℕ) (next : Option (List ℕ)) (old : ReferencePlaces)
    (h : ReadSoFar format text whole (Some rest) old.target old.peeled) (words : spaced_words rest ≡ word ∷ parts_left 32 next) where
  -- one more word was read
  pub one_more_word : (end : ℕ) (new : ReferencePlaces) → IsCutAt 32 rest word next → end ≡ length text - length rest + length word
      → IsFound format word end old new → ReadSoFar format text whole next new.target new.peeled
  one_more_word end new cut at is =
      let first = word_first rest word next cut in
      let within = word_within text rest word next h.left_is cut in
      let key = codes "symref-target:" in
      let target_is : option_map (part_of text) new.target ≡ last_of (values_of key (h.before ++ word ∷ [])) =
      ap (option_map (part_of text)) is.target
      ∙ sym (target_later text h.left_is.0 rest word first.0 (value_behind key word) end old.target h.left_is.1 first.1 at refl)
      ∙ ap (λ (o : Option (List ℕ)). later (value_behind key word) o) h.located.attributes.target_is
      ∙ sym (values_more key h.before word (value_behind key word) refl) in
      record {
        before = h.before ++ word ∷ [];
        whole_is = h.whole_is ∙ ap (λ (ws : List (List ℕ)). h.before ++ ws) words ∙ sym (append_assoc h.before (word ∷ []) (parts_left 32 next));
        left_is = left_after text rest word next h.left_is cut;
        located = record {
          attributes = record {
            passes = passes_snoc format h.before word h.located.attributes.passes is.is_attribute;
            target_is = target_is;
            peeled_is = subst (λ (o : Option (List ℕ)). IsMaybeObjectName format o new.peeled)
                (sym (values_more (codes "peeled:") h.before word (value_behind (codes "peeled:") word) refl))
                (maybe_later format (value_behind (codes "peeled:") word) (last_of (values_of (codes "peeled:") h.before)) old.peeled new.peeled is.peeled
                h.located.attributes.peeled_is);
          };
          fits = subst (λ (t : Option Part). PartFits (length text) t) (sym is.target)
              (target_fits word (value_behind key word) end (length text) old.target (omega arith) (omega arith) refl h.located.fits);
        };
      }

  pub word_refused : (kind : Kind) → IsAttributeFault format word kind → Refuses (attribute_checks format whole) kind
  word_refused kind fault = search (rules, refuses_at)

-- a text has a word
onto_some : (x : ℕ) (ws : List (List ℕ)) → (w : List ℕ) × (rest : List (List ℕ)) × (onto_first x ws ≡ w ∷ rest)
onto_some x [] = (x ∷ [], [], refl)
onto_some x (w ∷ ws) = (x ∷ w, ws, refl)

some_word : (text : List ℕ) → (w : List ℕ) × (rest : List (List ℕ)) × (spaced_words text ≡ w ∷ rest)
some_word [] = ([], [], refl)
some_word (x ∷ xs) = go (x == 32) where
  go : (b : Bool) → (w : List ℕ) × (rest : List (List ℕ)) × ((if b then [] ∷ spaced_words xs else onto_first x (spaced_words xs)) ≡ w ∷ rest)
  go true = ([], spaced_words xs, refl)
  go false = onto_some x (spaced_words xs)

-- the first word is neither an object name nor `unborn`
pub id_refused : (format : Format) (text id rest : List ℕ) → spaced_words text ≡ id ∷ spaced_words rest → IsNoIdText format id
    → IsReferenceFault format text BadObjectName
id_refused format text id rest words h =
    let s = some_word rest in
    let all : spaced_words text ≡ id ∷ s.0 ∷ s.1 = words ∙ ap (λ (ws : List (List ℕ)). id ∷ ws) s.2 in
    subst (λ (ws : List (List ℕ)). Refuses (reference_checks format ws) BadObjectName) (sym all) (inl (h, refl))

id_counted : (format : Format) (word : List ℕ) (id : Option ObjectName) → IsIdText format word id → length word ≡ id_length id
id_counted format word None h = ap length h
id_counted format word (Some id) h = h.count ∙ ap digits_of (sym h.of_format)

-- the parts of a line at their places
pub located : (format : Format) (text spelled rest name : List ℕ) (left : Option (List ℕ)) (places : ReferencePlaces)
    → spaced_words text ≡ spelled ∷ spaced_words rest → IsPartedAt 32 text spelled rest → IsIdText format spelled places.id
    → BeginsWithName rest name left → places.name_length ≡ length name → AreLocated format text (parts_left 32 left) places.target places.peeled
    → IsReferenceLine format text (reference_at places text) × FitsIn places (length text)
located format text spelled rest name left places words parted named begins long found =
    search (rules, word_first, id_counted, drop-append-add, take-append_seam, length-append)

-- the text left after the object's name and the reference's
pub left_after_names : (text spelled rest name : List ℕ) (left : Option (List ℕ)) → IsPartedAt 32 text spelled rest → BeginsWithName rest name left
    → IsLeftOf text left
left_after_names text spelled rest name left parted begins =
    left_after text rest name left (spelled ++ 32 ∷ [], parted.spelled ∙ sym (append_assoc spelled (32 ∷ []) rest)) begins.cut
