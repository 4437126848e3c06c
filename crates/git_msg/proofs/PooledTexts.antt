-- A pool of texts with one text more.
use Rattle.std.proofs.Common.{◌≡◌, ℕ, suc, ◌+◌, ◌/◌, ◌%◌, ◌<◌, ◌==◌, Bool, true, false, List, [], ◌∷◌, ◌++◌, All, length, map, refl, arith, length-drop, rules}
use Rattle.std.proofs.Common.{ap, append-nil, if◌then◌else◌, subst, sym, ◌∙◌}
use Rattle.std.proofs.Math.Seq.{take-length, drop-append_seam}
use Rattle.std.proofs.lemmas.List.{append_assoc, length-append, take-append-le, drop-append-le, get_or_append_left, get_or-append-add, map-append}
use Rattle.std.proofs.Common.{take}
use Rattle.std.specs.Prelude.{Err, Ok, OnErr, OnOk, Result, Vec}
use Rattle.git_pkt.specs.declared.fault.Kind.{Kind}
use Rattle.std.proofs.lemmas.List.Elements.{All-nil, All-push, All-weaker}
use Rattle.git_msg.specs.Machine.PlacedLists.{AreEnds, items_at}
use Rattle.git_msg.specs.Machine.TextPools.{IsEnd, long_at, pooled, text_at, text_place, where_same}
use Rattle.git_msg.specs.declared.parts.Lists.{Lists}
use Rattle.git_msg.specs.declared.words.TextWord.{TextWord}
use Rattle.std.proofs.lemmas.Grind.{common_steps}

long_stays : (bytes more : List ℕ) (end : ℕ) → IsEnd bytes end → long_at (bytes ++ more) end ≡ long_at bytes end
long_stays bytes more end h = search (rules, get_or_append_left)

text_stays : (bytes more : List ℕ) (end : ℕ) → IsEnd bytes end → text_at (bytes ++ more) end ≡ text_at bytes end
text_stays bytes more end h = search (rules, long_stays, drop-append-le, take-append-le, length-drop)

texts_stay : (bytes more ends : List ℕ) → All (IsEnd bytes) ends → map (text_at (bytes ++ more)) ends ≡ map (text_at bytes) ends
texts_stay bytes more [] h = refl
texts_stay bytes more (end ∷ ends) h =
    rw (text_stays bytes more end (h 0 0 (omega arith)), texts_stay bytes more ends (λ k d below. h (suc k) d (omega (arith, below)))) refl

end_stays : (bytes more : List ℕ) (end : ℕ) → IsEnd bytes end → IsEnd (bytes ++ more) end
end_stays bytes more end h =
    (omega (arith, h.0, length-append bytes more), omega (arith, h.1, long_stays bytes more end h))

module _ (bytes text : List ℕ) (short : length text < 65536) where
  pub pooled_length : length (bytes ++ pooled text) ≡ length bytes + (length text + 2)
  pooled_length = omega (arith, length-append bytes (pooled text), length-append text (length text % 256 ∷ length text / 256 ∷ []))

  last_long : long_at (bytes ++ pooled text) (length bytes + length text) ≡ length text
  last_long = grind (arith, common_steps, length-append, get_or-append-add, append_assoc)

  last_end : IsEnd (bytes ++ pooled text) (length bytes + length text)
  last_end = (omega (arith, pooled_length), omega (arith, last_long))

  last_text : text_at (bytes ++ pooled text) (length bytes + length text) ≡ text
  last_text = grind (arith, common_steps, last_long, length-append, append_assoc, drop-append_seam, take-append-le, take-length)

  module _ {A : Type 0} (ends new : Lists ℕ A) (word : TextWord) (place end : ℕ) (sound : AreEnds bytes ends) (there : place ≡ text_place word)
      (stop : end ≡ length bytes + length text) (grown : (of : ℕ) → items_at new of ≡ items_at ends of ++ where_same of place end) where
    added : (of : ℕ) → items_at new of ≡ items_at ends of ++ where_same of (text_place word) (length bytes + length text)
    added of =
        grown of ∙ ap (λ (n : ℕ). items_at ends of ++ where_same of n end) there
        ∙ ap (λ (n : ℕ). items_at ends of ++ where_same of (text_place word) n) stop

    one_text : (here : Bool) → map (text_at (bytes ++ pooled text)) (if here then (length bytes + length text) ∷ [] else []) ≡ (if here then text ∷ [] else [])
    one_text true = ap (λ (t : List ℕ). t ∷ []) last_text
    one_text false = refl

    pub texts_more : (of : TextWord) → map (text_at (bytes ++ pooled text)) (items_at new (text_place of))
        ≡ map (text_at bytes) (items_at ends (text_place of)) ++ where_same (text_place of) (text_place word) text
    texts_more of =
        ap (map (text_at (bytes ++ pooled text))) (added (text_place of))
        ∙ map-append (text_at (bytes ++ pooled text)) (items_at ends (text_place of))
        (where_same (text_place of) (text_place word) (length bytes + length text))
        ∙ rw (texts_stay bytes (pooled text) (items_at ends (text_place of)) (sound of), one_text (text_place of == text_place word)) refl

    one_end : (list : List ℕ) (here : Bool) → All (IsEnd (bytes ++ pooled text)) list
        → All (IsEnd (bytes ++ pooled text)) (list ++ (if here then (length bytes + length text) ∷ [] else []))
    one_end list true all = All-push (IsEnd (bytes ++ pooled text)) list (length bytes + length text) all last_end
    one_end list false all = subst (All (IsEnd (bytes ++ pooled text))) (sym (append-nil list)) all

    pub ends_more : AreEnds (bytes ++ pooled text) new
    ends_more of =
        subst (All (IsEnd (bytes ++ pooled text))) (sym (added (text_place of)))
        (one_end (items_at ends (text_place of)) (text_place of == text_place word)
        (All-weaker (IsEnd bytes) (IsEnd (bytes ++ pooled text)) (end_stays bytes (pooled text)) (items_at ends (text_place of)) (sound of)))

-- ends are as sound in longer bytes, whether or not they were appended
pub ends_longer : {A : Type 0} (r : Result (Unit {0}) Kind) (bytes now text : List ℕ) (ends : Lists ℕ A) → OnOk r (now ≡ bytes ++ pooled text)
    → OnErr r (now ≡ bytes) → AreEnds bytes ends → AreEnds now ends
ends_longer (Ok done) bytes now text ends grown same sound of =
    rw grown (All-weaker (IsEnd bytes) (IsEnd (bytes ++ pooled text)) (end_stays bytes (pooled text)) (items_at ends (text_place of)) (sound of))
ends_longer (Err kind) bytes now text ends grown same sound of = rw same (sound of)

-- the same ends are as sound in the same bytes
pub ends_same : {A : Type 0} (bytes now : List ℕ) (ends new : Lists ℕ A) → now ≡ bytes → ((of : ℕ) → items_at new of ≡ items_at ends of)
    → AreEnds bytes ends → AreEnds now new
ends_same bytes now ends new is same sound of = rw (is, same (text_place of)) (sound of)

-- and those of the prefixes may be others
pub ends_ordered : {A : Type 0} (bytes : List ℕ) (ends : Lists ℕ A) (moved : Vec ℕ A) → (All (IsEnd bytes) ends.first.items → All (IsEnd bytes) moved.items)
    → AreEnds bytes ends → AreEnds bytes (record ends { first = moved })
ends_ordered bytes ends moved moves sound TextWord.RefPrefix = moves (sound TextWord.RefPrefix)
ends_ordered bytes ends moved moves sound word = sound word

-- and those of the server options alone
pub ends_alone : {A : Type 0} (bytes : List ℕ) (ends new : Lists ℕ A) → items_at new 4 ≡ items_at ends 4
    → ((place : ℕ) → (place == 4) ≡ false → items_at new place ≡ []) → AreEnds bytes ends → AreEnds bytes new
ends_alone bytes ends new same none sound TextWord.ServerOption = rw same (sound TextWord.ServerOption)
ends_alone bytes ends new same none sound word = rw (none (text_place word) refl) (All-nil (IsEnd bytes))

pub cut_back : (bytes more : List ℕ) → take (length bytes) (bytes ++ more) ≡ bytes
cut_back bytes more = search (rules, take-append-le, take-length)
