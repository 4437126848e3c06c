-- The word for the object at the head of a reference line.
use Rattle.std.proofs.Common.{◌≡◌, ◌≢◌, ℕ, ◌+◌, ◌-◌, ◌<◌, ◌==◌, Option, Some, None, List, ◌∷◌, ◌++◌, length, slice_index, take, drop}
use Rattle.std.proofs.Common.{refl, sym, ap, ◌∙◌, subst, arith}
use Rattle.std.specs.Prelude.{position}
use Rattle.std.proofs.lemmas.List.Quantifiers.{position-Some}
use Rattle.std.proofs.lemmas.List.{get_or-take, length-take-le, take-append-drop}
use Rattle.git_names.specs.ObjectFormat.{digits_of}
use Rattle.git_names.specs.ObjectName.{ObjectName, IsObjectName, IsNoObjectName}
use Rattle.git_names.specs.declared.object_format.Format.{Format}
use Rattle.git_pkt.specs.declared.fault.Kind.TheVariants.{BadObjectName}
use Rattle.git_msg.specs.Texts.{spaced_words}
use Rattle.git_msg.specs.References.{IsNoIdText, IsReferenceFault}
use Rattle.git_msg.specs.ReferenceParts.{BeginsWithId}
use Rattle.git_msg.proofs.ReferenceLines.{digits_are_unspaced, digits_lack_space, words_of_two}
use Rattle.git_msg.proofs.ReferenceWords.{id_refused}
use Rattle.git_pkt.proofs.Chunks.{left_of}
use Rattle.git_msg.proofs.TextParts.{drop_cons, no_such_byte, parted_at, parts_at}

-- an object's name, and a space after it
pub begins_with_id : (format : Format) (text : List ℕ) (id : ObjectName) (end : ℕ) → end < length text → slice_index text end ≡ 32
    → IsObjectName format (take end text) id → BeginsWithId format text (Some id) (take (length text - (end + 1)) (drop (end + 1) text))
begins_with_id format text id end within space named =
    let rest = take (length text - (end + 1)) (drop (end + 1) text) in
    let spelled : text ≡ take end text ++ 32 ∷ rest =
    sym (take-append-drop end text) ∙ ap (λ (xs : List ℕ). take end text ++ xs) (drop_cons text end within)
    ∙ ap (λ (c : ℕ). take end text ++ c ∷ drop (end + 1) text) space
    ∙ ap (λ (xs : List ℕ). take end text ++ 32 ∷ xs) (sym (left_of text (end + 1) (omega arith))) in
    record {
      word = take end text;
      words = ap spaced_words spelled ∙ words_of_two (take end text) rest (digits_are_unspaced format (take end text) id named);
      parted = record { spelled = spelled; first = digits_lack_space format (take end text) id named };
      is_id = named;
    }

-- the first word is not `unborn`, and is no object name because of its length or its digits
no_id_text : (format : Format) (text : List ℕ) (at end : ℕ) → end ≡ digits_of format → at < length text → slice_index text 0 ≢ 117
    → IsNoObjectName format (take end text) → IsNoIdText format (take at text)
no_id_text format text at end is_end within other none =
    let size = length-take-le at text (omega arith) in (
      λ same.
          let six : at ≡ 6 = omega (arith, size, ap length same) in
          other (sym (get_or-take at text 0 0 (omega arith)) ∙ ap (λ (xs : List ℕ). slice_index xs 0) same),
      λ id named.
          let count = named.count in
          let whole : at ≡ end = omega arith in
          none id (subst (λ (n : ℕ). IsObjectName format (take n text) id) whole named),
    )

-- a line with a space where an object's name ends that begins neither with such a name nor with `u`
pub refused_at_its_id : (format : Format) (text : List ℕ) (end : ℕ) → end ≡ digits_of format → end < length text → slice_index text end ≡ 32
    → slice_index text 0 ≢ 117 → IsNoObjectName format (take end text) → IsReferenceFault format text BadObjectName
refused_at_its_id format text end is_end within space other none = go (position (λ c. c == 32) text) refl where
  go : (found : Option ℕ) → position (λ c. c == 32) text ≡ found → IsReferenceFault format text BadObjectName
  go None e = absurd (no_such_byte 32 text e end within space)
  go (Some at) e =
      let parted = parted_at 32 text at e in
      let inside : at < length text = omega (arith, position-Some (λ c. c == 32) text at 0 e) in
      let rest = take (length text - (at + 1)) (drop (at + 1) text) in
      id_refused format text (take at text) rest (parts_at 32 text at e) (no_id_text format text at end is_end inside other none)
