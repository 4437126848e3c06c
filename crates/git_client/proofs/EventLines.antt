-- The line of an event is the word of its kind, followed by its parts.
use Rattle.std.proofs.Common.{◌≡◌, ℕ, List, [], ◌∷◌, map, codes, decimal, Option, Some, None, unwrap_or, Bor, refl, sym, subst}
use Rattle.std.specs.Option.{option_copied}
use Rattle.git_names.specs.ObjectName.{hex_of}
use Rattle.git_pkt.specs.Escape.{escaped_of}
use Rattle.git_msg.specs.References.{peeled_text}
use Rattle.git_client.specs.EventParts.{Parts, parts_of, word_of}
use Rattle.git_client.specs.Events.{pack, progress}
use Rattle.git_client.specs.Machine.LineParts.{count_after, object_shown, size_after, text_word}
use Rattle.git_client.specs.Machine.Turns.{values_of}
use Rattle.git_client.specs.Transcript.{lines_of, shown_after, target_shown, value_shown}
use Rattle.git_client.specs.declared.events.Event.{Event}
use Rattle.git_client.proofs.Writing.{line_by, one_line}

-- the bytes of an event's line, part by part
abbrev pub row_of : Parts → (packed announced : ℕ) → List (List ℕ)
row_of p packed announced =
    unwrap_or (word_of p.kind) [] ∷ object_shown p.kind p.id ∷ shown_after (codes " ") p.name ∷ shown_after (text_word p.kind) p.text
    ∷ peeled_text p.peeled ∷ size_after p.kind p.size ∷ count_after p.kind packed ∷ count_after p.kind announced ∷ []

pub no_lines_of_pack : (bytes : List ℕ) (p q : ℕ) → lines_of (map pack bytes) p q ≡ []
no_lines_of_pack [] p q = refl
no_lines_of_pack (byte ∷ bytes) p q = no_lines_of_pack bytes p q

pub no_lines_of_progress : (bytes : List ℕ) (p q : ℕ) → lines_of (map progress bytes) p q ≡ []
no_lines_of_progress [] p q = refl
no_lines_of_progress (byte ∷ bytes) p q = no_lines_of_progress bytes p q

-- the line of a row, if the kind has a word
abbrev pub IsLineOfRow : Option (List ℕ) → (row line : List ℕ) → Type 0
IsLineOfRow None row line = line ≡ []
IsLineOfRow (Some word) row line = row ≡ line

pub row_line : (event : Event) (packed announced : ℕ)
    → IsLineOfRow (word_of (parts_of event).kind) (line_by (row_of (parts_of event) packed announced)) (lines_of (values_of event) packed announced)
row_line (Event.Capability c) packed announced =
    one_line (codes "capability ") (escaped_of c.key.now ∷ value_shown (option_copied c.value) ∷ codes "\n" ∷ [] ∷ [])
row_line Event.Offered packed announced = refl
row_line (Event.Reference None name target peeled) packed announced =
    one_line (codes "ref unborn ")
    (escaped_of name.now ∷ target_shown (option_copied target) ∷ peeled_text (option_copied peeled) ∷ codes "\n" ∷ [] ∷ [])
row_line (Event.Reference (Some id) name target peeled) packed announced =
    one_line (codes "ref ") (hex_of id.now ∷ codes " " ∷ escaped_of name.now ∷ target_shown (option_copied target)
    ∷ peeled_text (option_copied peeled) ∷ codes "\n" ∷ [] ∷ [])
row_line (Event.Section begun) packed announced = refl
row_line (Event.Ack id) packed announced = one_line (codes "ack ") (hex_of id.now ∷ codes "\n" ∷ [] ∷ [])
row_line Event.Nak packed announced = refl
row_line Event.Ready packed announced = refl
row_line (Event.Shallow id) packed announced = one_line (codes "shallow ") (hex_of id.now ∷ codes "\n" ∷ [] ∷ [])
row_line (Event.Unshallow id) packed announced = one_line (codes "unshallow ") (hex_of id.now ∷ codes "\n" ∷ [] ∷ [])
row_line (Event.WantedRef id name) packed announced =
    one_line (codes "wanted-ref ") (hex_of id.now ∷ codes " " ∷ escaped_of name.now ∷ codes "\n" ∷ [] ∷ [])
row_line (Event.Info id None) packed announced = one_line (codes "info ") (hex_of id.now ∷ codes " " ∷ codes "-" ∷ codes "\n" ∷ [] ∷ [])
row_line (Event.Info id (Some size)) packed announced =
    one_line (codes "info ") (hex_of id.now ∷ codes " " ∷ decimal size ∷ codes "\n" ∷ [] ∷ [])
row_line (Event.Pack bytes) packed announced = no_lines_of_pack bytes.now packed announced
row_line (Event.Progress bytes) packed announced = no_lines_of_progress bytes.now packed announced
row_line Event.Ended packed announced =
    one_line (codes "end ") (decimal packed ∷ codes " " ∷ decimal announced ∷ codes "\n" ∷ [] ∷ [])

module _ (event : Event) (packed announced : ℕ) (p : Parts) (same : p ≡ parts_of event) where
  row_is : IsLineOfRow (word_of p.kind) (line_by (row_of p packed announced)) (lines_of (values_of event) packed announced)
  row_is =
      subst (λ (q : Parts). IsLineOfRow (word_of q.kind) (line_by (row_of q packed announced)) (lines_of (values_of event) packed announced)) (sym same)
      (row_line event packed announced)

  abbrev RowFor : Option (List ℕ) → Type 0
  RowFor word = IsLineOfRow word (line_by (row_of p packed announced)) (lines_of (values_of event) packed announced)

  pub no_row : (word : Option (Bor (List ℕ))) → option_copied word ≡ word_of p.kind → ((some : Bor (List ℕ)) → word ≡ Some some → ⊥)
      → lines_of (values_of event) packed announced ≡ []
  no_row None is none = subst RowFor (sym is) row_is
  no_row (Some word) is none = absurd (none word refl)

  pub row_shown : (word : Bor (List ℕ)) → option_copied (Some word) ≡ word_of p.kind
      → line_by (row_of p packed announced) ≡ lines_of (values_of event) packed announced
  row_shown word is = subst RowFor (sym is) row_is
