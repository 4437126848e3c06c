-- Reference lines, as they are written.
use Rattle.std.proofs.Common.{arith, ◌≡◌, ◌≢◌, ℕ, ◌+◌, ◌≤◌, ◌==◌, Bool, true, false, not, ◌&&◌, Option, Some, None, List, [], ◌∷◌, ◌++◌, refl, ap, rules}
use Rattle.std.proofs.Common.{◌∙◌, subst, append_assoc, length, slice_index, codes, length-append, lit≤}
use Rattle.std.specs.Prelude.{All}
use Rattle.std.specs.List.{list_all}
use Rattle.std.proofs.lemmas.List.{append-nil}
use Rattle.std.proofs.lemmas.List.Elements.{All-append, All-cons, All-nil, All-from_get_or}
use Rattle.std.proofs.lemmas.List.Splits.{slice_split_at, slice_split_none}
use Rattle.git_names.specs.Digits.{IsHexDigit, digit_value}
use Rattle.git_names.specs.ObjectName.{ObjectName, IsObjectName, hex_of}
use Rattle.git_names.specs.RefName.{IsRefName, Lacks}
use Rattle.git_names.specs.declared.object_format.Format.{Format}
use Rattle.git_names.proofs.WrittenForms.{digits-object_name}
use Rattle.git_msg.specs.Texts.{spaced_words, last_of}
use Rattle.git_msg.specs.Checks.{Passes}
use Rattle.git_msg.proofs.WrittenNames.{digits_at_most}
use Rattle.git_msg.specs.References.{reference_of, HasFormat, IsAttribute, IsIdText, IsReferenceLine, IsMaybeObjectName, IsWritable, values_of}
use Rattle.git_msg.specs.References.{attribute_checks, id_length, id_text, target_text, peeled_text, peeled_count, reference_text}
use Rattle.git_msg.proofs.TextParts.{another_byte}
use Rattle.std.proofs.lemmas.Grind.{common_steps}

pub lacking_is_unspaced : (text : List ℕ) → Lacks text 32 → All (λ c. (c == 32) ≡ false) text
lacking_is_unspaced text h = All-from_get_or (λ c. (c == 32) ≡ false) text 0 (λ k within. another_byte (slice_index text k) 32 (h k within))

no_digit : (c : ℕ) → IsHexDigit c → c ≢ 32
unfolding digit_value
no_digit c h same = search rules

pub digits_lack_space : (format : Format) (text : List ℕ) (id : ObjectName) → IsObjectName format text id → Lacks text 32
digits_lack_space format text id h k within = no_digit (slice_index text k) (digits-object_name format text id h k within)

pub digits_are_unspaced : (format : Format) (text : List ℕ) (id : ObjectName) → IsObjectName format text id → All (λ c. (c == 32) ≡ false) text
digits_are_unspaced format text id h = lacking_is_unspaced text (digits_lack_space format text id h)

both_true : (a b : Bool) → (a && b) ≡ true → (a ≡ true) × (b ≡ true)
both_true true b h = (refl, h)
both_true false b h = cc

not_is_true : (b : Bool) → not b ≡ true → b ≡ false
not_is_true true h = cc
not_is_true false h = refl

-- bytes that are tested one by one
tested : (xs : List ℕ) → list_all (λ c. not (c == 32)) xs ≡ true → All (λ c. (c == 32) ≡ false) xs
tested [] h = All-nil (λ c. (c == 32) ≡ false)
tested (x ∷ xs) h = grind (arith, common_steps, both_true, All-cons, not_is_true)

-- the words of two parts with a space between
pub words_of_two : (a b : List ℕ) → All (λ c. (c == 32) ≡ false) a → spaced_words (a ++ 32 ∷ b) ≡ a ∷ spaced_words b
words_of_two a b h = slice_split_at (λ c. c == 32) a 32 b h refl

pub word_alone : (a : List ℕ) → All (λ c. (c == 32) ≡ false) a → spaced_words a ≡ a ∷ []
word_alone a h = slice_split_none (λ c. c == 32) a h

target_words : Option (List ℕ) → List (List ℕ)
target_words None = []
target_words (Some name) = (codes "symref-target:" ++ name) ∷ []

-- an attribute of a target that is a reference name
target_attribute : (format : Format) (name : List ℕ) → IsRefName name → IsAttribute format (codes "symref-target:" ++ name)
target_attribute format name h = search rules

-- an attribute of a peeled object
peeled_attribute : (format : Format) (text : List ℕ) (id : ObjectName) → IsObjectName format text id → IsAttribute format (codes "peeled:" ++ text)
peeled_attribute format text id h = search rules

unspaced_target : (name : List ℕ) → IsRefName name → All (λ c. (c == 32) ≡ false) (codes "symref-target:" ++ name)
unspaced_target name h = search (rules, All-append, tested, lacking_is_unspaced)

-- the words after the name
peeled_words : Option ObjectName → List (List ℕ)
peeled_words None = []
peeled_words (Some id) = (codes "peeled:" ++ hex_of id) ∷ []

unspaced_peeled : (format : Format) (id : ObjectName) → IsObjectName format (hex_of id) id → All (λ c. (c == 32) ≡ false) (codes "peeled:" ++ hex_of id)
unspaced_peeled format id h = search (rules, All-append, tested, digits_are_unspaced)

behind : List ℕ → List (List ℕ) → List (List ℕ)
behind word words = word ∷ words

tail_words : (name : List ℕ) (target : Option (List ℕ)) (peeled : Option ObjectName) → IsRefName name → ((t : List ℕ) → target ≡ Some t → IsRefName t)
    → ((p : ObjectName) → peeled ≡ Some p → IsObjectName p.format (hex_of p) p)
    → spaced_words (name ++ target_text target ++ peeled_text peeled) ≡ name ∷ (target_words target ++ peeled_words peeled)
unfolding target_words peeled_words
tail_words name None None h targets names = ap spaced_words (append-nil (name ++ []) ∙ append-nil name) ∙ word_alone name (lacking_is_unspaced name h.no_space)
tail_words name (Some t) None h targets names = search (rules, append-nil, words_of_two, lacking_is_unspaced, word_alone, unspaced_target)
tail_words name None (Some p) h targets names =
    ap (λ (xs : List ℕ). spaced_words (xs ++ 32 ∷ (codes "peeled:" ++ hex_of p))) (append-nil name)
    ∙ words_of_two name (codes "peeled:" ++ hex_of p) (lacking_is_unspaced name h.no_space)
    ∙ ap (λ (ws : List (List ℕ)). name ∷ ws) (word_alone (codes "peeled:" ++ hex_of p) (unspaced_peeled p.format p (names p refl)))
tail_words name (Some t) (Some p) h targets names =
    ap spaced_words (append_assoc name (32 ∷ (codes "symref-target:" ++ t)) (32 ∷ (codes "peeled:" ++ hex_of p)))
    ∙ words_of_two name ((codes "symref-target:" ++ t) ++ 32 ∷ (codes "peeled:" ++ hex_of p)) (lacking_is_unspaced name h.no_space)
    ∙ ap (λ (ws : List (List ℕ)). name ∷ ws) (words_of_two (codes "symref-target:" ++ t) (codes "peeled:" ++ hex_of p) (unspaced_target t (targets t refl))
    ∙ ap (λ (ws : List (List ℕ)). (codes "symref-target:" ++ t) ∷ ws) (word_alone (codes "peeled:" ++ hex_of p)
    (unspaced_peeled p.format p (names p refl))))

-- the word for the object has no space, and reads back as the object
id_unspaced : (format : Format) (id : Option ObjectName) → IsIdText format (id_text id) id → All (λ c. (c == 32) ≡ false) (id_text id)
id_unspaced format None h = tested (codes "unborn") refl
id_unspaced format (Some id) h = digits_are_unspaced format (hex_of id) id h

id_conveys : (format : Format) (id : Option ObjectName) → ((named : ObjectName) → id ≡ Some named → named.format ≡ format)
    → ((named : ObjectName) → id ≡ Some named → IsObjectName named.format (hex_of named) named) → IsIdText format (id_text id) id
id_conveys format None formats named = refl
id_conveys format (Some id) formats named = subst (λ (f : Format). IsObjectName f (hex_of id) id) (formats id refl) (named id refl)

id_at_most : (id : Option ObjectName) → id_length id ≤ 64
id_at_most None = lit≤ tt
id_at_most (Some id) = digits_at_most id.format

-- a peeled object of the line's format
of_format : (format : Format) (p : ObjectName) (peeled : Option ObjectName) → peeled ≡ Some p
    → ((q : ObjectName) → peeled ≡ Some q → q.format ≡ format) → IsObjectName p.format (hex_of p) p → IsObjectName format (hex_of p) p
of_format format p peeled e formats named = subst (λ (f : Format). IsObjectName f (hex_of p) p) (formats p e) named

attributes_pass : (format : Format) (target : Option (List ℕ)) (peeled : Option ObjectName)
    → ((t : List ℕ) → target ≡ Some t → IsRefName t) → ((p : ObjectName) → peeled ≡ Some p → IsObjectName format (hex_of p) p)
    → Passes (attribute_checks format (target_words target ++ peeled_words peeled))
unfolding target_words peeled_words
attributes_pass format None None targets names = tt
attributes_pass format (Some t) None targets names = (target_attribute format t (targets t refl), tt)
attributes_pass format None (Some p) targets names = (peeled_attribute format (hex_of p) p (names p refl), tt)
attributes_pass format (Some t) (Some p) targets names = grind (arith, common_steps, target_attribute, peeled_attribute)

target_last : (target : Option (List ℕ)) (peeled : Option ObjectName)
    → target ≡ last_of (values_of (codes "symref-target:") (target_words target ++ peeled_words peeled))
unfolding target_words peeled_words
target_last None None = refl
target_last (Some t) None = refl
target_last None (Some p) = refl
target_last (Some t) (Some p) = refl

peeled_last : (format : Format) (target : Option (List ℕ)) (peeled : Option ObjectName)
    → ((p : ObjectName) → peeled ≡ Some p → IsObjectName format (hex_of p) p)
    → IsMaybeObjectName format (last_of (values_of (codes "peeled:") (target_words target ++ peeled_words peeled))) peeled
unfolding target_words peeled_words
peeled_last format None None names = refl
peeled_last format (Some t) None names = refl
peeled_last format None (Some p) names = (p, names p refl, refl)
peeled_last format (Some t) (Some p) names = (p, names p refl, refl)

-- the written form of a reference reads back
pub reads_back : (format : Format) (id : Option ObjectName) (name : List ℕ) (target : Option (List ℕ)) (peeled : Option ObjectName)
    → IsWritable (reference_of id name target peeled) → HasFormat format (reference_of id name target peeled)
    → ((named : ObjectName) → id ≡ Some named → IsObjectName named.format (hex_of named) named)
    → ((p : ObjectName) → peeled ≡ Some p → IsObjectName p.format (hex_of p) p)
    → IsReferenceLine format (reference_text (reference_of id name target peeled)) (reference_of id name target peeled)
reads_back format id name target peeled w formats named others =
    let conveys : IsIdText format (id_text id) id = id_conveys format id formats.by_id named in
    let names : (p : ObjectName) → peeled ≡ Some p → IsObjectName format (hex_of p) p = λ p e. of_format format p peeled e formats.by_peeled (others p e) in
    record {
      id = id_text id;
      attributes = target_words target ++ peeled_words peeled;
      words = words_of_two (id_text id) (name ++ target_text target ++ peeled_text peeled) (id_unspaced format id conveys)
          ∙ ap (λ (ws : List (List ℕ)). id_text id ∷ ws) (tail_words name target peeled w.name w.target others);
      id_is = conveys;
      name_is = w.name;
      attributes_are = record {
        passes = attributes_pass format target peeled w.target names;
        target_is = target_last target peeled;
        peeled_is = peeled_last format target peeled names;
      };
    }

target_fits : (target : Option (List ℕ)) → ((t : List ℕ) → target ≡ Some t → IsRefName t) → length (target_text target) ≤ 32015
target_fits None h = lit≤ tt
target_fits (Some t) h = let most = (h t refl).at_most in omega (arith, length-append (codes " symref-target:") t)

peeled_fits : (peeled : Option ObjectName) → peeled_count peeled ≤ 72
peeled_fits None = lit≤ tt
peeled_fits (Some p) = omega (arith, digits_at_most p.format)

-- the line's end still fits
pub space : (id : Option ObjectName) (name : List ℕ) (target : Option (List ℕ)) (peeled : Option ObjectName) (a b c d e f head : List ℕ)
    → IsWritable (reference_of id name target peeled) → length head ≡ 4 → length (id_text id) ≡ id_length id
    → length (peeled_text peeled) ≡ peeled_count peeled → a ≡ head → b ≡ a ++ id_text id → c ≡ b ++ 32 ∷ [] → d ≡ c ++ name → e ≡ d ++ target_text target
    → f ≡ e ++ peeled_text peeled → length f + 1 ≤ 65520
space id name target peeled a b c d e f head w four first count ha hb hc hd he hf = search (rules, id_at_most, target_fits, peeled_fits, length-append)
