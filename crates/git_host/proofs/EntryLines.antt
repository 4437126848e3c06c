-- The line of a reference, by its texts.
use Rattle.std.proofs.Common.{arith, ◌≡◌, ◌≤◌, ◌<◌, Bool, true, false, List, ◌∷◌, ◌++◌, ℕ, length, length-append, Option, Some, None}
use Rattle.std.proofs.Common.{if◌then◌else◌, ◌∙◌, codes, refl, sym, ap, subst}
use Rattle.std.specs.Option.{ForSome, option_map}
use Rattle.std.specs.Prelude.{◌≢◌}
use Rattle.std.proofs.lemmas.Option.{none-some}
use Rattle.git_names.specs.ObjectFormat.{digits_of}
use Rattle.git_names.specs.ObjectName.{ObjectName, hex_of}
use Rattle.git_names.specs.RefName.{IsRefName}
use Rattle.git_names.specs.declared.object_format.Format.{Format}
use Rattle.git_names.specs.declared.object_format.Format.TheVariants.{Sha1, Sha256}
use Rattle.git_names.proofs.ObjectNames.{hex_of-fits}
use Rattle.git_pkt.specs.Packets.{Pkt, longest_payload, spelling_of}
use Rattle.git_msg.specs.References.{IsMaybeObjectName, peeled_text, target_text}
use Rattle.git_msg.specs.WrittenRequest.{text_line}
use Rattle.git_server.specs.Answers.{reference_packet}
use Rattle.git_server.specs.Repository.{Entry, IsNamed, IsOfFormat}
use Rattle.git_host.specs.FetchPlaces.{Holds}
use Rattle.git_host.specs.ReferenceTexts.{AreAttributes, FitLine, SpellsEntry, Texts, attribute_text, texts_line, texts_with}
use Rattle.git_host.specs.ReferencesPlaces.{AreSoundReferences, IsLast, ReferencesFacts, comes_after, with_ref}
use Rattle.git_host.specs.WrittenDigits.{SpellsId}
use Rattle.git_host.proofs.FetchMoves.{line_held}
use Rattle.git_host.proofs.ReferencesMoves.{one_more_sound}

few_digits : (format : Format) → digits_of format ≤ 64
few_digits Sha1 = omega arith
few_digits Sha256 = omega arith

-- an object name has at most so many digits
short_id : (id : ObjectName) → length (hex_of id) ≤ 64
short_id id = omega (arith, hex_of-fits id, few_digits id.format)

-- the texts that are written for a reference, by what the request asks for
abbrev pub written_texts : (symrefs peel : Bool) → Entry → Texts
written_texts symrefs peel entry = record {
  digits = hex_of entry.id;
  name = entry.name;
  target = if symrefs then entry.target else None;
  peeled = option_map hex_of (if peel then entry.peeled else None);
}

same_target : (target : Option (List ℕ)) → target_text target ≡ attribute_text (codes " symref-target:") target
same_target None = refl
same_target (Some name) = refl

same_peeled : (id : Option ObjectName) → peeled_text id ≡ attribute_text (codes " peeled:") (option_map hex_of id)
same_peeled None = refl
same_peeled (Some id) = refl

pub packet_is : (symrefs peel : Bool) (entry : Entry) → reference_packet symrefs peel entry ≡ texts_line (written_texts symrefs peel entry)
packet_is symrefs peel entry =
    let target : Option (List ℕ) = if symrefs then entry.target else None in
    let peeled : Option ObjectName = if peel then entry.peeled else None in
    ap (λ (l : List ℕ). text_line (hex_of entry.id ++ 32 ∷ (entry.name ++ l ++ peeled_text peeled))) (same_target target)
    ∙ ap (λ (l : List ℕ). text_line (hex_of entry.id ++ 32 ∷ (entry.name ++ attribute_text (codes " symref-target:") target ++ l))) (same_peeled peeled)

short_target : (symrefs : Bool) (target : Option (List ℕ)) → ForSome target IsRefName
    → length (attribute_text (codes " symref-target:") (if symrefs then target else None)) ≤ 32015
short_target false target named = omega arith
short_target true None named = omega arith
short_target true (Some name) named =
    let word : length (codes " symref-target:") ≡ 15 = refl in
    omega (arith, word, length-append (codes " symref-target:") name, (named name refl).at_most)

short_peeled : (peel : Bool) (peeled : Option ObjectName)
    → length (attribute_text (codes " peeled:") (option_map hex_of (if peel then peeled else None))) ≤ 72
short_peeled false peeled = omega arith
short_peeled true None = omega arith
short_peeled true (Some id) =
    let word : length (codes " peeled:") ≡ 8 = refl in
    omega (arith, word, length-append (codes " peeled:") (hex_of id), short_id id)

pub entry_fits : (symrefs peel : Bool) (entry : Entry) → IsNamed entry.name entry.target → FitLine (written_texts symrefs peel entry)
entry_fits symrefs peel entry named = record {
  digits = short_id entry.id;
  name = named.by_name.at_most;
  target = short_target symrefs entry.target named.by_target;
  peeled = short_peeled peel entry.peeled;
}

fits_payload : (digits name target peeled : List ℕ) → length digits ≤ 64 → length name ≤ 32000 → length target ≤ 32015 → length peeled ≤ 72
    → length (digits ++ 32 ∷ (name ++ target ++ peeled)) < longest_payload
fits_payload digits name target peeled a b c d =
    omega (arith, a, b, c, d, length-append digits (32 ∷ (name ++ target ++ peeled)), length-append (name ++ target) peeled, length-append name target)

-- it fits into a packet
pub entry_held : (symrefs peel : Bool) (entry : Entry) → IsNamed entry.name entry.target
    → Holds (spelling_of (reference_packet symrefs peel entry)) (reference_packet symrefs peel entry)
entry_held symrefs peel entry named =
    let t = written_texts symrefs peel entry in
    let fits = entry_fits symrefs peel entry named in
    let target = attribute_text (codes " symref-target:") t.target in
    let peeled = attribute_text (codes " peeled:") t.peeled in
    subst (λ (p : Pkt). Holds (spelling_of p) p) (sym (packet_is symrefs peel entry))
    (line_held (spelling_of (texts_line t)) (t.digits ++ 32 ∷ (t.name ++ target ++ peeled)) refl
    (fits_payload t.digits t.name target peeled fits.digits fits.name fits.target fits.peeled))

-- ---- the reference that texts are
peeled_of_format : (format : Format) (digits : Option (List ℕ)) (peeled : Option ObjectName) → IsMaybeObjectName format digits peeled
    → ForSome peeled (λ id. id.format ≡ format)
peeled_of_format format None peeled none id there = absurd (none-some id (sym none ∙ there))
peeled_of_format format (Some digits) peeled (named, is_id, found) id there =
    let same : named ≡ id = cc in
    subst (λ (x : ObjectName). x.format ≡ format) same is_id.of_format

same_texts : {name digits others : List ℕ} {target targets peeled peels : Option (List ℕ)} → digits ≡ others → target ≡ targets → peeled ≡ peels
    → texts_with name digits target peeled ≡ texts_with name others targets peels
same_texts {name} {digits} {others} {target} {targets} {peeled} {peels} p q r =
    ap (λ (d : List ℕ). texts_with name d target peeled) p ∙ ap (λ (t : Option (List ℕ)). texts_with name others t peeled) q
    ∙ ap (λ (t : Option (List ℕ)). texts_with name others targets t) r

mapped : (peel : Bool) (id : Option ObjectName) → (if peel then option_map hex_of id else None) ≡ option_map hex_of (if peel then id else None)
mapped true id = refl
mapped false id = refl

module _ (format : Format) (texts : Texts) (digits : List ℕ) (peeled : Option (List ℕ)) (spells : SpellsId format texts.digits digits)
    (attributes : AreAttributes format texts.target texts.peeled peeled) where
  abbrev pub spelled_entry : Entry
  spelled_entry = record { name = texts.name; id = spells.id; target = texts.target; peeled = attributes.id }

  pub spells_entry : IsRefName texts.name → SpellsEntry format texts spelled_entry
  spells_entry named = record {
    is_id = spells.named;
    name_is = refl;
    target_is = refl;
    named = record { by_name = named; by_target = attributes.by_target };
    is_peeled = attributes.is_peeled;
  }

  pub of_format : IsOfFormat format spelled_entry
  of_format = record { by_id = spells.named.of_format; by_peeled = peeled_of_format format texts.peeled attributes.id attributes.is_peeled }

  -- these are the texts that are written for it
  pub written_are : (symrefs peel : Bool) (target shown : Option (List ℕ)) → target ≡ (if symrefs then texts.target else None)
      → shown ≡ (if peel then peeled else None)
      → texts_with texts.name digits target shown ≡ written_texts symrefs peel spelled_entry
  written_are symrefs peel target shown targets peels =
      same_texts spells.written targets (peels ∙ ap (λ (p : Option (List ℕ)). if peel then p else None) attributes.written ∙ mapped peel attributes.id)

-- with a reference of this name, which comes after the last and is no second `HEAD`, what was reported stays sound
pub named_sound : (format : Format) (t : ReferencesFacts) (last : Option (List ℕ)) (entry : Entry) (name : List ℕ) → AreSoundReferences format t
    → IsLast t.refs last → entry.name ≡ name → comes_after last name ≡ true → IsNamed name entry.target → IsOfFormat format entry
    → ForSome t.unborn (λ target. name ≢ codes "HEAD") → AreSoundReferences format (with_ref entry t)
named_sound format t last entry name h is same after named of other =
    one_more_sound format t last entry h is (ap (comes_after last) same ∙ after) (subst (λ (n : List ℕ). IsNamed n entry.target) (sym same) named) of
    (λ target there head. other target there (sym same ∙ head))
