-- The reference that texts of C are, or why they are none.
use Rattle.std.proofs.Common.{arith, ◌≡◌, ◌≢◌, ℕ, List, [], ◌∷◌, length, Some, Err, refl, inl, inr}
use Rattle.std.specs.Option.{ForSome}
use Rattle.std.proofs.lemmas.List.{length-take}
use Rattle.git_names.specs.RefName.{IsRefName}
use Rattle.git_names.specs.declared.object_format.Format.{Format}
use Rattle.git_server.specs.Repository.{Entry}
use Rattle.git_host.specs.HostAnswers.{part_of}
use Rattle.git_host.specs.ReferenceTexts.{RefusesTexts, SpellsEntry, Texts, texts_with}
use Rattle.git_host.specs.declared.report.ReferenceFault.{ReferenceFault}
use Rattle.git_host.specs.declared.report.ReferenceFault.TheVariants.{BadObjectName, BadRefName, OutOfMemory}
use Rattle.gitwire.specs.HostAnswers.{IsEntryOf, IsEntryRead, unread_by}
use Rattle.gitwire.specs.WrittenForC.{given}

-- a text that C passes, if it has bytes
given_some : (text value : List ℕ) → given text ≡ Some value → (text ≢ []) × (value ≡ text)
given_some [] value same = absurd cc
given_some (byte ∷ bytes) value same = (λ none. cc, cc)

given_holds : (P : List ℕ → Type 0) (text : List ℕ) → ForSome (given text) P → text ≢ [] → P text
given_holds P [] holds some = absurd (some refl)
given_holds P (byte ∷ bytes) holds some = holds (byte ∷ bytes) refl

-- what C passes for a reference
abbrev pub passed_texts : (digits name target peeled : List ℕ) → Texts
passed_texts digits name target peeled = texts_with name digits (given target) (given peeled)

pub passed_read : (format : Format) (digits name target peeled : List ℕ) (entry : Entry)
    → SpellsEntry format (passed_texts digits name target peeled) entry → IsEntryOf format digits name target peeled entry
passed_read format digits name target peeled entry spells = record {
  is_id = spells.is_id;
  name_is = spells.name_is;
  is_name = spells.named.by_name;
  target_is = spells.target_is;
  is_target = given_holds IsRefName target spells.named.by_target;
  is_peeled = spells.is_peeled;
}

pub passed_unread : (format : Format) (digits name target peeled : List ℕ) (fault : ReferenceFault)
    → RefusesTexts format (passed_texts digits name target peeled) fault
    → IsEntryRead format digits name target peeled (Err (unread_by fault))
passed_unread format digits name target peeled BadObjectName (inl none) = inl (none, refl)
passed_unread format digits name target peeled BadObjectName (inr (object, named, (text, there, none))) =
    let (some, same) = given_some peeled text there in
    inr (object, inr (named.by_name, inr (given_holds IsRefName target named.by_target, inl (some, (rw same at none, refl)))))
passed_unread format digits name target peeled BadRefName (object, inl bad) = inr (object, inl (bad, refl))
passed_unread format digits name target peeled BadRefName (object, inr (named, (text, there, bad))) =
    let (some, same) = given_some target text there in
    inr (object, inr (named, inl (some, (rw same at bad, refl))))
passed_unread format digits name target peeled OutOfMemory h = tt

-- no bytes are a part of none
pub no_part : length (part_of []) ≡ 0
no_part = let none : List ℕ = [] in omega (arith, length-take 65515 none)
