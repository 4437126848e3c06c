-- Names that may be missing.
use Rattle.std.proofs.Common.{◌≡◌, ◌≢◌, ℕ, List, [], ◌∷◌, Option, Some, None, subst, refl, ◌∙◌, ap}
use Rattle.git_names.specs.ObjectName.{ObjectName, IsObjectName}
use Rattle.git_names.specs.RefName.{IsRefName}
use Rattle.git_names.specs.declared.object_format.Format.{Format}
use Rattle.git_msg.specs.References.{IsMaybeObjectName, reference_of, reference_text}
use Rattle.git_msg.specs.WrittenRequest.{text_line}
use Rattle.gitwire.specs.WrittenForC.{given}

-- a name that was passed is a reference name if the text is one
pub given_name : (text name : List ℕ) → given text ≡ Some name → (text ≢ [] → IsRefName text) → IsRefName name
given_name [] name same is_name = absurd cc
given_name (byte ∷ bytes) name same is_name =
    let bytes_are : byte ∷ bytes ≡ name = cc in
    subst IsRefName bytes_are (is_name (λ none. cc))

-- an object name that was passed has its format
pub given_format : (format : Format) (digits : Option (List ℕ)) (named : Option ObjectName) (id : ObjectName)
    → IsMaybeObjectName format digits named → named ≡ Some id → id.format ≡ format
given_format format None named id none same = absurd cc
given_format format (Some digits) named id (other, is_id, found) same =
    let ids_are : other ≡ id = cc in
    subst (λ (id : ObjectName). id.format ≡ format) ids_are is_id.of_format

-- what C passes is accepted if it names an object or there is nothing
pub maybe_passes : (format : Format) (digits : List ℕ) (named : Option ObjectName)
    → IsMaybeObjectName format (given digits) named → digits ≢ [] → (id : ObjectName) × IsObjectName format digits id
maybe_passes format [] named names some = absurd (some refl)
maybe_passes format (byte ∷ bytes) named names some = (names.0, names.1)

-- the line of a reference, where its texts are these
pub reference_line : (id peeled : Option ObjectName) {name other : List ℕ} {target others : Option (List ℕ)}
    → name ≡ other → target ≡ others → text_line (reference_text (reference_of id name target peeled)) ≡ text_line (reference_text (reference_of id other
    others peeled))
reference_line id peeled {name} {other} {target} {others} same_name same_target =
    ap (λ name. text_line (reference_text (reference_of id name target peeled))) same_name
    ∙ ap (λ target. text_line (reference_text (reference_of id other target peeled))) same_target
