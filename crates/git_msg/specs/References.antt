-- Reference lines, as in the answers to ls-refs.
use Rattle.std.specs.Prelude.{◌≡◌, ◌≢◌, ℕ, ◌+◌, ◌≤◌, IfSome, Option, Some, None, List, [], ◌∷◌, ◌++◌, length, take, drop, codes, if◌then◌else◌}
use Rattle.std.specs.List.{filter_map}
use Rattle.std.specs.Str.{bytes_eq}
use Rattle.std.specs.Option.{option_copied, option_map}
use Rattle.git_names.specs.ObjectFormat.{digits_of}
use Rattle.git_names.specs.ObjectName.{ObjectName, IsObjectName, IsNoObjectName, hex_of}
use Rattle.git_names.specs.RefName.{IsRefName}
use Rattle.git_names.specs.declared.object_format.Format.{Format}
use Rattle.git_pkt.specs.declared.fault.Kind.{Kind}
use Rattle.git_pkt.specs.declared.fault.Kind.TheVariants.{BadLine, BadObjectName, BadRefName}
use Rattle.git_msg.specs.declared.reference_places.Part.{Part}
use Rattle.git_msg.specs.declared.reference_places.ReferencePlaces.{ReferencePlaces}
use Rattle.git_msg.specs.declared.references.Reference.{Reference}
use Rattle.git_msg.specs.Texts.{Follows, last_of, spaced_words}
use Rattle.git_msg.specs.Checks.{Check, check, Refuses, Passes}

-- a reference, wherever its texts lie: without an object if it is unborn, as `HEAD` is while its branch has no commit
pub record Ref : Type 0 where
  pub id : Option ObjectName
  pub name : List ℕ
  pub target : Option (List ℕ)
  pub peeled : Option ObjectName

abbrev pub reference_of : Option ObjectName → List ℕ → Option (List ℕ) → Option ObjectName → Ref
reference_of id name target peeled = record { id = id; name = name; target = target; peeled = peeled }

-- the reference that a borrowed one shows
abbrev pub shown_reference : Reference → Ref
shown_reference r = record { id = r.id; name = r.name.now; target = option_copied r.target; peeled = r.peeled }

-- the word for the object at the head of a line
abbrev pub id_text : Option ObjectName → List ℕ
id_text None = codes "unborn"
id_text (Some id) = hex_of id

-- the length of that word
abbrev pub id_length : Option ObjectName → ℕ
id_length None = length (codes "unborn")
id_length (Some id) = digits_of id.format

-- the word is this object name, or `unborn` if there is none
abbrev pub IsIdText : Format → List ℕ → Option ObjectName → Type 0
IsIdText format word None = word ≡ codes "unborn"
IsIdText format word (Some id) = IsObjectName format word id

-- the word is neither an object name nor `unborn`
abbrev pub IsNoIdText : Format → List ℕ → Type 0
IsNoIdText format word = (word ≢ codes "unborn") × IsNoObjectName format word

-- the part of the text at this place
abbrev pub part_of : List ℕ → Part → List ℕ
part_of text part = take part.length (drop part.start text)

-- the reference whose parts lie in the text at these places
abbrev pub reference_at : ReferencePlaces → List ℕ → Ref
reference_at places text = record {
  id = places.id;
  name = take places.name_length (drop (id_length places.id + 1) text);
  target = option_map (part_of text) places.target;
  peeled = places.peeled;
}

-- the place lies within a text of so many bytes
abbrev pub PartFits : ℕ → Option Part → Type 0
PartFits count part = IfSome part (λ p. p.start + p.length ≤ count)

-- the places lie within a text of so many bytes
pub record FitsIn (places : ReferencePlaces) (count : ℕ) : Type 0 where
  pub name : id_length places.id + 1 + places.name_length ≤ count
  pub target : PartFits count places.target

-- the text after the word, if it begins with the word
abbrev pub value_behind : List ℕ → List ℕ → Option (List ℕ)
value_behind word text = if bytes_eq (take (length word) text) word then Some (drop (length word) text) else None

-- the texts of the attributes with this key
abbrev pub values_of : List ℕ → List (List ℕ) → List (List ℕ)
values_of key attributes = filter_map (value_behind key) attributes

-- the rules for an attribute
pub record IsAttribute (format : Format) (word : List ℕ) : Type 0 where
  pub target : (value : List ℕ) → word ≡ codes "symref-target:" ++ value → IsRefName value
  pub peeled : (value : List ℕ) → word ≡ codes "peeled:" ++ value → (id : ObjectName) × IsObjectName format value id

-- the attribute is refused with this error
abbrev pub IsAttributeFault : Format → List ℕ → Kind → Type 0
IsAttributeFault format word BadRefName = Follows (codes "symref-target:") (λ value. ¬ IsRefName value) word
IsAttributeFault format word BadObjectName = Follows (codes "peeled:") (IsNoObjectName format) word
IsAttributeFault format word _ = ⊥

abbrev pub attribute_checks : Format → List (List ℕ) → List Check
attribute_checks format [] = []
attribute_checks format (word ∷ words) =
    record { refuses = IsAttributeFault format word; passes = IsAttribute format word } ∷ attribute_checks format words

-- the checks of a line of these words, from left to right
abbrev pub reference_checks : Format → List (List ℕ) → List Check
reference_checks format [] = check ⊥ (Unit {0}) BadLine ∷ []
reference_checks format (word ∷ []) = check ⊥ (Unit {0}) BadLine ∷ []
reference_checks format (id ∷ name ∷ attributes) =
    check ((named : Option ObjectName) × IsIdText format id named) (IsNoIdText format id) BadObjectName
    ∷ check (IsRefName name) (¬ IsRefName name) BadRefName ∷ attribute_checks format attributes

-- an object name that may be missing
abbrev pub IsMaybeObjectName : Format → Option (List ℕ) → Option ObjectName → Type 0
IsMaybeObjectName format None id = id ≡ None
IsMaybeObjectName format (Some text) id = (named : ObjectName) × IsObjectName format text named × (id ≡ Some named)

-- the content of a line's attributes: if one is repeated, the last counts
pub record AreAttributes (format : Format) (attributes : List (List ℕ)) (target : Option (List ℕ)) (peeled : Option ObjectName) : Type 0 where
  pub passes : Passes (attribute_checks format attributes)
  pub target_is : target ≡ last_of (values_of (codes "symref-target:") attributes)
  pub peeled_is : IsMaybeObjectName format (last_of (values_of (codes "peeled:") attributes)) peeled

-- the line is this reference
pub record IsReferenceLine (format : Format) (text : List ℕ) (ref : Ref) : Type 0 where
  pub id : List ℕ
  pub attributes : List (List ℕ)
  pub words : spaced_words text ≡ id ∷ ref.name ∷ attributes
  pub id_is : IsIdText format id ref.id
  pub name_is : IsRefName ref.name
  pub attributes_are : AreAttributes format attributes ref.target ref.peeled

-- the line is refused with this error
abbrev pub IsReferenceFault : Format → List ℕ → Kind → Type 0
IsReferenceFault format text kind = Refuses (reference_checks format (spaced_words text)) kind

abbrev pub target_text : Option (List ℕ) → List ℕ
target_text None = []
target_text (Some name) = codes " symref-target:" ++ name

abbrev pub peeled_text : Option ObjectName → List ℕ
peeled_text None = []
peeled_text (Some id) = codes " peeled:" ++ hex_of id

-- the length of that text
abbrev pub peeled_count : Option ObjectName → ℕ
peeled_count None = 0
peeled_count (Some id) = 8 + digits_of id.format

-- the line of a reference, as it is written
abbrev pub reference_text : Ref → List ℕ
reference_text ref = id_text ref.id ++ 32 ∷ (ref.name ++ target_text ref.target ++ peeled_text ref.peeled)

-- the object names of a reference are of the format
pub record HasFormat (format : Format) (ref : Ref) : Type 0 where
  pub by_id : (id : ObjectName) → ref.id ≡ Some id → id.format ≡ format
  pub by_peeled : (id : ObjectName) → ref.peeled ≡ Some id → id.format ≡ format

-- a reference whose line reads back as it is: its texts are reference names, and its object names are of one format
pub record IsWritable (ref : Ref) : Type 0 where
  pub name : IsRefName ref.name
  pub target : (name : List ℕ) → ref.target ≡ Some name → IsRefName name
  pub one_format : (format : Format) × HasFormat format ref
