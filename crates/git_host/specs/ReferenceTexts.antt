-- A reference by its texts, the reference that they are, and its line.
use Rattle.std.specs.Prelude.{◌≡◌, ◌⊎◌, ℕ, ◌≤◌, List, [], ◌∷◌, ◌++◌, codes, length, Option, Some, None}
use Rattle.std.specs.Option.{ForSome, option_copied, option_map}
use Rattle.git_names.specs.ObjectName.{IsNoObjectName, IsObjectName, ObjectName, hex_of}
use Rattle.git_names.specs.RefName.{IsRefName}
use Rattle.git_names.specs.declared.object_format.Format.{Format}
use Rattle.git_pkt.specs.Packets.{Pkt}
use Rattle.git_msg.specs.References.{IsMaybeObjectName}
use Rattle.git_msg.specs.WrittenRequest.{text_line}
use Rattle.git_server.specs.Repository.{Entry, IsNamed}
use Rattle.git_host.specs.declared.reference_texts.ReferenceTexts.{ReferenceTexts}
use Rattle.git_host.specs.declared.report.ReferenceFault.{ReferenceFault}
use Rattle.git_host.specs.declared.report.ReferenceFault.TheVariants.{BadObjectName, BadRefName, OutOfMemory}

-- the digits of a reference's object and its name; the name that it points to, and the digits of the object that it peels to, if it has them
pub record Texts : Type 0 where
  pub digits : List ℕ
  pub name : List ℕ
  pub target : Option (List ℕ)
  pub peeled : Option (List ℕ)

abbrev pub texts_with : (name digits : List ℕ) (target peeled : Option (List ℕ)) → Texts
texts_with name digits target peeled = record { digits = digits; name = name; target = target; peeled = peeled }

-- those that are lent
abbrev pub texts_of : ReferenceTexts → Texts
texts_of t = record { digits = t.digits.now; name = t.name.now; target = option_copied t.target; peeled = option_copied t.peeled }

-- they are this reference
pub record SpellsEntry (format : Format) (texts : Texts) (entry : Entry) : Type 0 where
  pub is_id : IsObjectName format texts.digits entry.id
  pub name_is : entry.name ≡ texts.name
  pub target_is : entry.target ≡ texts.target
  pub named : IsNamed texts.name texts.target
  pub is_peeled : IsMaybeObjectName format texts.peeled entry.peeled

-- the digits name an object of the format
abbrev pub HasObject : Format → List ℕ → Type 0
HasObject format digits = (id : ObjectName) × IsObjectName format digits id

-- there is a target, which is no reference name
abbrev pub HasBadTarget : Option (List ℕ) → Type 0
HasBadTarget target = (text : List ℕ) × (target ≡ Some text) × ¬ IsRefName text

-- there are digits of a peeled object, which are no object name of the format
abbrev pub HasBadPeeled : Format → Option (List ℕ) → Type 0
HasBadPeeled format peeled = (text : List ℕ) × (peeled ≡ Some text) × IsNoObjectName format text

-- why they are no reference: they are checked from left to right
abbrev pub RefusesTexts : Format → Texts → ReferenceFault → Type 0
RefusesTexts format texts BadObjectName =
    IsNoObjectName format texts.digits ⊎ (HasObject format texts.digits × IsNamed texts.name texts.target × HasBadPeeled format texts.peeled)
RefusesTexts format texts BadRefName =
    HasObject format texts.digits × (¬ IsRefName texts.name ⊎ (IsRefName texts.name × HasBadTarget texts.target))
RefusesTexts format texts OutOfMemory = (entry : Entry) × SpellsEntry format texts entry

-- why a reference is refused by its name alone
abbrev pub RefusesName : ReferenceFault → List ℕ → Type 0
RefusesName BadRefName name = ¬ IsRefName name
RefusesName OutOfMemory name = IsRefName name
RefusesName BadObjectName name = ⊥

-- the target, if there is one, is a reference name, and the object that is peeled to, if there is one, has these digits in lower case
pub record AreAttributes (format : Format) (target peeled digits : Option (List ℕ)) : Type 0 where
  pub by_target : ForSome target IsRefName
  pub id : Option ObjectName
  pub is_peeled : IsMaybeObjectName format peeled id
  pub written : digits ≡ option_map hex_of id

-- or one of both is refused, the target first
abbrev pub RefusesAttributes : Format → (target peeled : Option (List ℕ)) → ReferenceFault → Type 0
RefusesAttributes format target peeled BadRefName = HasBadTarget target
RefusesAttributes format target peeled BadObjectName = ForSome target IsRefName × HasBadPeeled format peeled
RefusesAttributes format target peeled OutOfMemory = ⊥

-- what a line has of an attribute: this word and its text, if it has one
abbrev pub attribute_text : List ℕ → Option (List ℕ) → List ℕ
attribute_text word None = []
attribute_text word (Some text) = word ++ text

-- the line with these texts, whose digits are in lower case
abbrev pub texts_line : Texts → Pkt
texts_line t = text_line (t.digits ++ 32 ∷ (t.name ++ attribute_text (codes " symref-target:") t.target ++ attribute_text (codes " peeled:") t.peeled))

-- such a line fits into a packet
pub record FitLine (texts : Texts) : Type 0 where
  pub digits : length texts.digits ≤ 64
  pub name : length texts.name ≤ 32000
  pub target : length (attribute_text (codes " symref-target:") texts.target) ≤ 32015
  pub peeled : length (attribute_text (codes " peeled:") texts.peeled) ≤ 72
