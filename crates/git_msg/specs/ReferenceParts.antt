-- The results of the parts of the reader of reference lines.
use Rattle.std.specs.Prelude.{◌≡◌, ℕ, ◌-◌, Option, Some, None, List, ◌∷◌, ◌++◌, length, codes}
use Rattle.std.specs.Option.{option_map}
use Rattle.git_names.specs.ObjectName.{ObjectName}
use Rattle.git_names.specs.declared.object_format.Format.{Format}
use Rattle.git_names.specs.RefName.{IsRefName}
use Rattle.git_msg.specs.declared.reference_places.Part.{Part}
use Rattle.git_msg.specs.declared.reference_places.ReferencePlaces.{ReferencePlaces}
use Rattle.git_msg.specs.Texts.{IsCutAt, IsLeftOf, IsPartedAt, parts_left, spaced_words}
use Rattle.git_msg.specs.References.{AreAttributes, IsAttribute, IsIdText, IsMaybeObjectName, PartFits, part_of, value_behind}

-- the first word of the text is that of this object, or `unborn`, and this comes after the space that ends the word
pub record BeginsWithId (format : Format) (text : List ℕ) (id : Option ObjectName) (rest : List ℕ) : Type 0 where
  pub word : List ℕ
  pub words : spaced_words text ≡ word ∷ spaced_words rest
  pub parted : IsPartedAt 32 text word rest
  pub is_id : IsIdText format word id

-- the first word of the text is this reference name, and this is left after it
pub record BeginsWithName (text name : List ℕ) (left : Option (List ℕ)) : Type 0 where
  pub words : spaced_words text ≡ name ∷ parts_left 32 left
  pub cut : IsCutAt 32 text name left
  pub is_name : IsRefName name

-- the first word of the text is no reference name
pub record BeginsWithNoName (text : List ℕ) : Type 0 where
  pub word : List ℕ
  pub others : List (List ℕ)
  pub words : spaced_words text ≡ word ∷ others
  pub no_name : ¬ IsRefName word

-- the place of a target after one more attribute, which has this target or none, and ends there
abbrev pub target_with : Option (List ℕ) → ℕ → Option Part → Option Part
target_with None end target = target
target_with (Some name) end target = Some (record { start = end - length name; length = length name })

-- the peeled object after one more attribute, which has this text for one or none
abbrev pub IsPeeledWith : Format → Option (List ℕ) → Option ObjectName → Option ObjectName → Type 0
IsPeeledWith format None old new = new ≡ old
IsPeeledWith format (Some text) old new = IsMaybeObjectName format (Some text) new

-- the attribute passes, and these are the places after it
pub record IsFound (format : Format) (word : List ℕ) (end : ℕ) (old new : ReferencePlaces) : Type 0 where
  pub is_attribute : IsAttribute format word
  pub id : new.id ≡ old.id
  pub name_length : new.name_length ≡ old.name_length
  pub target : new.target ≡ target_with (value_behind (codes "symref-target:") word) end old.target
  pub peeled : IsPeeledWith format (value_behind (codes "peeled:") word) old.peeled new.peeled

-- the attributes pass, and these are their last values; a target is represented by its place in the text
pub record AreLocated (format : Format) (text : List ℕ) (words : List (List ℕ)) (target : Option Part) (peeled : Option ObjectName) : Type 0 where
  pub attributes : AreAttributes format words (option_map (part_of text) target) peeled
  pub fits : PartFits (length text) target

-- some of the words were read, and these are left
pub record ReadSoFar (format : Format) (text : List ℕ) (whole : List (List ℕ)) (left : Option (List ℕ)) (target : Option Part)
    (peeled : Option ObjectName) : Type 0 where
  pub before : List (List ℕ)
  pub whole_is : whole ≡ before ++ parts_left 32 left
  pub left_is : IsLeftOf text left
  pub located : AreLocated format text before target peeled
