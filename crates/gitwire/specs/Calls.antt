-- What a call does to its handle, by what the handle has before and after.
use Rattle.std.specs.Prelude.{◌≡◌, ℕ, List, Option, Some, None, IsSomeAnd}
use Rattle.gitwire.specs.Answers.{answering}
use Rattle.gitwire.specs.declared.answer.GitwireAnswer.{GitwireAnswer}
use Rattle.gitwire.specs.declared.answer.What.{What}
use Rattle.gitwire.specs.declared.answer.What.TheVariants.{Done, NoRequest, OutOfMemory}

-- the handle has nothing: that is reported, and the buffer is unchanged
abbrev pub HasNone : List ℕ → GitwireAnswer → List ℕ → Type 0
HasNone buffer answer filled = (answer ≡ answering NoRequest) × (filled ≡ buffer)

module _ {X : Type 0} where
  -- the handle has the value; or memory ran out, and it has none
  abbrev pub IsMade : What → X → Option X → Type 0
  IsMade answer value None = answer ≡ OutOfMemory
  IsMade answer value (Some made) = (answer ≡ Done) × (made ≡ value)

  -- the call does this to what the handle has; or the handle has nothing, and this holds
  abbrev pub On : Option X → Option X → (X → X → Type 0) → Type 0 → Type 0
  On None new does otherwise = otherwise × (new ≡ None)
  On (Some old) new does otherwise = IsSomeAnd new (does old)

  -- the call asks this about what the handle has, which stays; or the handle has nothing, and this holds
  abbrev pub Of : Option X → Option X → (X → Type 0) → Type 0 → Type 0
  Of None new holds otherwise = otherwise × (new ≡ None)
  Of (Some had) new holds otherwise = (new ≡ Some had) × holds had
