-- Calls of a client of any object format, one after the other.
use Rattle.std.specs.Prelude.{◌≡◌, ℕ, List, [], ◌∷◌}
use Rattle.git_names.specs.declared.object_format.Format.{Format}
use Rattle.git_client.specs.Parts.{Terms, in_format}
use Rattle.git_client.specs.Machine.Calls.{Call, Makes}
use Rattle.git_client.specs.Machine.Choosing.{ChoosesFormat}
use Rattle.git_client.specs.Machine.Client.{format_of}
use Rattle.git_client.specs.declared.client.Client.{Client}

-- a call of `choose_format`, with the format that the client then has, or another call
pub data AnyCall (A : Type 0) : Type 0 where
  choose : Format → AnyCall A
  other : Call A → AnyCall A

module _ {A : Type 0} where
  -- each call changed the client as the contract of its method states
  abbrev pub MakesAny : AnyCall A → ℕ → Client A → ℕ → Client A → Type 0
  MakesAny (choose format) before old after new = ChoosesFormat old new × (format_of new ≡ format) × (after ≡ before)
  MakesAny (other call) before old after new = Makes call before old after new

  -- the calls that are not of `choose_format`: only these change the history
  abbrev pub others_of : List (AnyCall A) → List (Call A)
  others_of [] = []
  others_of (choose format ∷ calls) = others_of calls
  others_of (other call ∷ calls) = call ∷ others_of calls

  -- the terms of the conversation after the calls, with the format that was chosen last
  abbrev pub terms_after : Terms → List (AnyCall A) → Terms
  terms_after t [] = t
  terms_after t (choose format ∷ calls) = terms_after (in_format format t) calls
  terms_after t (other call ∷ calls) = terms_after t calls
