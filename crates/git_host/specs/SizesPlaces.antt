-- How far an answer about sizes has come, by what was reported and what was sent.
use Rattle.std.specs.Prelude.{◌≡◌, ℕ, ◌<◌, ◌≤◌, Bool, true, false, List, [], ◌∷◌, ◌++◌, length, Option, codes}
use Rattle.git_names.specs.ObjectName.{ObjectName}
use Rattle.git_pkt.specs.Packets.{Pkt, flush}
use Rattle.git_msg.specs.Arguments.{Arg}
use Rattle.git_msg.specs.Asked.{oids_in}
use Rattle.git_msg.specs.Kept.{Kept}
use Rattle.git_msg.specs.ResponseLines.{info_text}
use Rattle.git_msg.specs.WrittenRequest.{text_line}
use Rattle.git_host.specs.FetchPlaces.{Holds}
use Rattle.git_host.specs.declared.sizes_answer.SizesPlace.{SizesPlace}
use Rattle.git_host.specs.declared.sizes_answer.SizesPlace.TheVariants.{Header, Object, Whole}
use Rattle.git_host.specs.declared.sizes_answer.SizesStep.{SizesStep}
use Rattle.git_host.specs.declared.sizes_answer.SizesStep.TheVariants.{Packet, AskSize, Whole as AllGiven}
use Rattle.git_host.specs.declared.sizes_answer.SizesAnswer.{SizesAnswer}

-- the line of an object
abbrev pub size_line : Option ℕ → ObjectName → Pkt
size_line size id = text_line (info_text (record { id = id; size = size }))

-- the lines of the objects whose sizes were reported by their places
abbrev pub size_lines : List (Option ℕ) → List ObjectName → List Pkt
size_lines (size ∷ sizes) (id ∷ ids) = size_line size id ∷ size_lines sizes ids
size_lines _ _ = []

-- the size of each object was reported, and the packets are the answer by these sizes
pub record IsSizesAnswerOf (q : List Arg) (sizes : List (Option ℕ)) (packets : List Pkt) : Type 0 where
  pub all : length sizes ≡ length (oids_in q)
  pub packets_are : packets ≡ text_line (codes "size") ∷ (size_lines sizes (oids_in q) ++ flush ∷ [])

pub record AtObject (at : ℕ) (q : List Arg) (sizes : List (Option ℕ)) (given : List Pkt) : Type 0 where
  pub so_far : length sizes ≡ at
  pub within : at ≤ length (oids_in q)
  pub given_is : given ≡ text_line (codes "size") ∷ size_lines sizes (oids_in q)

abbrev pub StandsAtSizes : SizesPlace → List Arg → List (Option ℕ) → List Pkt → Type 0
StandsAtSizes Header q sizes given = (sizes ≡ []) × (given ≡ [])
StandsAtSizes (Object at) q sizes given = AtObject at q sizes given
StandsAtSizes Whole q sizes given = IsSizesAnswerOf q sizes given

module _ {A : Type 0} where
  abbrev pub sizes_request : SizesAnswer A → Kept (List Arg)
  sizes_request answer = answer.request

  abbrev pub sizes_asked : SizesAnswer A → List Arg
  sizes_asked answer = answer.request.asked

  -- these sizes were reported, and these packets were sent
  abbrev pub RepresentsSizes : List (Option ℕ) → List Pkt → SizesAnswer A → Type 0
  RepresentsSizes sizes given answer = StandsAtSizes answer.place (sizes_asked answer) sizes given

  -- the size of the object at this place is asked
  abbrev pub IsAsking : SizesAnswer A → ℕ → Type 0
  IsAsking answer at = (answer.place ≡ Object at) × (at < length (oids_in (sizes_asked answer)))

  -- whether a size is asked
  abbrev pub Asks : SizesAnswer A → Bool → Type 0
  Asks answer true = (at : ℕ) × IsAsking answer at
  Asks answer false = (at : ℕ) → IsAsking answer at → ⊥

  -- the sizes become these, and these bytes are the next packet
  pub record GivesSize (with : List (Option ℕ) → List (Option ℕ)) (old : SizesAnswer A) (bytes : List ℕ) (new : SizesAnswer A) : Type 0 where
    pub same : sizes_request new ≡ sizes_request old
    pub gives : (sizes : List (Option ℕ)) (given : List Pkt) → RepresentsSizes sizes given old
        → (packet : Pkt) × Holds bytes packet × RepresentsSizes (with sizes) (given ++ packet ∷ []) new

  -- where a size is asked, `next` asks it again, and nothing changes
  abbrev pub AsksStill : SizesAnswer A → SizesStep → SizesAnswer A → Type 0
  AsksStill old step new = (at : ℕ) → IsAsking old at → (step ≡ AskSize at) × (new ≡ old)

  abbrev pub StepsSizes : SizesAnswer A → SizesStep → List ℕ → SizesAnswer A → Type 0
  StepsSizes old Packet bytes new = GivesSize (λ sizes. sizes) old bytes new
  StepsSizes old (AskSize at) bytes new = (new ≡ old) × IsAsking old at
  StepsSizes old AllGiven bytes new =
      (new ≡ old) × ((sizes : List (Option ℕ)) (given : List Pkt) → RepresentsSizes sizes given old → IsSizesAnswerOf (sizes_asked old) sizes given)

  -- what the report of a size does: where none is asked nothing changes
  abbrev pub Sizes : Option ℕ → SizesAnswer A → Bool → List ℕ → SizesAnswer A → Type 0
  Sizes size old true bytes new = ((at : ℕ) × IsAsking old at) × GivesSize (λ sizes. sizes ++ size ∷ []) old bytes new
  Sizes size old false bytes new = (new ≡ old) × ((at : ℕ) → IsAsking old at → ⊥)
