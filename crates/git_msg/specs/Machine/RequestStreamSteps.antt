-- The effect of the bytes up to a packet on a reader of requests from bytes.
use Rattle.std.specs.Prelude.{◌≡◌, ◌<◌, ℕ, true, List, ◌++◌, take}
use Rattle.git_msg.specs.Asked.{Asked}
use Rattle.git_msg.specs.Machine.RequestStreams.{EndsWith, HasRead, Leaves, IsNews, asked_by, offer_of, limit_of, wants_input}
use Rattle.git_msg.specs.declared.streams.RequestStream.{RequestStream}
use Rattle.git_msg.specs.declared.streams.ReadRequest.{ReadRequest}
use Rattle.git_msg.specs.declared.reader.ReadGot.{ReadGot}
use Rattle.git_msg.specs.declared.reader.ReadGot.TheVariants.{More}

module _ {A : Type 0} where
  -- the state of the reader after a step; if the request goes on, some bytes were used
  abbrev pub StepLeaves : ReadGot A → ℕ → List ℕ → RequestStream A → RequestStream A → Type 0
  StepLeaves More used chunk old new = (0 < used) × (wants_input new ≡ true)
  StepLeaves got used chunk old new = Leaves got used chunk old new

  -- the effect of the bytes up to a packet, or of all of them
  pub record Steps (old : RequestStream A) (chunk : List ℕ) (read : ReadRequest A) (new : RequestStream A) : Type 0 where
    pub reads : (used : List ℕ) (asked : List Asked) → HasRead used asked old → HasRead (used ++ take read.used chunk) (asked ++ asked_by read.got) new
    pub counts : (used : List ℕ) (asked : List Asked) → HasRead used asked old → EndsWith read.got (used ++ take read.used chunk) new
    pub leaves : StepLeaves read.got read.used chunk old new
    pub news : IsNews old chunk read
    pub offer : offer_of new ≡ offer_of old
    pub limit : limit_of new ≡ limit_of old
