-- The bound on the steps of a machine that reads packets from chunks of any size.
use Rattle.std.specs.Prelude.{◌≡◌, ℕ, ◌+◌, ◌*◌, ◌≤◌, List, [], ◌∷◌}
use Rattle.git_pkt.specs.Machine.PacketReader.{open_length}
use Rattle.git_pkt.specs.declared.reader.PacketReader.{PacketReader}

-- the steps that the bytes of the open packet leave for its end: 56 for each
abbrev pub credit_of : PacketReader → ℕ
credit_of reader = 56 * open_length reader

-- a call of `feed` that used so many bytes took the counter from `before` to `after`, and the credit from `credit` to `left`
pub record Pays (used before after credit left : ℕ) : Type 0 where
  pub rises : before ≤ after
  pub within : after + left ≤ before + credit + 64 * (used + 1)

-- calls that used so many bytes did so; `feeds` of them were calls of `feed`
pub record ArePaid (used feeds before after credit left : ℕ) : Type 0 where
  pub rises : before ≤ after
  pub within : after + left ≤ before + credit + 64 * (used + feeds)

-- the calls of a machine were made one after the other: `Makes` states what each does to the counter and to the machine
abbrev pub MakesAll : {C M : Type 0} → (C → ℕ → M → ℕ → M → Type 0) → List C → ℕ → M → ℕ → M → Type 0
MakesAll Makes [] before old after new = (after ≡ before) × (new ≡ old)
MakesAll {M = M} Makes (call ∷ calls) before old after new =
    (next : ℕ) × (between : M) × Makes call before old next between × MakesAll Makes calls next between after new
