-- What is left of a chunk after some of its bytes were used.
use Rattle.std.proofs.Common.{arith, ◌≡◌, ℕ, ◌+◌, ◌-◌, ◌≤◌, List, length, take, drop, ap, ◌∙◌, length-drop}
use Rattle.git_pkt.specs.Machine.PacketReader.{ShownByFeed}
use Rattle.git_pkt.specs.declared.fault.Fault.{Fault}
use Rattle.git_pkt.proofs.Chunks.{left_of}

-- these bytes, as a slice shows them
abbrev pub left_bytes : List ℕ → ℕ → List ℕ
left_bytes chunk done = take (length chunk - done) (drop done chunk)

module _ (chunk : List ℕ) (done : ℕ) (within : done ≤ length chunk) where
  pub left_length : length (left_bytes chunk done) ≡ length chunk - done
  left_length = ap length (left_of chunk done within) ∙ length-drop done chunk

  -- some more of them are used
  pub within_further : (more : ℕ) → more ≤ length (left_bytes chunk done) → done + more ≤ length chunk
  within_further more few = omega (arith, within, few, left_length)

  -- a fault that they show, the chunk shows
  pub shown_further : (fault : Fault) (more : ℕ) → ShownByFeed fault more (left_bytes chunk done) → ShownByFeed fault (done + more) chunk
  shown_further fault more shown = record {
    not_the_end = shown.not_the_end;
    one_more = λ long. omega (arith, shown.one_more long, left_length);
  }
