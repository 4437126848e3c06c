-- A reader whose hold was lent between two packets reads on as before.
use Rattle.std.proofs.Common.{◌≡◌, ◌≤◌, ℕ, Bool, true, false, List, Option, Some, None, refl, sym, ◌∙◌}
use Rattle.arrayvec.specs.ArrayVec.{ArrayVec}
use Rattle.git_pkt.specs.Splits.{Given}
use Rattle.git_pkt.specs.Machine.ReaderState.{is_open_in}
use Rattle.git_pkt.specs.Machine.PacketReader.{Reads, StandsAt, bytes_held, fault_of, is_open}
use Rattle.git_pkt.specs.Machine.LentHold.{with_hold, with_hold_by}
use Rattle.git_pkt.specs.declared.fault.Fault.{Fault}
use Rattle.git_pkt.specs.declared.reader.PacketReader.{PacketReader}
use Rattle.git_pkt.proofs.ReaderMoves.{gathers_between, rest_of_shut}
use Rattle.git_pkt.proofs.KnownRest.{held_rest, none_between}

stands_lent : (fault : Option Fault) (p end : ℕ) (rest : List ℕ) (old new : PacketReader) → is_open old ≡ false → is_open new ≡ false
    → StandsAt fault p end rest old → StandsAt fault p end rest new
stands_lent None p end rest old new shut still h =
    (held_rest new rest (gathers_between new still) (rest_of_shut new still ∙ sym (none_between old rest h.0 shut)), h.1)
stands_lent (Some fault) p end rest old new shut still h = (still, h.1)

lent_by : (r : PacketReader) (hold : ArrayVec ℕ) (b : Bool) (e : is_open_in r.state ≡ b) → bytes_held (with_hold_by r hold b e) ≤ 65520 → b ≡ false
    → (start : ℕ) (bytes : List ℕ) (given : List Given) (rest : List ℕ) → Reads r start bytes given rest
    → Reads (with_hold_by r hold b e) start bytes given rest
lent_by r hold true e fits shut start bytes given rest h = absurd (cc)
lent_by r hold false e fits shut start bytes given rest h = record {
  position = h.position;
  within = h.within;
  fits = fits;
  splits = h.splits;
  state = stands_lent (fault_of r) _ _ rest r (with_hold_by r hold false e) e e h.state;
}

pub lent_reads : (r : PacketReader) (hold : ArrayVec ℕ) → bytes_held (with_hold r hold) ≤ 65520 → is_open r ≡ false
    → (start : ℕ) (bytes : List ℕ) (given : List Given) (rest : List ℕ) → Reads r start bytes given rest
    → Reads (with_hold r hold) start bytes given rest
lent_reads r hold fits shut = lent_by r hold (is_open_in r.state) refl fits shut
