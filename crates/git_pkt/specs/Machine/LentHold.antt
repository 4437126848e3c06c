-- The final state of a reader whose hold was lent.
use Rattle.std.specs.Prelude.{◌≡◌, ℕ, Bool, true, false, refl}
use Rattle.std.specs.Borrow.{Lends, MutBor, Fml, u8, unit}
use denote.Param.{number}
use Rattle.arrayvec.specs.ArrayVec.{ArrayVec}
use Rattle.arrayvec.specs.contracts.array_vec.ArrayVec.{the_row as array_vec_row}
use Rattle.git_pkt.specs.Machine.ReaderState.{is_open_in, gathers_in, passes_in}
use Rattle.git_pkt.specs.declared.reader.PacketReader.{PacketReader}
use Rattle.git_pkt.specs.declared.reader.State.{State}
use Rattle.git_pkt.specs.declared.reader.State.TheVariants.{Between, Gathering, Passing, Failed}
use Rattle.git_pkt.specs.contracts.reader.PacketReader.{the_row}

pub shut_not_gathering : (s : State) → is_open_in s ≡ false → gathers_in s ≡ true → ⊥
shut_not_gathering Between e h = cc
shut_not_gathering (Gathering n) e h = cc
shut_not_gathering (Passing left) e h = cc
shut_not_gathering (Failed fault) e h = cc

pub shut_not_passing : (s : State) → is_open_in s ≡ false → passes_in s ≡ true → ⊥
shut_not_passing Between e h = cc
shut_not_passing (Gathering n) e h = cc
shut_not_passing (Passing left) e h = cc
shut_not_passing (Failed fault) e h = cc

abbrev pub with_hold_by : (r : PacketReader) → ArrayVec ℕ → (b : Bool) → is_open_in r.state ≡ b → PacketReader
with_hold_by r w true e = r
with_hold_by r w false e = record r {
  hold = w;
  gathered = λ h. absurd (shut_not_gathering r.state e h);
  passing = λ h. absurd (shut_not_passing r.state e h);
}

-- the reader with another hold, if no packet is open; otherwise the reader itself
abbrev pub with_hold : PacketReader → ArrayVec ℕ → PacketReader
with_hold r w = with_hold_by r w (is_open_in r.state) refl

-- once the borrow ends, the reader's hold is what the borrower left in it
abbrev pub LendsHold : MutBor PacketReader → MutBor (ArrayVec ℕ) → Fml
LendsHold r hold = Lends the_row (array_vec_row u8 (number 65520) unit) r hold (with_hold r.now)
