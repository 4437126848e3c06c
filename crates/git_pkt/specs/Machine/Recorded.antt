-- How a clause sees a `Recorded`, and how its calls change that.
use Rattle.std.specs.Prelude.{◌≡◌, ℕ, ◌==◌, Bool, false, not, ◌&&◌, List, length, Result, Ok, Err}
use Rattle.git_pkt.specs.declared.recorded.Recorded.{Recorded}

module _ {T : Type 0} where
  -- the reader or writer inside
  abbrev pub inner_of : Recorded T → T
  inner_of announced = announced.inner

  -- how many reads were made, or `u64::MAX` if there were more
  abbrev pub reads_of : Recorded T → ℕ
  reads_of announced = announced.reads

  -- a call has failed
  abbrev pub has_failed : Recorded T → Bool
  has_failed announced = announced.has_failed

  -- a read into a non-empty buffer returned no bytes
  abbrev pub has_ended : Recorded T → Bool
  has_ended announced = announced.has_ended

  -- a read was made that could not return any bytes: into an empty buffer, or after the end of the input
  abbrev pub has_wasted : Recorded T → Bool
  has_wasted announced = announced.has_wasted

  -- nothing has been done yet
  pub record IsNew (announced : Recorded T) : Type 0 where
    pub unread : reads_of announced ≡ 0
    pub sound : has_failed announced ≡ false
    pub open_ended : has_ended announced ≡ false
    pub useful : has_wasted announced ≡ false

  -- no read was made
  pub record ReadsNothing (old new : Recorded T) : Type 0 where
    pub reads : reads_of new ≡ reads_of old
    pub ended : has_ended new ≡ has_ended old
    pub wasted : has_wasted new ≡ has_wasted old

-- a read into this buffer returned no bytes, though the buffer is not empty
abbrev pub gave_nothing : {E : Type 0} → Result ℕ E → List ℕ → Bool
gave_nothing (Ok n) buf = (n == 0) && not (length buf == 0)
gave_nothing (Err e) buf = false
