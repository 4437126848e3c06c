-- Calls of a reader and of a writer, and how a wrapper combines many of them.
use Rattle.std.specs.Prelude.{◌≡◌, ◌≢◌, ℕ, zero, suc, ◌<◌, List, [], length, drop, Result, Ok, Err, MatchResult, IfErr, IsErrAnd, ◌⊎◌, ◌-◌, ◌^◌}
use Rattle.std.specs.IoError.{error_kind}
use Rattle.std.specs.declared.io.Error.{Error}
use Rattle.std.specs.declared.io.ErrorKind.TheVariants.{Interrupted, Other, WriteZero}

-- a read: the reader and the buffer before it, its result, and both after it
abbrev pub ReadCall : Type 0 → Type 1
ReadCall R = R → List ℕ → Result ℕ Error → List ℕ → R → Type 0

-- a write: the writer before it, the bytes passed to it, its result, and the writer after it
abbrev pub WriteCall : Type 0 → Type 1
WriteCall W = W → List ℕ → Result ℕ Error → W → Type 0

-- a flush
abbrev pub FlushCall : Type 0 → Type 1
FlushCall W = W → Result (Unit {0}) Error → W → Type 0

module _ {R : Type 0} where
  -- a read that a run makes: it passes on how many bytes came, or that the read failed
  abbrev pub Receives : {F : Type 0} → ReadCall R → R → List ℕ → Result ℕ F → List ℕ → R → Type 0
  Receives read old before result after new =
      MatchResult result (λ count. read old before (Ok count) after new) (λ _. (error : Error) × read old before (Err error) after new)

  -- so many reads were made, and each was interrupted
  abbrev pub AreInterrupted : ReadCall R → ℕ → R → List ℕ → List ℕ → R → Type 0
  AreInterrupted read zero old before after new = (after ≡ before) × (new ≡ old)
  AreInterrupted read (suc count) old before after new =
      (reader : R) × (buffer : List ℕ) × (error : Error) × AreInterrupted read count old before buffer reader
      × read reader buffer (Err error) after new × (error_kind error ≡ Interrupted)

  -- interrupted reads, and then one that was not interrupted, whose result this is; or too many interrupted ones
  pub record ReadsUninterrupted (read : ReadCall R) (old : R) (before : List ℕ) (result : Result ℕ Error) (after : List ℕ) (new : R) : Type 0 where
    pub count : ℕ
    pub reader : R
    pub buffer : List ℕ
    pub interrupted : AreInterrupted read count old before buffer reader
    pub last : (read reader buffer result after new × IfErr result (λ error. error_kind error ≢ Interrupted))
        ⊎ ((count ≡ 2 ^ 64 - 1) × IsErrAnd result (λ error. error_kind error ≡ Other) × (after ≡ buffer) × (new ≡ reader))

module _ {W : Type 0} where
  -- a write that took some of the bytes that were left, or was interrupted
  pub record WritesSome (write : WriteCall W) (old : W) (left rest : List ℕ) (new : W) : Type 0 where
    pub some : 0 < length left
    pub result : Result ℕ Error
    pub call : write old left result new
    pub takes : MatchResult result (λ n. (0 < n) × (rest ≡ drop n left)) (λ error. (error_kind error ≡ Interrupted) × (rest ≡ left))

  -- so many writes of that kind were made, one after another
  abbrev pub WritesOn : WriteCall W → ℕ → W → List ℕ → List ℕ → W → Type 0
  WritesOn write zero old bytes rest new = (rest ≡ bytes) × (new ≡ old)
  WritesOn write (suc count) old bytes rest new =
      (writer : W) × (left : List ℕ) × WritesOn write count old bytes left writer × WritesSome write writer left rest new

  -- why writing failed with this error: a write took nothing, a write failed for another reason than an interruption, or there were too many
  abbrev pub FailsToWrite : WriteCall W → ℕ → W → List ℕ → Error → W → Type 0
  FailsToWrite write count writer rest error new =
      ((0 < length rest) × write writer rest (Ok 0) new × (error_kind error ≡ WriteZero))
      ⊎ (((0 < length rest) × write writer rest (Err error) new × (error_kind error ≢ Interrupted))
      ⊎ ((count ≡ 2 ^ 64 - 1) × (error_kind error ≡ Other) × (new ≡ writer)))

  -- writes until all the bytes were taken, or one failed
  pub record WritesWhole (write : WriteCall W) (old : W) (bytes : List ℕ) (result : Result (Unit {0}) Error) (new : W) : Type 0 where
    pub count : ℕ
    pub writer : W
    pub rest : List ℕ
    pub so_far : WritesOn write count old bytes rest writer
    pub ends : MatchResult result (λ _. (rest ≡ []) × (new ≡ writer)) (λ error. FailsToWrite write count writer rest error new)

  -- the same for a run that reports only that it failed
  abbrev pub SendsWhole : {F : Type 0} → WriteCall W → W → List ℕ → Result (Unit {0}) F → W → Type 0
  SendsWhole write old bytes result new =
      MatchResult result (λ _. WritesWhole write old bytes (Ok tt) new) (λ _. (error : Error) × WritesWhole write old bytes (Err error) new)

  -- a flush that a run makes
  abbrev pub Flushes : {F : Type 0} → FlushCall W → W → Result (Unit {0}) F → W → Type 0
  Flushes flush old result new = MatchResult result (λ _. flush old (Ok tt) new) (λ _. (error : Error) × flush old (Err error) new)
