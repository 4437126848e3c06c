-- The values of a `PackSources` that contracts refer to.
use Rattle.std.specs.Prelude.{◌≡◌, ◌||◌, ℕ, Bool, false, Option, Some, None, IfSome, List}
use Rattle.std.specs.Option.{option_map}
use Rattle.git_pkt.specs.Machine.Recorded.{has_failed, inner_of as in_announced}
use Rattle.git_pkt.specs.Machine.Retries.{inner_of as in_retries}
use Rattle.git_pkt.specs.declared.retries.Retries.{Retries}
use Rattle.git_pkt.specs.declared.recorded.Recorded.{Recorded}
use Rattle.git_server.specs.Machine.Growths.{has_refused}
use Rattle.git_server.specs.declared.pack_sources.PackSources.{PackSources}

-- the bytes read are all bytes of the reader, if these are known
abbrev pub IsReadFrom : Option (List ℕ) → List ℕ → Type 0
IsReadFrom remaining read = IfSome remaining (λ bytes. read ≡ bytes)

module _ {P : Type 0} where
  abbrev pub reader_of : Recorded (Retries P) → P
  reader_of announced = in_retries (in_announced announced)

  -- the reader of the pack, and that of the filtered one
  abbrev pub readers_of : PackSources P → P × Option P
  readers_of sources = (reader_of sources.pack, option_map reader_of sources.filtered)

  abbrev pub has_failed_filtered : Option (Recorded (Retries P)) → Bool
  has_failed_filtered None = false
  has_failed_filtered (Some announced) = has_failed announced

  -- a read of one of the packs failed, other than by an interruption, or memory for the bytes was refused
  abbrev pub has_failure : PackSources P → Bool
  has_failure sources = has_failed sources.pack || has_failed_filtered sources.filtered || has_refused sources.growths

  -- one pack was read from one reader, and the other from the other, if there is another
  abbrev pub IsFilteredReadFrom : (P → Option (List ℕ)) → Option P → Option (List ℕ) → Type 0
  IsFilteredReadFrom remaining None read = read ≡ None
  IsFilteredReadFrom remaining (Some reader) None = ⊥
  IsFilteredReadFrom remaining (Some reader) (Some read) = IsReadFrom (remaining reader) read

  pub record AreReadFrom (remaining : P → Option (List ℕ)) (readers : P × Option P) (pack : List ℕ) (filtered : Option (List ℕ)) : Type 0 where
    pub by_pack : IsReadFrom (remaining readers.0) pack
    pub by_filtered : IsFilteredReadFrom remaining readers.1 filtered
