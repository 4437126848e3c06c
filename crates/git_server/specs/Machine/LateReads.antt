-- Whether packs that are read late were read, and whether that failed.
use Rattle.std.specs.Prelude.{Bool, true, false, Option, Some, None}
use Rattle.git_server.specs.Machine.PackSources.{has_failure, readers_of}
use Rattle.git_server.specs.declared.late_repo.LatePacks.{LatePacks}
use Rattle.git_server.specs.declared.late_repo.LatePacks.TheVariants.{Unread, Read, Lost}

module _ {P : Type 0} where
  abbrev pub unread_among : LatePacks P → Option (P × Option P)
  unread_among (Unread sources) = Some (readers_of sources)
  unread_among Read = None
  unread_among (Lost sources) = None

  abbrev pub are_read : LatePacks P → Bool
  are_read (Unread sources) = false
  are_read Read = true
  are_read (Lost sources) = false

  abbrev pub are_lost : LatePacks P → Bool
  are_lost (Unread sources) = false
  are_lost Read = false
  are_lost (Lost sources) = true

  abbrev pub have_failure : LatePacks P → Bool
  have_failure (Unread sources) = has_failure sources
  have_failure Read = false
  have_failure (Lost sources) = has_failure sources
