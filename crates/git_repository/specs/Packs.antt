-- The packs of a repository that is read from a text.
use Rattle.std.specs.Prelude.{ℕ, List, [], Option, None}
use Rattle.git_server.specs.PackBytes.{bytes_in, bytes_in_some}
use Rattle.git_repository.specs.declared.packs.Packs.{Packs}

-- the bytes of the pack for each request, and of the pack for each request that has a filter, if that is a different one
pub record PackBytes : Type 0 where
  pub pack : List ℕ
  pub filtered : Option (List ℕ)

-- the bytes of these packs, whoever owns them
abbrev pub packs_of : Packs → PackBytes
packs_of packs = record { pack = bytes_in packs.pack; filtered = bytes_in_some packs.filtered }

-- an empty pack for each request
abbrev pub no_packs : PackBytes
no_packs = record { pack = []; filtered = None }
