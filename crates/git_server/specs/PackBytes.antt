-- The bytes of a `Pack`.
use Rattle.std.specs.Prelude.{ℕ, List, Option, Some, None}
use Rattle.git_server.specs.declared.pack.Pack.{Pack}
use Rattle.git_server.specs.declared.pack.Pack.TheVariants.{Owned, Lent}

-- its bytes, whoever owns them
abbrev pub bytes_in : Pack → List ℕ
bytes_in (Owned bytes) = bytes.items
bytes_in (Lent bytes) = bytes.now

-- the bytes of the pack, if there is one
abbrev pub bytes_in_some : Option Pack → Option (List ℕ)
bytes_in_some None = None
bytes_in_some (Some pack) = Some (bytes_in pack)
