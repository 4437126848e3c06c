-- A host's server over its store: its parts.
use Rattle.std.specs.Prelude.{ℕ}
use Rattle.git_host.specs.declared.host_server.HostServer.{HostServer}
use Rattle.git_store.specs.declared.hosted.Hosted.{Hosted}

module _ {S A : Type 0} where
  abbrev pub server_of : Hosted S A → HostServer A
  server_of hosted = hosted.server

  abbrev pub store_of : Hosted S A → S
  store_of hosted = hosted.store

  -- how many more packets and replies there may be
  abbrev pub left_of : Hosted S A → ℕ
  left_of hosted = hosted.left
