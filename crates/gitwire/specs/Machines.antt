-- What a machine is.
use Rattle.std.specs.Prelude.{Option, Some, None, Bool, true, is_some}
use Rattle.std.specs.Global.{Global}
use Rattle.git_msg.specs.declared.requests.Request.{Request}
use Rattle.git_msg.specs.declared.streams.RequestStream.{RequestStream}
use Rattle.git_server.specs.declared.server.Server.{Server}
use Rattle.git_server.specs.declared.shared_repo.SharedRepo.{SharedRepo}
use Rattle.git_host.specs.declared.host_server.HostServer.{HostServer}
use Rattle.git_client.specs.declared.client.Client.{Client}
use Rattle.gitwire.specs.declared.judge.Judge.{Judge}
use Rattle.gitwire.specs.declared.gatherer.Gatherer.{Gatherer}
use Rattle.gitwire.specs.declared.machine.Machine.{Machine}
use Rattle.gitwire.specs.declared.machine.PacketBuffer.{PacketBuffer}

-- the packet reader that a machine is
abbrev pub gatherer_of : Machine → Option Gatherer
gatherer_of (Machine.PacketReader gatherer) = Some gatherer.value
gatherer_of other = None

-- the request reader that a machine is
abbrev pub request_reader_of : Machine → Option (RequestStream Global)
request_reader_of (Machine.RequestReader request_reader) = Some request_reader.value
request_reader_of other = None

-- the request that a machine is
abbrev pub request_of : Machine → Option (Request Global)
request_of (Machine.Request request) = Some request.value
request_of other = None

-- the repository that a machine is
abbrev pub repository_of : Machine → Option SharedRepo
repository_of (Machine.Repository repository) = Some repository.value
repository_of other = None

-- the server that a machine is
abbrev pub server_of : Machine → Option (Server SharedRepo Global)
server_of (Machine.Server server) = Some server.value
server_of other = None

-- the client that a machine is
abbrev pub client_of : Machine → Option (Client Global)
client_of (Machine.Client client) = Some client.value
client_of other = None

-- the host's server that a machine is
abbrev pub host_of : Machine → Option (HostServer Global)
host_of (Machine.Host host) = Some host.value
host_of other = None

-- the checker that a machine is
abbrev pub judge_of : Machine → Option Judge
judge_of (Machine.Checker judge) = Some judge.value
judge_of other = None

-- the packet buffer that a machine is
abbrev pub buffer_of : Machine → Option PacketBuffer
buffer_of (Machine.Writer buffer) = Some buffer.value
buffer_of other = None

module _ {X : Type 0} where
  -- what a handle has, read as one kind of machine
  abbrev pub machine_as : (Machine → Option X) → Option Machine → Option X
  machine_as read None = None
  machine_as read (Some machine) = read machine

  -- a handle has this kind of machine or none
  abbrev pub is_none_or : (Machine → Option X) → Option Machine → Bool
  is_none_or read None = true
  is_none_or read (Some machine) = is_some (read machine)
