-- What the handles have.
use Rattle.std.specs.Prelude.{ℕ, List, Option}
use Rattle.std.specs.Option.{option_map}
use Rattle.std.specs.Global.{Global}
use Rattle.git_pkt.specs.declared.reader.PacketReader.{PacketReader}
use Rattle.git_msg.specs.declared.requests.Request.{Request}
use Rattle.git_msg.specs.declared.streams.RequestStream.{RequestStream}
use Rattle.git_server.specs.declared.server.Server.{Server}
use Rattle.git_server.specs.declared.shared_repo.SharedRepo.{SharedRepo}
use Rattle.git_host.specs.declared.host_server.HostServer.{HostServer}
use Rattle.git_client.specs.declared.client.Client.{Client}
use Rattle.gitwire.specs.declared.judge.Judge.{Judge}
use Rattle.gitwire.specs.declared.gatherer.Gatherer.{Gatherer}
use Rattle.gitwire.specs.Machines.{machine_as, gatherer_of, request_reader_of, request_of, repository_of, server_of, client_of, buffer_of, host_of, judge_of}
use Rattle.gitwire.specs.declared.machine.PacketBuffer.{PacketBuffer}
use Rattle.gitwire.specs.declared.handles.GitwirePacketReader.{GitwirePacketReader}
use Rattle.gitwire.specs.declared.handles.GitwireRequestReader.{GitwireRequestReader}
use Rattle.gitwire.specs.declared.handles.GitwireRequest.{GitwireRequest}
use Rattle.gitwire.specs.declared.handles.GitwireRepository.{GitwireRepository}
use Rattle.gitwire.specs.declared.handles.GitwireServer.{GitwireServer}
use Rattle.gitwire.specs.declared.handles.GitwireClient.{GitwireClient}
use Rattle.gitwire.specs.declared.handles.GitwireWriter.{GitwireWriter}
use Rattle.gitwire.specs.declared.handles.GitwireHost.{GitwireHost}
use Rattle.gitwire.specs.declared.handles.GitwireChecker.{GitwireChecker}

-- the packet reader of a handle, which gathers
abbrev pub gatherer_in : GitwirePacketReader → Option Gatherer
gatherer_in handle = machine_as gatherer_of handle.handle.held.machine

-- the packet reader of a handle
abbrev pub packet_reader_in : GitwirePacketReader → Option PacketReader
packet_reader_in handle = option_map (λ gatherer. gatherer.reader) (gatherer_in handle)

-- the request reader of a handle
abbrev pub request_reader_in : GitwireRequestReader → Option (RequestStream Global)
request_reader_in handle = machine_as request_reader_of handle.handle.held.machine

-- the request of a handle
abbrev pub request_in : GitwireRequest → Option (Request Global)
request_in handle = machine_as request_of handle.handle.held.machine

-- the repository of a handle
abbrev pub repository_in : GitwireRepository → Option SharedRepo
repository_in handle = machine_as repository_of handle.handle.held.machine

-- the server of a handle
abbrev pub server_in : GitwireServer → Option (Server SharedRepo Global)
server_in handle = machine_as server_of handle.handle.held.machine

-- the client of a handle
abbrev pub client_in : GitwireClient → Option (Client Global)
client_in handle = machine_as client_of handle.handle.held.machine

-- the host's server of a handle
abbrev pub host_in : GitwireHost → Option (HostServer Global)
host_in handle = machine_as host_of handle.handle.held.machine

-- the checker of a handle
abbrev pub judge_in : GitwireChecker → Option Judge
judge_in handle = machine_as judge_of handle.handle.held.machine

-- the packet buffer of a handle
abbrev pub buffer_in : GitwireWriter → Option PacketBuffer
buffer_in handle = machine_as buffer_of handle.handle.held.machine

-- what the buffer of a handle's writer has
abbrev pub writer_in : GitwireWriter → Option (List ℕ)
writer_in handle = option_map (λ buffer. buffer.hold.items) (buffer_in handle)
