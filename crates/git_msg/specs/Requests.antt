-- Whole requests, and the first fault of a list of packets.
use Rattle.std.specs.Prelude.{◌≡◌, ◌⊎◌, ℕ, List, [], ◌∷◌, ◌++◌}
use Rattle.git_pkt.specs.Packets.{flush}
use Rattle.git_pkt.specs.Splits.{Given}
use Rattle.git_pkt.specs.declared.fault.Fault.{Fault}
use Rattle.git_pkt.specs.declared.fault.Kind.{Kind}
use Rattle.git_pkt.specs.declared.fault.Kind.TheVariants.{OutOfMemory}
use Rattle.git_msg.specs.declared.offers.Offer.{Offer}
use Rattle.git_msg.specs.declared.arguments.Command.{Command}
use Rattle.git_msg.specs.Arguments.{TakesMemory}
use Rattle.git_msg.specs.Asked.{Asked, asked_by}
use Rattle.git_msg.specs.Checks.{Passes}
use Rattle.git_msg.specs.ItemsInOrder.{AreItems, StopsAt}
use Rattle.git_msg.specs.Lines.{Line, argument, server_option, commands_of, kept_arguments, kept_in, flush_checks, IsLine, HasFault}

-- a packet is this line after those before it
abbrev pub IsLineAfter : Offer → ℕ → List Line → Given → Line → Type 0
IsLineAfter offer limit before g line = IsLine offer limit before g.packet line

-- the packets are these lines, each after those before it
abbrev pub AreLines : Offer → ℕ → List Line → List Given → List Line → Type 0
AreLines offer limit = AreItems (IsLineAfter offer limit)

-- the packets are lines that begin a request
abbrev pub AreBegun : Offer → ℕ → List Given → Type 0
AreBegun offer limit packets = (lines : List Line) × AreLines offer limit [] packets lines

-- the packets are one whole request, which asks for this and has so many bytes of texts that are kept
pub record Asks (offer : Offer) (limit : ℕ) (packets : List Given) (asked : Asked) (kept : ℕ) : Type 0 where
  pub front : List Given
  pub last : Given
  pub lines : List Line
  pub command : Command
  pub whole : packets ≡ front ++ last ∷ []
  pub ends : last.packet ≡ flush
  pub taken : AreLines offer limit [] front lines
  pub once : commands_of lines ≡ command ∷ []
  pub checks : Passes (flush_checks offer lines)
  pub asked_is : asked ≡ asked_by command (kept_arguments lines)
  pub kept_is : kept ≡ kept_in lines

-- a packet at this offset is refused by this name after the lines
pub record IsRefusedAfter (offer : Offer) (limit : ℕ) (kind : Kind) (offset : ℕ) (lines : List Line) (g : Given) : Type 0 where
  pub fault : HasFault offer limit lines g.packet kind
  pub offset_is : offset ≡ g.offset

-- the first packet of a request that is refused, the name of the refusal, and its offset
abbrev pub FirstFault : Offer → ℕ → List Given → Kind → ℕ → Type 0
FirstFault offer limit packets kind offset = StopsAt (IsLineAfter offer limit) (IsRefusedAfter offer limit kind offset) packets

-- the line has a value that memory is taken for
abbrev pub NeedsMemory : Line → Type 0
NeedsMemory (server_option option) = Unit {0}
NeedsMemory (argument arg long) = TakesMemory arg
NeedsMemory line = ⊥

-- memory ran out while a line was kept, in a packet that nothing refuses
pub record WantsMemory (offer : Offer) (limit : ℕ) (packets : List Given) (kind : Kind) (offset : ℕ) : Type 0 where
  pub front : List Given
  pub last : Given
  pub lines : List Line
  pub line : Line
  pub whole : packets ≡ front ++ last ∷ []
  pub taken : AreLines offer limit [] front lines
  pub is_line : IsLine offer limit lines last.packet line
  pub needs_memory : NeedsMemory line
  pub name : kind ≡ OutOfMemory
  pub at : offset ≡ last.offset

-- a fault of these packets: the first fault of one of them, or lack of memory at the last
abbrev pub IsAnnounced : Offer → ℕ → List Given → Fault → Type 0
IsAnnounced offer limit packets fault =
    FirstFault offer limit packets fault.kind fault.offset ⊎ WantsMemory offer limit packets fault.kind fault.offset

-- the packets are only a flush, which ends a session
pub record IsStop (packets : List Given) : Type 0 where
  pub last : Given
  pub alone : packets ≡ last ∷ []
  pub ends : last.packet ≡ flush
