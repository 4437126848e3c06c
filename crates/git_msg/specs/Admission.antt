-- Well-formed arguments that are refused all the same. A server's repository may refuse one, or nothing does.
use Rattle.std.specs.Prelude.{◌≡◌, ◌⊎◌, ℕ, true, All, Option, Some, None, List, [], ◌∷◌, ◌++◌}
use Rattle.git_pkt.specs.Packets.{Pkt, payload, text_of}
use Rattle.git_pkt.specs.Splits.{Given}
use Rattle.git_pkt.specs.declared.fault.Fault.{Fault}
use Rattle.git_pkt.specs.declared.fault.Kind.{Kind}
use Rattle.git_msg.specs.declared.offers.Offer.{Offer}
use Rattle.git_msg.specs.Arguments.{Arg}
use Rattle.git_msg.specs.Lines.{Line, arguments_of, has_delimiter, IsArgumentText}
use Rattle.git_msg.specs.Requests.{AreLines, IsAnnounced}

-- the refusal of an argument if nothing refuses any: none
abbrev pub nothing_barred : Arg → Option Kind
nothing_barred arg = None

-- nothing refuses the argument
abbrev pub IsAdmitted : (Arg → Option Kind) → Arg → Type 0
IsAdmitted barred arg = barred arg ≡ None

-- nothing refuses any argument of these lines
abbrev pub AreAdmitted : (Arg → Option Kind) → List Line → Type 0
AreAdmitted barred lines = All (IsAdmitted barred) (arguments_of lines)

-- after these lines, the packet is an argument that is refused with this error
pub record IsBarred (offer : Offer) (barred : Arg → Option Kind) (before : List Line) (packet : Pkt) (kind : Kind) : Type 0 where
  pub bytes : List ℕ
  pub arg : Arg
  pub behind : has_delimiter before ≡ true
  pub data_packet : packet ≡ payload bytes
  pub is_text : IsArgumentText offer before (text_of bytes) arg
  pub refuses : barred arg ≡ Some kind

-- the last of the packets is such an argument, and those before it are lines of a request
pub record IsBarredAtLast (offer : Offer) (limit : ℕ) (barred : Arg → Option Kind) (packets : List Given) (kind : Kind) (offset : ℕ) : Type 0 where
  pub front : List Given
  pub last : Given
  pub lines : List Line
  pub whole : packets ≡ front ++ last ∷ []
  pub taken : AreLines offer limit [] front lines
  pub is_barred : IsBarred offer barred lines last.packet kind
  pub at : offset ≡ last.offset

-- the last of the packets is no such argument
abbrev pub IsUnbarred : Offer → ℕ → (Arg → Option Kind) → List Given → Type 0
IsUnbarred offer limit barred packets = (kind : Kind) (offset : ℕ) → ¬ IsBarredAtLast offer limit barred packets kind offset

-- a fault of these packets: the refusal of the last one, an argument, which comes before the limit and before lack of
-- memory; or otherwise what a reader of requests reports
abbrev pub IsAnnouncedFor : Offer → ℕ → (Arg → Option Kind) → List Given → Fault → Type 0
IsAnnouncedFor offer limit barred packets fault =
    IsBarredAtLast offer limit barred packets fault.kind fault.offset
    ⊎ (IsUnbarred offer limit barred packets × IsAnnounced offer limit packets fault)
