-- The events of the bytes of a conversation for the requests that were asked, and the first error in them.
use Rattle.std.specs.Prelude.{◌≡◌, ◌⊎◌, ℕ, suc, ◌+◌, ◌-◌, false, List, [], ◌∷◌, ◌++◌, length, Some}
use Rattle.git_pkt.specs.Packets.{Pkt, flushes}
use Rattle.git_pkt.specs.Splits.{Given, Splits}
use Rattle.git_pkt.specs.Faults.{IsOpen, StopsBy}
use Rattle.git_pkt.specs.declared.fault.Fault.{Fault}
use Rattle.git_pkt.specs.declared.fault.Kind.{Kind}
use Rattle.git_pkt.specs.declared.fault.Kind.TheVariants.{Truncated}
use Rattle.git_msg.specs.Advertisement.{noted_of}
use Rattle.git_msg.specs.Asked.{Asked}
use Rattle.git_msg.specs.declared.offers.Caps.{Caps}
use Rattle.git_client.specs.Parts.{Terms, nearest, advertisement_of, is_end_expected}
use Rattle.git_client.specs.Places.{Place, place_after}
use Rattle.git_client.specs.Events.{EventValue, Gives, Refuses}
use Rattle.git_client.specs.Opened.{IsOfRest, opened_in, unless_refused}

-- a packet after those before it has no error and gives these events
pub record GivesAt (t : Terms) (asked : List Asked) (before : List Pkt) (p : Pkt) (events : List EventValue) : Type 0 where
  pub place : Place
  pub is_place : place_after t asked before ≡ Some place
  pub gives : Gives t.format t.ending place p events

-- a packet after those before it is refused; a packet that answers no request is not refused, and gives nothing either
pub record RefusesAt (t : Terms) (asked : List Asked) (before : List Pkt) (p : Pkt) (kind : Kind) : Type 0 where
  pub place : Place
  pub is_place : place_after t asked before ≡ Some place
  pub refuses : Refuses t.format t.ending place p kind

-- packets after those before them have no error and give these events, in order
abbrev pub GiveAll : Terms → List Asked → List Pkt → List Given → List EventValue → Type 0
GiveAll t asked before [] events = events ≡ []
GiveAll t asked before (g ∷ gs) events =
    (now : List EventValue) × (later : List EventValue) × (events ≡ now ++ later) × GivesAt t asked before g.packet now
    × GiveAll t asked (g.packet ∷ before) gs later

-- the first packet with an error, which is reported at its offset
pub record FirstFault (t : Terms) (asked : List Asked) (given : List Given) (kind : Kind) (offset : ℕ) : Type 0 where
  pub clean : List Given
  pub bad : Given
  pub more : List Given
  pub events : List EventValue
  pub cut : given ≡ clean ++ bad ∷ more
  pub sound : GiveAll t asked [] clean events
  pub refused : RefusesAt t asked (nearest clean []) bad.packet kind
  pub at : offset ≡ bad.offset

-- after those before them no packet comes, or one that is refused
abbrev pub IsStop : Terms → List Asked → List Pkt → List Given → Type 0
IsStop t asked before [] = Unit {0}
IsStop t asked before (g ∷ gs) = (kind : Kind) × RefusesAt t asked before g.packet kind

-- the packets of the bytes up to the first that is refused, and their events
pub record Sounds (t : Terms) (asked : List Asked) (bytes : List ℕ) (clean : List Given) (events : List EventValue) : Type 0 where
  pub given : List Given
  pub rest : List ℕ
  pub more : List Given
  pub splits : Splits 0 bytes given rest
  pub cut : given ≡ clean ++ more
  pub gives : GiveAll t asked [] clean events
  pub stops : IsStop t asked (nearest clean []) more

-- the events of the bytes: those of their packets up to the first that is refused, and of the received bytes of an open one
pub record HasEvents (t : Terms) (asked : List Asked) (bytes : List ℕ) (events : List EventValue) : Type 0 where
  pub clean : List Given
  pub whole : List EventValue
  pub opened : List EventValue
  pub sounds : Sounds t asked bytes clean whole
  pub of_rest : IsOfRest sounds.rest (unless_refused sounds.more (opened_in (place_after t asked (nearest clean [])) sounds.rest)) opened
  pub events_are : events ≡ whole ++ opened

-- the capabilities that the advertisement notes, as far as the bytes have it
abbrev pub HasNoted : Terms → List Asked → List ℕ → Caps → Type 0
HasNoted t asked bytes caps =
    (clean : List Given) × (events : List EventValue) × Sounds t asked bytes clean events
    × (caps ≡ noted_of (advertisement_of (nearest clean [])))

-- something is expected after these packets
abbrev pub HasExpected : Terms → List Asked → List Pkt → Type 0
HasExpected t asked before = (place : Place) × (place_after t asked before ≡ Some place)

-- a packet of the bytes is the first with an error
pub record MalformedPacket (t : Terms) (asked : List Asked) (bytes : List ℕ) (fault : Fault) : Type 0 where
  pub given : List Given
  pub rest : List ℕ
  pub splits : Splits 0 bytes given rest
  pub first : FirstFault t asked given fault.kind fault.offset

-- no packet has an error, more is expected, and reading stops at the bytes after them: they begin no packet, the stream is too long, or the input
-- ended inside a packet
pub record MalformedRest (t : Terms) (asked : List Asked) (bytes : List ℕ) (fault : Fault) : Type 0 where
  pub given : List Given
  pub rest : List ℕ
  pub events : List EventValue
  pub splits : Splits 0 bytes given rest
  pub sound : GiveAll t asked [] given events
  pub expected : HasExpected t asked (nearest given [])
  pub by : StopsBy (length bytes - length rest) rest (length bytes) fault.kind fault.offset

-- nothing has an error, and the input ended before the expected packets had come: reported at the end of the last whole packet
pub record CutShort (t : Terms) (asked : List Asked) (bytes : List ℕ) (fault : Fault) : Type 0 where
  pub given : List Given
  pub rest : List ℕ
  pub events : List EventValue
  pub splits : Splits 0 bytes given rest
  pub sound : GiveAll t asked [] given events
  pub still_open : IsOpen rest
  pub expected : HasExpected t asked (nearest given [])
  pub kind : fault.kind ≡ Truncated
  pub at : fault.offset + length rest ≡ length bytes

-- the first error in the bytes, if no byte comes after them
abbrev pub FirstMalformed : Terms → List Asked → List ℕ → Fault → Type 0
FirstMalformed t asked bytes fault =
    MalformedPacket t asked bytes fault ⊎ (MalformedRest t asked bytes fault ⊎ CutShort t asked bytes fault)

-- nothing in the bytes has an error so far
pub record GoesWell (t : Terms) (asked : List Asked) (bytes : List ℕ) (events : List EventValue) : Type 0 where
  pub given : List Given
  pub rest : List ℕ
  pub whole : List EventValue
  pub splits : Splits 0 bytes given rest
  pub sound : GiveAll t asked [] given whole
  pub still_open : IsOpen rest
  pub events_are : events ≡ whole ++ opened_in (place_after t asked (nearest given [])) rest

-- nothing in the bytes has an error so far, and more is expected after them
pub record GoesOn (t : Terms) (asked : List Asked) (bytes : List ℕ) (events : List EventValue) : Type 0 where
  pub given : List Given
  pub rest : List ℕ
  pub whole : List EventValue
  pub splits : Splits 0 bytes given rest
  pub sound : GiveAll t asked [] given whole
  pub still_open : IsOpen rest
  pub expected : HasExpected t asked (nearest given [])
  pub events_are : events ≡ whole ++ opened_in (place_after t asked (nearest given [])) rest

-- the bytes are exactly a whole advertisement and a whole response to each request, none of their packets has an error, and
-- these are their events
pub record IsConversation (t : Terms) (asked : List Asked) (bytes : List ℕ) (events : List EventValue) : Type 0 where
  pub given : List Given
  pub splits : Splits 0 bytes given []
  pub gives : GiveAll t asked [] given events
  pub all_flushes : flushes (nearest given []) ≡ suc (length asked)
  pub no_end_expected : is_end_expected t.ending (nearest given []) ≡ false
