-- Several events of one call of C: those that calls of `feed` give one after another.
use Rattle.std.specs.Prelude.{◌≡◌, ℕ, ◌+◌, ◌<◌, ◌≤◌, ◌⊎◌, Bool, true, false, List, [], ◌∷◌, ◌++◌, length, take, drop, set}
use Rattle.std.specs.Global.{Global}
use Rattle.git_pkt.specs.Packets.{longest_payload}
use Rattle.git_client.specs.Machine.Client.{can_ask, wants_input}
use Rattle.git_client.specs.declared.client.Client.{Client}
use Rattle.git_client.specs.declared.events.Event.{Event}
use Rattle.git_client.specs.declared.events.ReceivedGot.{ReceivedGot}
use Rattle.git_client.specs.declared.events.ReceivedGot.TheVariants as Got
use Rattle.gitwire.specs.Answers.{answering, answering_fault, answering_packet, more_of}
use Rattle.gitwire.specs.ClientAnswers.{FeedsOn, LieInChunk}
use Rattle.gitwire.specs.EventAnswers.{copied_of, shown_at}
use Rattle.gitwire.specs.Buffers.{put_before}
use Rattle.gitwire.specs.declared.answer.GitwireAnswer.{GitwireAnswer}
use Rattle.gitwire.specs.declared.answer.What.TheVariants as What
use Rattle.gitwire.specs.declared.event.GitwireEvent.{GitwireEvent}
use Rattle.gitwire.specs.declared.event_list.Extent.{Extent}

-- a call of `feed` on the bytes of the chunk from this place on gives this event, which is listed so, after events with these texts in the buffer;
-- a client of any format chooses it first
pub record GivesNext (old : Client Global) (chunk : List ℕ) (from : ℕ) (texts : List ℕ) (listed : GitwireEvent) (event : Event) (used : ℕ)
    (new : Client Global) : Type 0 where
  pub feeds : FeedsOn old (drop from chunk) (record { used = used; got = Got.Event event }) new
  pub lies : LieInChunk (Got.Event event) (from + used) chunk
  pub listed_is : listed ≡ shown_at event (from + used) (length texts)

-- calls of `feed` one after another, each on the bytes of the chunk that no earlier one used, give these events. The first call begins at the
-- place `from`, and with these texts in the buffer; the last one ends at the place `end`, with those.
abbrev pub FeedsEach : Client Global → List ℕ → ℕ → List ℕ → List GitwireEvent → Client Global → ℕ → List ℕ → Type 0
FeedsEach old chunk from texts [] new end written = (new ≡ old) × (end ≡ from) × (written ≡ texts)
FeedsEach old chunk from texts (e ∷ es) new end written =
    (event : Event) × (used : ℕ) × (next : Client Global)
    × GivesNext old chunk from texts e event used next
    × FeedsEach next chunk (from + used) (texts ++ copied_of event) es new end written

-- what is reported to C for a call that gives no event, after as many events
abbrev pub EndsAs : Bool → ℕ → ℕ → ReceivedGot → GitwireAnswer → Type 0
EndsAs expected used count Got.More answer = answer ≡ answering_packet used 0 count (more_of expected)
EndsAs expected used count (Got.Failed fault) answer = answer ≡ record (answering_fault used fault) { length = count }
EndsAs expected used count (Got.Event event) answer = ⊥

-- one more call gives no event; if there were events, the program could not ask after them
pub record GivesNone (old : Client Global) (chunk : List ℕ) (from count : ℕ) (answer : GitwireAnswer) (new : Client Global) : Type 0 where
  pub used : ℕ
  pub got : ReceivedGot
  pub feeds : FeedsOn old (drop from chunk) (record { used = used; got = got }) new
  pub answer_is : EndsAs (wants_input old) (from + used) count got answer
  pub goes_on : 0 < count → can_ask old ≡ false

-- no more calls are made after an event: a request can be asked; or the array is full, or too little of the buffer is left for just any event
pub record Pauses (old : Client Global) (from count most written size : ℕ) (answer : GitwireAnswer) (new : Client Global) : Type 0 where
  pub some : 0 < count
  pub turn : can_ask old ≡ true → answer ≡ answering_packet from 0 count What.CanAsk
  pub full : can_ask old ≡ false → answer ≡ answering_packet from 0 count What.More
  pub why : can_ask old ≡ false → (count ≡ most) ⊎ (size < written + longest_payload)
  pub stays : new ≡ old

-- the array has the events that calls of `feed` give, and the buffer their texts; after them the calls pause, or one more gives no event
pub record ListsEvents (old : Client Global) (chunk : List ℕ) (events : List GitwireEvent) (buffer : List ℕ) (answer : GitwireAnswer)
    (filled : List GitwireEvent) (written : List ℕ) (new : Client Global) : Type 0 where
  pub listed : List GitwireEvent
  pub texts : List ℕ
  pub end : ℕ
  pub last : Client Global
  pub feeds : FeedsEach old chunk 0 [] listed last end texts
  pub ends : Pauses last end (length listed) (length events) (length texts) (length buffer) answer new
      ⊎ GivesNone last chunk end (length listed) answer new
  pub within : answer.used ≤ length chunk
  pub count_fits : length listed ≤ length events
  pub texts_fit : length texts ≤ length buffer
  pub events_are : filled ≡ listed ++ drop (length listed) events
  pub buffer_is : written ≡ put_before texts buffer

-- nothing happens if the array has no place, or the buffer is too small for the texts of some event
pub record ListsInBuffer (old : Client Global) (chunk : List ℕ) (events : List GitwireEvent) (buffer : List ℕ) (answer : GitwireAnswer)
    (filled : List GitwireEvent) (written : List ℕ) (new : Client Global) : Type 0 where
  pub small : (length events ≡ 0) ⊎ (length buffer < longest_payload)
      → (answer ≡ answering What.BufferTooSmall) × (filled ≡ events) × (written ≡ buffer) × (new ≡ old)
  pub large : 0 < length events → longest_payload ≤ length buffer → ListsEvents old chunk events buffer answer filled written new

-- the handle has nothing: that is reported, and the array and the buffer are unchanged
abbrev pub ListsNothing : List GitwireEvent → List ℕ → GitwireAnswer → List GitwireEvent → List ℕ → Type 0
ListsNothing events buffer answer filled written = (answer ≡ answering What.NoRequest) × (filled ≡ events) × (written ≡ buffer)

-- one call of `feed` on the bytes of the chunk from this place on gives an event, which is shown in the array after so many others, and whose texts are
-- written to the buffer after these many bytes
pub record GivesEvent (old : Client Global) (chunk : List ℕ) (from count texts : ℕ) (events : List GitwireEvent) (buffer : List ℕ) (further : Extent)
    (filled : List GitwireEvent) (written : List ℕ) (new : Client Global) : Type 0 where
  pub event : Event
  pub used : ℕ
  pub feeds : FeedsOn old (drop from chunk) (record { used = used; got = Got.Event event }) new
  pub within : from + used ≤ length chunk
  pub lies : LieInChunk (Got.Event event) (from + used) chunk
  pub further_is : further ≡ record { used = from + used; count = count + 1; texts = texts + length (copied_of event) }
  pub texts_fit : further.texts ≤ length buffer
  pub events_are : filled ≡ set events count (shown_at event (from + used) texts)
  pub buffer_is : written ≡ take texts buffer ++ copied_of event ++ drop (texts + length (copied_of event)) buffer

-- the same call gives none, and the array and the buffer are unchanged
abbrev pub EndsHere : Client Global → List ℕ → ℕ → ℕ → List GitwireEvent → List ℕ → GitwireAnswer → List GitwireEvent → List ℕ → Client Global → Type 0
EndsHere old chunk from count events buffer answer filled written new =
    GivesNone old chunk from count answer new × (answer.used ≤ length chunk) × (filled ≡ events) × (written ≡ buffer)
