-- Bytes that passed, as they are returned.
use Rattle.std.specs.Prelude.{◌≡◌, ◌≢◌, ℕ, ◌-◌, ◌≤◌, List, take, drop}
use Rattle.git_pkt.specs.declared.band.Band.{Band}
use Rattle.git_pkt.specs.declared.band.Band.TheVariants.{Pack, Progress, Fatal}
use Rattle.git_client.specs.declared.client.Outcome.{Outcome}
use Rattle.git_client.specs.declared.client.Outcome.TheVariants.{More, Event, Passed, Failed}
use Rattle.git_client.specs.declared.events.Event.{Event as EventLent}
use Rattle.git_client.specs.declared.events.Event.TheVariants.{Pack as PackEvent, Progress as ProgressEvent}
use Rattle.git_client.specs.declared.events.ReceivedGot.{ReceivedGot}
use Rattle.git_client.specs.declared.events.ReceivedGot.TheVariants.{More as MoreGot, Event as EventGot, Failed as FailedGot}

-- the bytes that passed are among those used, and are on a band whose bytes pass
abbrev pub HasPart : Outcome → ℕ → Type 0
HasPart (Passed passed) used = (passed.count ≤ used) × (passed.band ≢ Fatal)
HasPart outcome used = Unit {0}

-- the event has these bytes, on this band
abbrev pub Shows : Band → List ℕ → EventLent → Type 0
Shows Pack bytes (PackEvent shown) = shown.now ≡ bytes
Shows Progress bytes (ProgressEvent shown) = shown.now ≡ bytes
Shows band bytes event = ⊥

-- the result of a step is returned: if bytes passed, they are the last of those used of the chunk
abbrev pub HandsOut : Outcome → ℕ → List ℕ → ReceivedGot → Type 0
HandsOut (Passed passed) used chunk (EventGot event) = Shows passed.band (take (used - (used - passed.count)) (drop (used - passed.count) chunk)) event
HandsOut (Failed f) used chunk (FailedGot g) = f ≡ g
HandsOut More used chunk MoreGot = Unit {0}
HandsOut Event used chunk MoreGot = Unit {0}
HandsOut outcome used chunk got = ⊥

-- the event is borrowed from the client: it is not one of bytes that pass
abbrev pub IsLent : EventLent → Type 0
IsLent (PackEvent bytes) = ⊥
IsLent (ProgressEvent bytes) = ⊥
IsLent event = Unit {0}
