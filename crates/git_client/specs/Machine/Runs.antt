-- The results of a run of a client over its streams: what it asked, received and sent, the transcript, the pack and the progress.
use Rattle.std.specs.Prelude.{◌≡◌, ◌⊎◌, ◌≤◌, All, Bool, true, false, ℕ, List, [], ◌∷◌, ◌++◌, length, Some, Result, Ok, Err, map}
use Rattle.git_pkt.specs.Streams.{IsTimely}
use Rattle.git_pkt.specs.declared.fault.Fault.{Fault}
use Rattle.git_pkt.specs.declared.fault.RunFault.{RunFault}
use Rattle.git_pkt.specs.declared.fault.RunFault.TheVariants.{ReadFault, WriteFault, ReadLimit, Refused}
use Rattle.git_msg.specs.Checks.{Passes, Refuses as RefusesBy}
use Rattle.git_msg.specs.Machine.HeldRequest.{asked_of}
use Rattle.git_msg.specs.declared.offers.Caps.{Caps}
use Rattle.git_msg.specs.declared.requests.Request.{Request}
use Rattle.git_client.specs.Parts.{Terms}
use Rattle.git_client.specs.Events.{pack_bytes, progress_bytes, turns_of}
use Rattle.git_client.specs.Conversation.{HasNoted, FirstMalformed, GoesOn, IsConversation}
use Rattle.git_client.specs.Transcript.{transcript_of}
use Rattle.git_client.specs.Machine.Client.{History, Converses, ask_checks, can_ask, fault_of, sent_of, spelled, wants_input}
use Rattle.git_client.specs.Machine.RunSteps.{FaultsInTime}
use Rattle.git_client.specs.declared.client.Client.{Client}
use Rattle.git_client.specs.declared.events.Ending.{Ending}
use Rattle.git_client.specs.declared.events.Ending.TheVariants.{FlushOnly, ResponseEnd}

-- after the last response the client leaves, unless each request has a connection of its own
abbrev pub leaves_last : Ending → Bool
leaves_last FlushOnly = true
leaves_last ResponseEnd = false

-- everything expected was sent: the written form of each request, and the flush after leaving
pub record HasSent (t : Terms) (h : History) : Type 0 where
  pub caps : Caps
  pub noted : HasNoted t h.asked h.used caps
  pub content : h.given ≡ spelled (sent_of t caps h.asked h.left)

-- the received bytes are refused for their first error: truncated only if the input has ended, too long only if one more byte was read
pub record IsMalformed (t : Terms) (ended : Bool) (unused : List ℕ) (h : History) (fault : Fault) : Type 0 where
  pub first : FirstMalformed t h.asked h.used fault
  pub timely : IsTimely fault.kind ended unused

-- all bytes that were read were used, they have no error, more is expected, and everything that had to be sent was sent
pub record IsInterrupted (t : Terms) (unused : List ℕ) (h : History) : Type 0 where
  pub all : unused ≡ []
  pub goes_on : GoesOn t h.asked h.used h.events
  pub stays : h.left ≡ false
  pub content : HasSent t h

module _ {A : Type 0} where
  -- the requests in `rest` were not asked, and all before them were: the advertisement allows each of those, and there is at most one of
  -- them for the advertisement and one for each whole response
  pub record HasAsked (t : Terms) (requests rest : List (Request A)) (h : History) : Type 0 where
    pub front : List (Request A)
    pub all : requests ≡ front ++ rest
    pub asked : h.asked ≡ map asked_of front
    pub may_be : (caps : Caps) → HasNoted t h.asked h.used caps → All (λ request. Passes (ask_checks t.format caps request)) front
    pub in_turn : length h.asked ≤ turns_of h.events

  -- after the responses to all earlier requests, the next request was refused
  pub record IsRefusedRequest (t : Terms) (rest : List (Request A)) (h : History) (fault : Fault) : Type 0 where
    pub request : Request A
    pub later : List (Request A)
    pub caps : Caps
    pub next : rest ≡ request ∷ later
    pub whole : IsConversation t h.asked h.used h.events
    pub noted : HasNoted t h.asked h.used caps
    pub refused : RefusesBy (ask_checks t.format caps request) fault.kind
    pub at : fault.offset ≡ length h.used

  -- all requests were asked, and each response is whole
  pub record IsWholeRun (t : Terms) (rest : List (Request A)) (h : History) : Type 0 where
    pub all : rest ≡ []
    pub whole : IsConversation t h.asked h.used h.events
    pub leaves : h.left ≡ leaves_last t.ending
    pub content : HasSent t h

  -- a write failed: the client has left only after the response to the last request, and not if each request has a connection of its own
  pub record IsBrokenRun (t : Terms) (rest : List (Request A)) (h : History) : Type 0 where
    pub left_last : h.left ≡ true → (rest ≡ []) × IsConversation t h.asked h.used h.events × (leaves_last t.ending ≡ true)

  -- how a run ended if these requests were not asked
  abbrev pub EndsAs : Terms → Result (Unit {0}) RunFault → Bool → List ℕ → List (Request A) → History → Type 0
  EndsAs t (Ok done) ended unused rest h = IsWholeRun t rest h
  EndsAs t (Err ReadFault) ended unused rest h = IsInterrupted t unused h
  EndsAs t (Err ReadLimit) ended unused rest h = IsInterrupted t unused h
  EndsAs t (Err WriteFault) ended unused rest h = IsBrokenRun t rest h
  EndsAs t (Err (Refused fault)) ended unused rest h =
      (IsMalformed t ended unused h fault ⊎ IsRefusedRequest t rest h fault) × (h.left ≡ false) × HasSent t h

  -- the client that a run returns: it waits for more, has the error that was reported, or can ask a request other than the
  -- refused one
  abbrev pub IsHandedBack : Result (Unit {0}) RunFault → Client A → Type 0
  IsHandedBack (Ok done) client = Unit {0}
  IsHandedBack (Err ReadFault) client = wants_input client ≡ true
  IsHandedBack (Err ReadLimit) client = wants_input client ≡ true
  IsHandedBack (Err WriteFault) client = Unit {0}
  IsHandedBack (Err (Refused fault)) client = (fault_of client ≡ Some fault) ⊎ (can_ask client ≡ true)

  -- the relation between a client that was asked these requests and the bytes of its run: the client used a prefix of the bytes read, and
  -- the bytes given are those that it sent, the transcript, the pack, and the progress; if it has an error, the error came in time
  pub record Conversed (t : Terms) (requests : List (Request A)) (result : Result (Unit {0}) RunFault) (ended : Bool) (client : Client A)
      (read given : List (List ℕ)) : Type 0 where
    pub h : History
    pub unused : List ℕ
    pub rest : List (Request A)
    pub arrived : read ≡ (h.used ++ unused) ∷ []
    pub announced : given ≡ h.given ∷ transcript_of h.asked h.events ∷ pack_bytes h.events ∷ progress_bytes h.events ∷ []
    pub stands : Converses t h client
    pub asked : HasAsked t requests rest h
    pub ends : EndsAs t result ended unused rest h
    pub timely : FaultsInTime client ended unused
