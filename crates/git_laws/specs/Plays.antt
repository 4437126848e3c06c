-- The result of a play of both sides against each other: what the client asked and received, and the sessions of the servers that
-- answered it.
use Rattle.std.specs.Prelude.{◌≡◌, ◌⊎◌, ℕ, ◌<◌, Bool, true, false, All, List, [], ◌∷◌, ◌++◌, map, flat_map, Some, Result, Ok, Err}
use Rattle.git_pkt.specs.Packets.{Pkt, flush, resp_end}
use Rattle.git_pkt.specs.declared.fault.Fault.{Fault}
use Rattle.git_pkt.specs.declared.fault.RunFault.{RunFault}
use Rattle.git_pkt.specs.declared.fault.RunFault.TheVariants.{ReadFault, WriteFault, ReadLimit, Refused}
use Rattle.git_msg.specs.Advertisement.{everything}
use Rattle.git_msg.specs.Asked.{Asked}
use Rattle.git_msg.specs.declared.offers.Caps.{Caps}
use Rattle.git_msg.specs.declared.requests.Request.{Request}
use Rattle.git_client.specs.Machine.Client.{History, questions_of, spelled}
use Rattle.git_client.specs.Conversation.{HasEvents, HasNoted}
use Rattle.git_client.specs.Events.{pack_bytes}
use Rattle.git_client.specs.Parts.{Terms}
use Rattle.git_client.specs.Machine.Runs.{HasAsked, HasSent, IsMalformed, IsRefusedRequest, IsWholeRun}
use Rattle.git_client.specs.Transcript.{transcript_of}
use Rattle.git_client.specs.declared.events.Ending.{Ending}
use Rattle.git_client.specs.declared.events.Ending.TheVariants.{FlushOnly, ResponseEnd}
use Rattle.git_server.specs.Repository.{RepoState}
use Rattle.git_server.specs.Machine.Server.{IsPackLost}
use Rattle.git_server.specs.Sessions.{Setting, GoesOn, IsAnswered, IsEnding, IsSession}
use Rattle.git_server.specs.declared.outcome.Outcome.{Outcome}

-- ---- the sessions

-- a server of this repository that advertises everything, and sends the advertisement first if `advertise` is set
abbrev pub setting_of : Terms → ℕ → RepoState → Bool → Setting
setting_of t limit state advertise = record {
  offer = everything t.format;
  limit = limit;
  advertise = advertise;
  repo = state.answers;
  failures = state.failures;
}

-- the bytes sent to a server, and those that it sent
pub record Talk : Type 0 where
  pub content : List ℕ
  pub given : List ℕ

-- a pack was lost only if more reads of the repository have failed by now than before
abbrev pub IsLostFor : (before now : ℕ) → Outcome → Type 0
IsLostFor before now outcome = IsPackLost (Some outcome) → before < now

-- a server goes on and has used all that was sent to it, or its session ended after a prefix of that
pub record IsTalk (now : ℕ) (s : Setting) (talk : Talk) : Type 0 where
  pub used : List ℕ
  pub unused : List ℕ
  pub parts : talk.content ≡ used ++ unused
  pub runs : ((unused ≡ []) × GoesOn s used talk.given)
      ⊎ ((outcome : Outcome) × (unsent : List Pkt) × IsEnding s used false talk.given outcome unsent × IsLostFor s.failures now outcome)

-- a server has sent all that it sends: it waits for more, or its session ended after a prefix of the bytes sent to it
pub record IsDone (now : ℕ) (s : Setting) (talk : Talk) : Type 0 where
  pub used : List ℕ
  pub unused : List ℕ
  pub parts : talk.content ≡ used ++ unused
  pub done : ((unused ≡ []) × IsAnswered s used talk.given)
      ⊎ ((outcome : Outcome) × IsSession s used false talk.given outcome × IsLostFor s.failures now outcome)

-- the bytes that the client gets from a server that answers only one request: all that the server sent, and then a response-end
abbrev pub with_end : Talk → List ℕ
with_end talk = talk.given ++ spelled (resp_end ∷ [])

-- the servers: one alone, or one that only advertises and then one for each request, to which that request is sent
abbrev pub AreSent : Ending → (first : Talk) (later : List Talk) (content : List ℕ) (questions : List (List ℕ)) → Type 0
AreSent FlushOnly first later content questions = (later ≡ []) × (first.content ≡ content)
AreSent ResponseEnd first later content questions = (first.content ≡ []) × (map (λ talk. talk.content) later ≡ questions)

-- the bytes of each request as it is sent, if this was advertised
abbrev pub sent_each : Terms → Caps → List Asked → List (List ℕ)
sent_each t caps asked = map (λ q. spelled (questions_of t caps (q ∷ []))) asked

-- the bytes sent to the servers; the client used a prefix of those that the servers sent
pub record AreServed (t : Terms) (h : History) (unheard : List ℕ) (first : Talk) (later : List Talk) : Type 0 where
  pub content : (caps : Caps) → HasNoted t h.asked h.used caps → AreSent t.ending first later h.given (sent_each t caps h.asked)
  pub gave : h.used ++ unheard ≡ first.given ++ flat_map with_end later

-- this holds of the sessions: that of the first server, and those of the later ones
abbrev pub AreAll : (Setting → Talk → Type 0) → Terms → ℕ → RepoState → Talk → List Talk → Type 0
AreAll Stands t limit state first later =
    Stands (setting_of t limit state true) first × All (Stands (setting_of t limit state false)) later

-- the bytes sent to the servers, and their sessions; the client has received a prefix of them
pub record IsServed (now : ℕ) (t : Terms) (limit : ℕ) (state : RepoState) (h : History) : Type 0 where
  pub first : Talk
  pub later : List Talk
  pub unheard : List ℕ
  pub served : AreServed t h unheard first later
  pub sessions : AreAll (IsTalk now) t limit state first later

-- a server answered all requests that were sent to it, and after them it received the flush of the client that leaves
pub record IsAnsweredAndLeft (now : ℕ) (s : Setting) (talk : Talk) : Type 0 where
  pub questions : List ℕ
  pub parts : talk.content ≡ questions ++ spelled (flush ∷ [])
  pub answered : IsAnswered s questions talk.given
  pub talks : IsTalk now s talk

-- each server sent all that its session gives for the requests that it got
abbrev pub AreWholeSessions : (now : ℕ) → Ending → Terms → ℕ → RepoState → Talk → List Talk → Type 0
AreWholeSessions now FlushOnly t limit state first later = IsAnsweredAndLeft now (setting_of t limit state true) first
AreWholeSessions now ResponseEnd t limit state first later = AreAll (λ s talk. IsAnswered s talk.content talk.given) t limit state first later

-- ---- how a play ended

-- a write failed: the received bytes come from servers that got everything that is written of the requests; the last request may
-- not have reached them yet
pub record IsBrokenPlay (now : ℕ) (t : Terms) (limit : ℕ) (state : RepoState) (h : History) : Type 0 where
  pub reached : History
  pub same_used : h.used ≡ reached.used
  pub asked : (h.asked ≡ reached.asked) ⊎ ((last : Asked) × (h.asked ≡ reached.asked ++ last ∷ []))
  pub stays : reached.left ≡ false
  pub all_sent : HasSent t reached
  pub is_served : IsServed now t limit state reached

module _ {A : Type 0} where
  -- each request was asked, answered and received whole, and all that the servers sent was received
  pub record IsWholePlay (now : ℕ) (t : Terms) (limit : ℕ) (state : RepoState) (rest : List (Request A)) (h : History) : Type 0 where
    pub first : Talk
    pub later : List Talk
    pub run : IsWholeRun t rest h
    pub served : AreServed t h [] first later
    pub sessions : AreWholeSessions now t.ending t limit state first later

  -- the received bytes are refused for their first error, truncated only if the servers send nothing more; or the next request is refused
  pub record IsRefusedPlay (now : ℕ) (t : Terms) (limit : ℕ) (state : RepoState) (rest : List (Request A)) (h : History) (fault : Fault) : Type 0 where
    pub first : Talk
    pub later : List Talk
    pub unheard : List ℕ
    pub ended : Bool
    pub fault_is : IsMalformed t ended unheard h fault ⊎ IsRefusedRequest t rest h fault
    pub stays : h.left ≡ false
    pub content : HasSent t h
    pub served : AreServed t h unheard first later
    pub sessions : AreAll (IsTalk now) t limit state first later
    pub done : ended ≡ true → (unheard ≡ []) × AreAll (IsDone now) t limit state first later

  abbrev pub EndsAs : (now : ℕ) → Terms → ℕ → RepoState → Result (Unit {0}) RunFault → List (Request A) → History → Type 0
  EndsAs now t limit state (Ok done) rest h = IsWholePlay now t limit state rest h
  EndsAs now t limit state (Err (Refused fault)) rest h = IsRefusedPlay now t limit state rest h fault
  EndsAs now t limit state (Err WriteFault) rest h = IsBrokenPlay now t limit state h
  EndsAs now t limit state (Err ReadFault) rest h = ⊥
  EndsAs now t limit state (Err ReadLimit) rest h = ⊥

  -- the result of a play of these requests, after which `now` reads of the repository have failed: the transcript of the requests and events, and the
  -- pack bytes
  pub record Played (now : ℕ) (t : Terms) (limit : ℕ) (state : RepoState) (requests : List (Request A)) (result : Result (Unit {0}) RunFault)
      (read given : List (List ℕ)) : Type 0 where
    pub h : History
    pub rest : List (Request A)
    pub nothing_read : read ≡ []
    pub announced : given ≡ transcript_of h.asked h.events ∷ pack_bytes h.events ∷ []
    pub arrived : HasEvents t h.asked h.used h.events
    pub asked : HasAsked t requests rest h
    pub ends : EndsAs now t limit state result rest h
