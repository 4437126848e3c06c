-- What is reported to C for a server's calls.
use Rattle.std.specs.Prelude.{◌≡◌, MatchOption, ◌⊎◌, ℕ, ◌≤◌, ◌<◌, Bool, true, false, List, [], length, take, Option, Some, None, IsSome}
use Rattle.std.specs.Global.{Global}
use Rattle.git_msg.specs.Advertisement.{everything}
use Rattle.git_msg.specs.Arguments.{most_limit}
use Rattle.git_msg.specs.declared.agent.Agent.{Agent}
use Rattle.git_server.specs.Machine.Server.{Running, outcome_of, repo_of, wants_input}
use Rattle.git_server.specs.Machine.ServerCalls.{Closes, Goes, Pulls, StopsInTime}
use Rattle.git_server.specs.Machine.SharedRepo.{shared_by, shared_state}
use Rattle.git_server.specs.declared.server.Pulled.{Pulled}
use Rattle.git_server.specs.declared.server.Pulled.TheVariants.{Packet, NeedInput, Finished}
use Rattle.git_server.specs.declared.server.Server.{Server}
use Rattle.git_server.specs.declared.shared_repo.SharedRepo.{SharedRepo}
use Rattle.gitwire.specs.Offers.{MeansAgent, MeansNoAgent, offer_by}
use Rattle.gitwire.specs.Buffers.{put_before}
use Rattle.gitwire.specs.Answers.{more_of, answering, answering_packet, answering_used, ending, what_number}
use Rattle.gitwire.specs.declared.answer.GitwireAnswer.{GitwireAnswer}
use Rattle.gitwire.specs.declared.answer.What.TheVariants as What

-- a server at the beginning of its session over the repository, which advertises all by this agent
pub record Starts (repository : SharedRepo) (limit : ℕ) (advertise : Bool) (agent : Agent) (server : Server SharedRepo Global) : Type 0 where
  pub running : Running shared_state
      (record {
        offer = offer_by agent (everything (shared_state repository).answers.format);
        limit = limit;
        advertise = advertise;
        repo = (shared_state repository).answers;
        failures = (shared_state repository).failures;
      }) [] false [] server
  pub shares : shared_by (repo_of server) ≡ shared_by repository

-- such a server, or none if memory ran out
abbrev pub Begins : SharedRepo → ℕ → Bool → Agent → ℕ → Option (Server SharedRepo Global) → Type 0
Begins repository limit advertise agent answer new =
    MatchOption new (answer ≡ what_number What.OutOfMemory)
    (λ server. (answer ≡ what_number What.Done) × Starts repository limit advertise agent server)

-- nothing changes if the limit is above the maximum, or the name is no agent's
pub record BeginsWithin (repository : SharedRepo) (limit : ℕ) (advertise : Bool) (name : List ℕ) (old : Option (Server SharedRepo Global)) (answer : ℕ)
    (new : Option (Server SharedRepo Global)) : Type 0 where
  pub too_much : most_limit < limit → (answer ≡ what_number What.BadValue) × (new ≡ old)
  pub in_range : limit ≤ most_limit
      → (MeansNoAgent name × (answer ≡ what_number What.BadValue) × (new ≡ old))
      ⊎ ((agent : Agent) × MeansAgent name agent × Begins repository limit advertise agent answer new)

-- a server over the repository of a handle; nothing changes if that has none
abbrev pub BeginsOver : Option SharedRepo → ℕ → Bool → List ℕ → Option (Server SharedRepo Global) → ℕ → Option (Server SharedRepo Global) → Type 0
BeginsOver None limit advertise name old answer new = (answer ≡ what_number What.NoRequest) × (new ≡ old)
BeginsOver (Some repository) limit advertise name old answer new = BeginsWithin repository limit advertise name old answer new

-- the server uses bytes of the chunk, and it is reported to C how many
pub record FeedsAnswers (old : Server SharedRepo Global) (chunk : List ℕ) (answer : GitwireAnswer) (new : Server SharedRepo Global) : Type 0 where
  pub used : ℕ
  pub answer_is : answer ≡ answering_used used (more_of (wants_input old))
  pub within : used ≤ length chunk
  pub goes : Goes shared_state (take used chunk) [] old new
  pub whole : wants_input new ≡ true → used ≡ length chunk
  pub moves : wants_input old ≡ true → 0 < length chunk → (0 < used) ⊎ IsSome (outcome_of new)
  pub in_time : StopsInTime shared_state old used chunk (outcome_of new)
  pub stays : wants_input old ≡ false → (used ≡ 0) × (new ≡ old)
  pub nothing : length chunk ≡ 0 → (used ≡ 0) × (new ≡ old)

-- the input ends when the server expects input
pub record ClosesAnswers (old : Server SharedRepo Global) (answer : ℕ) (new : Server SharedRepo Global) : Type 0 where
  pub expected : wants_input old ≡ true → (answer ≡ what_number What.Done) × Closes shared_state old new × IsSome (outcome_of new)
  pub not_now : wants_input old ≡ false → (answer ≡ what_number What.NotNow) × (new ≡ old)

-- what is reported to C about what is pulled
abbrev pub answer_of : Pulled → GitwireAnswer
answer_of (Packet bytes) = answering_packet 0 0 (length bytes.now) What.Packet
answer_of NeedInput = answering What.NeedInput
answer_of (Finished outcome) = ending outcome

-- the buffer: a packet is at its front
abbrev pub filled_by : Pulled → List ℕ → List ℕ
filled_by (Packet bytes) buffer = put_before bytes.now buffer
filled_by NeedInput buffer = buffer
filled_by (Finished outcome) buffer = buffer

-- the server returns a packet or what to do instead, and that is reported to C
pub record PullsAnswers (old : Server SharedRepo Global) (buffer : List ℕ) (answer : GitwireAnswer) (filled : List ℕ)
    (new : Server SharedRepo Global) : Type 0 where
  pub pulled : Pulled
  pub pulls : Pulls shared_state old pulled new
  pub answer_is : answer ≡ answer_of pulled
  pub buffer_is : filled ≡ filled_by pulled buffer

-- nothing happens if the buffer is too small for the longest packet
pub record PullsInBuffer (old : Server SharedRepo Global) (buffer : List ℕ) (answer : GitwireAnswer) (filled : List ℕ)
    (new : Server SharedRepo Global) : Type 0 where
  pub small : length buffer < 65520 → (answer ≡ answering What.BufferTooSmall) × (filled ≡ buffer) × (new ≡ old)
  pub large : 65520 ≤ length buffer → PullsAnswers old buffer answer filled new
