-- A check so far: what was read of both streams, and what was asked and received.
use Rattle.std.specs.Prelude.{◌≡◌, ℕ, min, true, false, List, [], ◌++◌, None}
use Rattle.git_pkt.specs.Streams.{Flow, flow}
use Rattle.git_msg.specs.declared.requests.Request.{Request}
use Rattle.git_client.specs.Parts.{Terms}
use Rattle.git_client.specs.Machine.Client.{History, can_ask}
use Rattle.git_client.specs.Machine.RunSteps.{IsOneTurn, no_counts}
use Rattle.git_client.specs.Machine.Running.{Running}
use Rattle.git_client.specs.declared.client.Client.{Client}
use Rattle.git2show_lib.specs.OtherLines.{Question}
use Rattle.git2show_lib.specs.Machine.CheckedStreams.{AllEnded, AreReceived, IsOffered, Received, passed_in, questions_in, received_shown, whole_of}
use Rattle.git2show_lib.specs.Machine.JudgedRequests.{HasRead, advertised_by, limit_of}
use Rattle.git2show_lib.specs.declared.judged_requests.JudgedRequests.{JudgedRequests}

-- where the packets that are asked, the packs and the progress go: nowhere
abbrev pub silent : Flow
silent = flow None None

-- a number that stops at the largest
abbrev pub counted : ℕ → ℕ
counted n = min n 18446744073709551615

module _ {A : Type 0} (t : Terms) (limit : ℕ) where
  -- These bytes of both streams were used, and these lines written. The requests that were read came in turn, and what came for each is whole, apart
  -- from these last ones, which brought nothing yet.
  pub record Checking (client : Client A) (stream : JudgedRequests A) (count : ℕ) (last : List Question) (requests responses lines : List ℕ) : Type 0 where
    pub front : List (Request A)
    pub h : History
    pub r : Received
    pub runs : Running false t h front client no_counts [] silent silent silent silent silent
    pub has_read : HasRead requests (questions_in r.turns ++ last) stream
    pub limit_is : limit_of stream ≡ limit
    pub responses_are : responses ≡ whole_of r
    pub lines_are : lines ≡ received_shown r
    pub received : AreReceived t h.asked h.used h.events r
    pub greeted : IsOneTurn r.greeting true
    pub ended : AllEnded t r.turns
    pub nothing_begun : r.begun ≡ None
    pub counts : count ≡ counted (passed_in r.turns)
    pub offered : IsOffered t h.used (advertised_by stream)
    pub ready : can_ask client ≡ true
