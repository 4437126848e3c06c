-- What a client has to send goes to a server, one packet after another.
use Rattle.std.proofs.Common.{◌≡◌, ℕ, false, List, [], ◌++◌, None, ◌∙◌, append_assoc, append-nil, refl}
use Rattle.git_pkt.specs.Streams.{Flow, WrittenAs}
use Rattle.git_msg.specs.Asked.{command_asked}
use Rattle.git_msg.specs.Machine.HeldRequest.{asked_of}
use Rattle.git_msg.specs.declared.requests.Request.{Request}
use Rattle.git_client.specs.Machine.Client.{Asks, Pulls, SendsOn, AnnouncesSent, can_ask, fault_of, has_left}
use Rattle.git_client.specs.Transcript.{asked_line}
use Rattle.git_client.specs.declared.client.Client.{Client}
use Rattle.git_client.specs.declared.events.Sent.{Sent}
use Rattle.git_client.specs.declared.events.Sent.TheVariants.{Packet}
use Rattle.git_client.proofs.SendingSteps.{asks_whole, gives_no_packet, receives_next, conveys_nothing, conveys_then}
use Rattle.git_server.specs.Repository.{RepoState}
use Rattle.git_server.specs.declared.server.Server.{Server}
use Rattle.git2show_lib.specs.Machine.PlaySteps.{AsksServer, StandsOn, AnnouncesAll, silent}
use denote.Ref.{Bor}

module _ {R A : Type 0} (state : R → RepoState) where
  pub stands_still : (server : Server R A) → StandsOn state server [] [] server
  stands_still server s content given h = rw (append-nil given, append-nil content) h

  pub stands_then : (old middle new : Server R A) (u v g k : List ℕ) → StandsOn state old u g middle → StandsOn state middle v k new
      → StandsOn state old (u ++ v) (g ++ k) new
  stands_then old middle new u v g k first second s content given h =
      rw (append_assoc given g k, append_assoc content u v) at (second s (content ++ u) (given ++ g) (first s content given h))

  -- some of the pending packets were sent
  pub record AnnouncesSome (old new : Client A) (server after : Server R A) : Type 0 where
    pub given : List ℕ
    pub conveys : SendsOn old given new
    pub same_leaving : has_left new ≡ has_left old
    pub sound : fault_of new ≡ None
    pub not_ready : can_ask new ≡ false
    pub server_goes : StandsOn state server given [] after

  pub announces_none : (client : Client A) (server : Server R A) → can_ask client ≡ false → fault_of client ≡ None → AnnouncesSome client client server server
  announces_none client server not_ready sound = record {
    given = [];
    conveys = conveys_nothing client;
    same_leaving = refl;
    sound = sound;
    not_ready = not_ready;
    server_goes = stands_still server;
  }

  module _ (old middle new : Client A) (server held : Server R A) (sent : Sent) (so_far : AnnouncesSome old middle server held)
      (pulls : Pulls middle sent new) where
    -- a packet was pulled and sent
    pub announces_packet : (after : Server R A) (bytes : Bor (List ℕ)) → sent ≡ Packet bytes → StandsOn state held bytes.now [] after
        → AnnouncesSome old new server after
    announces_packet after bytes is goes =
        let announces : AnnouncesSent (Packet bytes) middle new = rw is at pulls.announces in
        let conveys : SendsOn middle bytes.now new = rw is at pulls.conveys in
        record {
          given = so_far.given ++ bytes.now;
          conveys = conveys_then old middle new so_far.given bytes.now so_far.conveys conveys;
          same_leaving = announces.same_leaving ∙ so_far.same_leaving;
          sound = announces.sound;
          not_ready = announces.not_ready;
          server_goes = stands_then server held after so_far.given bytes.now [] [] so_far.server_goes goes;
        }

    -- none was left
    pub announces_all : ((bytes : Bor (List ℕ)) → sent ≡ Packet bytes → ⊥) → AnnouncesAll state old new server held
    announces_all none =
        let (stays, all) = gives_no_packet sent middle new pulls.announces so_far.not_ready so_far.sound none in
        rw stays (record {
          conveys = record {
            given = so_far.given;
            written = tt;
            last = λ e. absurd (cc);
            conveys = so_far.conveys;
            all = λ whole. all;
            same_leaving = so_far.same_leaving;
            sound = so_far.sound;
            not_ready = so_far.not_ready;
          };
          server_goes = so_far.server_goes;
        })

  -- the request was taken, its line written, and all of it sent
  pub asks_server : (old middle new : Client A) (request : Request A) (server after : Server R A) (out : Flow)
      → Asks old request middle → WrittenAs false out (asked_line (command_asked (asked_of request))) → AnnouncesAll state middle new server after
      → AsksServer state old new request server after out
  asks_server old middle new request server after out asks announced announces =
      let (step, same) = asks_whole old middle new request silent out asks announced announces.conveys in
      record {
        asks = step;
        waits = receives_next old middle new request silent asks announces.conveys;
        server_goes = rw same announces.server_goes;
      }
