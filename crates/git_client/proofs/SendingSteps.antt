-- How a client sends a request packet by packet, and what asking adds to its history.
use Rattle.std.proofs.Common.{◌≡◌, ◌≢◌, inl, inr, ℕ, Bool, true, false, List, [], ◌∷◌, ◌++◌, Option, None}
use Rattle.std.proofs.Common.{Result, Ok, Err, IfErr, refl, sym, ap, ◌∙◌, subst, append_assoc, append-nil}
use Rattle.std.proofs.KnownBytes.{Appends-kept, Appends-nil, Appends-trans}
use Rattle.std.specs.Io.KnownBytes.{Appends, Keeps}
use Rattle.git_pkt.specs.Packets.{Pkt, payload, spelling_of}
use Rattle.git_pkt.specs.declared.fault.RunFault.{RunFault}
use Rattle.git_pkt.specs.declared.fault.RunFault.TheVariants.{WriteFault}
use Rattle.git_msg.specs.Asked.{command_asked}
use Rattle.git_msg.specs.Machine.HeldRequest.{asked_of}
use Rattle.git_msg.specs.declared.requests.Request.{Request}
use Rattle.git_pkt.specs.Streams.{Flow, flow, WrittenAs, is_broken}
use Rattle.git_client.specs.Transcript.{asked_line}
use Rattle.git_client.specs.Machine.Turns.{takes_packets, fault_in, is_ready, is_asking, has_left_in, left_in}
use Rattle.git_client.specs.Machine.Client.{Converses, Asks, SendsOn, Pulls, AnnouncesSent, given_by, can_ask, fault_of, has_left, left_to_send}
use Rattle.git_client.specs.Machine.Client.{wants_input}
use Rattle.git_client.specs.Machine.RunSteps.{BreaksOff, SendsPackets, AsksNext, AsksTo}
use Rattle.git_client.specs.declared.phase.Phase.{Phase}
use Rattle.git_client.specs.declared.phase.Phase.TheVariants.{Receiving, Asking, Leaving, Left, Failed}
use Rattle.git_client.specs.declared.client.Client.{Client}
use Rattle.git_client.specs.declared.events.Sent.{Sent}
use Rattle.git_client.specs.declared.events.Sent.TheVariants.{Packet, NeedInput, CanAsk, Finished, Failed as FailedSent}
use Rattle.git_pkt.proofs.EngineLemmas.{written_nothing, written_then, written_whole, written_flushed}
use denote.Ref.{Bor}

-- ---- the phases of a client that sends something

-- a client that receives has no packet to send
receiving_leaves_nothing_unsent : {A : Type 0} (phase : Phase) (request : Option (Request A)) → takes_packets phase ≡ true → left_in phase request ≡ []
receiving_leaves_nothing_unsent (Receiving expected) request e = refl
receiving_leaves_nothing_unsent phase request e = absurd (cc)

-- a client that has a packet other than a flush to send is asking, and has not left
has_unsent_before_leaving : {A : Type 0} (phase : Phase) (request : Option (Request A)) (bytes : List ℕ) (others : List Pkt)
    → left_in phase request ≡ payload bytes ∷ others → has_left_in phase ≡ false
has_unsent_before_leaving Leaving request bytes others has_unsent = absurd (cc)
has_unsent_before_leaving Left request bytes others has_unsent = absurd (cc)
has_unsent_before_leaving phase request bytes others has_unsent = refl

-- a client that has a packet to send has no error
sound_where_unsent : {A : Type 0} (phase : Phase) (request : Option (Request A)) (packet : Pkt) (others : List Pkt)
    → left_in phase request ≡ packet ∷ others → fault_in phase ≡ None
sound_where_unsent (Failed fault) request packet others has_unsent = absurd (cc)
sound_where_unsent phase request packet others has_unsent = refl

-- a client that has no packet to send, cannot ask, has no error and has not left receives
receives_after_all : {A : Type 0} (phase : Phase) (request : Option (Request A)) → is_ready phase ≡ false → fault_in phase ≡ None
    → has_left_in phase ≡ false → (is_asking phase ≡ true → left_in phase request ≢ []) → left_in phase request ≡ [] → takes_packets phase ≡ true
receives_after_all (Receiving expected) request not_ready sound stays has_unsent all = refl
receives_after_all (Asking writer) request not_ready sound stays has_unsent all = absurd (has_unsent refl all)
receives_after_all phase request not_ready sound stays has_unsent all = absurd (cc)

-- ---- what was written

-- no packet was written
nothing_broke : (held : Option (List ℕ)) → BreaksOff (flow held held) []
nothing_broke held = record { whole = []; front = []; rest = []; parts = refl; written = Appends-nil held; one_packet = inl refl }

-- all packets were written
broke_after : (before after : Option (List ℕ)) (u : List ℕ) → Appends before after u → BreaksOff (flow before after) u
broke_after before after u written = record {
  whole = u;
  front = [];
  rest = [];
  parts = sym (append-nil u);
  written = subst (λ (bytes : List ℕ). Appends before after bytes) (sym (append-nil u)) written;
  one_packet = inl refl;
}

-- some packets were written whole, and a prefix of another
broke_then : (broken : Bool) (before held after : Option (List ℕ)) (u v : List ℕ) (packet : Pkt) → v ≡ spelling_of packet
    → WrittenAs false (flow before held) u → WrittenAs broken (flow held after) v → broken ≡ true → BreaksOff (flow before after) (u ++ v)
broke_then false before held after u v packet is first second e = absurd (cc)
broke_then true before held after u v packet is first (front, rest, parts, appended) e = record {
  whole = u;
  front = front;
  rest = rest;
  parts = ap (λ (bytes : List ℕ). u ++ bytes) parts;
  written = Appends-trans before held after u front first appended;
  one_packet = inr (packet, sym parts ∙ is);
}

module _ {A : Type 0} where
  -- ---- what was sent

  -- some of the packets to be sent were pulled and written
  pub record SendsSome (broken : Bool) (old new : Client A) (writer : Flow) : Type 0 where
    pub given : List ℕ
    pub written : WrittenAs broken writer given
    pub last : broken ≡ true → BreaksOff writer given
    pub conveys : SendsOn old given new
    pub same_leaving : has_left new ≡ has_left old
    pub sound : fault_of new ≡ None
    pub not_ready : can_ask new ≡ false

  pub conveys_nothing : (client : Client A) → SendsOn client [] client
  conveys_nothing client t h c = subst (λ (given : List ℕ). Converses t (record h { given = given }) client) (sym (append-nil h.given)) c

  pub conveys_then : (old middle new : Client A) (u v : List ℕ) → SendsOn old u middle → SendsOn middle v new → SendsOn old (u ++ v) new
  conveys_then old middle new u v first second t h c =
      subst (λ (given : List ℕ). Converses t (record h { given = given }) new) (append_assoc h.given u v)
      (second t (record h { given = h.given ++ u }) (first t h c))

  pub conveys_none_yet : (client : Client A) (held : Option (List ℕ)) → can_ask client ≡ false → fault_of client ≡ None
      → SendsSome false client client (flow held held)
  conveys_none_yet client held not_ready sound = record {
    given = [];
    written = written_nothing held;
    last = λ e. absurd (cc);
    conveys = conveys_nothing client;
    same_leaving = refl;
    sound = sound;
    not_ready = not_ready;
  }

  -- a client that cannot ask, has no error and returns no packet has none to send
  pub gives_no_packet : (sent : Sent) (middle new : Client A) → AnnouncesSent sent middle new → can_ask middle ≡ false → fault_of middle ≡ None
      → ((bytes : Bor (List ℕ)) → sent ≡ Packet bytes → ⊥) → (new ≡ middle) × (left_to_send middle ≡ [])
  gives_no_packet (Packet bytes) middle new announces not_ready sound none = absurd (none bytes refl)
  gives_no_packet NeedInput middle new announces not_ready sound none = (announces.1, receiving_leaves_nothing_unsent middle.phase middle.request announces.0)
  gives_no_packet CanAsk middle new announces not_ready sound none = absurd (cc)
  gives_no_packet Finished middle new announces not_ready sound none = (announces.2, announces.1)
  gives_no_packet (FailedSent fault) middle new announces not_ready sound none = absurd (cc)

  module _ (broken : Bool) (old middle new : Client A) (before held after : Option (List ℕ)) (sent : Sent)
      (so_far : SendsSome false old middle (flow before held)) (pulls : Pulls middle sent new) where
    -- a packet was pulled and written, or the write failed
    pub conveys_packet : (bytes : Bor (List ℕ)) → sent ≡ Packet bytes → WrittenAs broken (flow held after) bytes.now
        → SendsSome broken old new (flow before after)
    conveys_packet bytes is written =
        let announces : AnnouncesSent (Packet bytes) middle new = subst (λ (s : Sent). AnnouncesSent s middle new) is pulls.announces in
        let conveys : SendsOn middle bytes.now new = subst (λ (s : Sent). SendsOn middle (given_by s) new) is pulls.conveys in
        record {
          given = so_far.given ++ bytes.now;
          written = written_then broken before held after so_far.given bytes.now so_far.written written;
          last = broke_then broken before held after so_far.given bytes.now announces.packet announces.written so_far.written written;
          conveys = conveys_then old middle new so_far.given bytes.now so_far.conveys conveys;
          same_leaving = announces.same_leaving ∙ so_far.same_leaving;
          sound = announces.sound;
          not_ready = announces.not_ready;
        }

    -- no packet was left, and the writer was flushed, or the flush failed
    pub conveys_all : ((bytes : Bor (List ℕ)) → sent ≡ Packet bytes → ⊥) → Keeps held after → SendsPackets broken old new (flow before after)
    conveys_all none kept =
        let (stays, all) = gives_no_packet sent middle new pulls.announces so_far.not_ready so_far.sound none in
        subst (λ (client : Client A). SendsPackets broken old client (flow before after)) (sym stays) (record {
          given = so_far.given;
          written = written_flushed broken before held after so_far.given so_far.written kept;
          last = λ e. broke_after before after so_far.given (Appends-kept before held after so_far.given so_far.written kept);
          conveys = so_far.conveys;
          all = λ whole. all;
          same_leaving = so_far.same_leaving;
          sound = so_far.sound;
          not_ready = so_far.not_ready;
        })

  -- a write failed, so nothing is stated of the packets left
  pub conveys_front : (old new : Client A) (writer : Flow) → SendsSome true old new writer → SendsPackets true old new writer
  conveys_front old new writer some = record {
    given = some.given;
    written = some.written;
    last = some.last;
    conveys = some.conveys;
    all = λ whole. absurd (cc);
    same_leaving = some.same_leaving;
    sound = some.sound;
    not_ready = some.not_ready;
  }

  -- ---- what asking adds to the history

  module _ (broken : Bool) (old middle new : Client A) (request : Request A) (writer out : Flow) (asks : Asks old request middle) where
    -- the request was asked, and its line and these bytes of it were written, or a write failed
    asks_giving : (given : List ℕ) → WrittenAs broken writer given → WrittenAs broken out (asked_line (command_asked (asked_of request)))
        → (broken ≡ true → BreaksOff writer given) → SendsOn middle given new → fault_of new ≡ None → can_ask new ≡ false
        → AsksNext broken old new request writer out
    asks_giving given content announced last conveys sound not_ready = record {
      passes = asks.passes;
      given = given;
      content = content;
      announced = announced;
      last = last;
      sound = sound;
      not_ready = not_ready;
      goes = λ t h stands. conveys t (record h { asked = h.asked ++ asked_of request ∷ [] }) (asks.asks t h stands);
    }

  -- the request was taken, and a write of its line failed
  pub asks_unsaid : (old middle : Client A) (request : Request A) (held : Option (List ℕ)) (out : Flow) → Asks old request middle
      → WrittenAs true out (asked_line (command_asked (asked_of request))) → AsksNext true old middle request (flow held held) out
  asks_unsaid old middle request held out asks announced =
      asks_giving true old middle middle request (flow held held) out asks [] (written_whole true (flow held held) [] (written_nothing held)) announced
      (λ e. nothing_broke held) (conveys_nothing middle) (sound_where_unsent middle.phase middle.request _ _ asks.has_unsent) asks.no_more

  -- the whole request was sent, so its response is expected
  pub receives_next : (old middle new : Client A) (request : Request A) (writer : Flow) → Asks old request middle → SendsPackets false middle new writer
      → wants_input new ≡ true
  receives_next old middle new request writer asks conveys =
      receives_after_all new.phase new.request conveys.not_ready conveys.sound
      (conveys.same_leaving ∙ has_unsent_before_leaving middle.phase middle.request _ _ asks.has_unsent) new.has_unsent (conveys.all refl)

  -- the request was taken, its line written, and its packets sent, or a write failed
  pub asks_stated : (r : Result (Unit {0}) RunFault) (old middle new : Client A) (request : Request A) (writer out : Flow)
      → Asks old request middle → WrittenAs false out (asked_line (command_asked (asked_of request))) → SendsPackets (is_broken r) middle new writer
      → IfErr r (λ fault. fault ≡ WriteFault) → AsksTo r old new request writer out
  asks_stated (Ok done) old middle new request writer out asks announced conveys named = (
    asks_giving false old middle new request writer out asks conveys.given conveys.written announced
        (λ e. absurd (cc)) conveys.conveys conveys.sound conveys.not_ready,
    receives_next old middle new request writer asks conveys,
  )
  asks_stated (Err WriteFault) old middle new request writer out asks announced conveys named =
      asks_giving true old middle new request writer out asks conveys.given conveys.written
      (written_whole true out _ announced) conveys.last conveys.conveys conveys.sound
      conveys.not_ready
  asks_stated (Err fault) old middle new request writer out asks announced conveys named = absurd (cc)

  -- the same if no write failed: exactly the bytes of the request were sent
  pub asks_whole : (old middle new : Client A) (request : Request A) (writer out : Flow) → Asks old request middle
      → WrittenAs false out (asked_line (command_asked (asked_of request))) → (conveys : SendsPackets false middle new writer)
      → (step : AsksNext false old new request writer out) × (step.given ≡ conveys.given)
  unfolding asks_giving
  asks_whole old middle new request writer out asks announced conveys = (
    asks_giving false old middle new request writer out asks conveys.given conveys.written announced
        (λ e. absurd (cc)) conveys.conveys conveys.sound conveys.not_ready,
    refl,
  )
