-- After any calls of both sides: what the client handed out is the first part of the events of the repository's answers, and one side can go on.
use Rattle.std.proofs.Common.{◌≡◌, ◌⊎◌, inl, inr, ℕ, Bool, true, false, All, List, [], ◌∷◌, ◌++◌, ◌-◌, Option, Some, None, length}
use Rattle.std.proofs.Common.{refl, ap, sym, ◌∙◌, subst, append_assoc, append-nil}
use Rattle.std.proofs.lemmas.Grind.{flat_map-append}
use Rattle.std.proofs.lemmas.List.Elements.{All-weaker}
use Rattle.git_names.specs.declared.object_format.Format.{Format}
use Rattle.git_pkt.specs.Packets.{Pkt}
use Rattle.git_pkt.specs.Splits.{Given}
use Rattle.git_pkt.specs.declared.reader.PacketReader.{PacketReader}
use Rattle.git_pkt.specs.Faults.{IsOpen, IsRefused, StopsBy}
use Rattle.git_pkt.specs.declared.fault.Fault.{Fault}
use Rattle.git_pkt.specs.declared.fault.Kind.{Kind}
use Rattle.git_pkt.specs.declared.fault.Kind.TheVariants.{StreamTooLong, Truncated}
use Rattle.git_pkt.proofs.Rests.{fault_longer, not_open_and_faulty}
use Rattle.git_pkt.proofs.Streams.{one_split}
use Rattle.git_msg.specs.Agents.{named_if, own_agent}
use Rattle.git_msg.specs.declared.agent.Agent.{Agent}
use Rattle.git_msg.specs.Advertisement.{everything}
use Rattle.git_msg.specs.Asked.{Asked, HasValues}
use Rattle.git_msg.specs.Lines.{IsFormatMeant}
use Rattle.git_msg.specs.declared.requests.Request.{Request}
use Rattle.git_msg.proofs.RoundTrip.{meant_when_stated}
use Rattle.git_client.specs.Conversation.{GiveAll, RefusesAt}
use Rattle.git_client.specs.Events.{EventValue, ended}
use Rattle.git_client.specs.Machine.Calls.{Call as ClientCall, ask, ask_refused, leave, pull as pull_client, feed as feed_client, close as close_client}
use Rattle.git_client.specs.Machine.Calls.{after_call, history_after}
use Rattle.git_client.specs.Machine.Client.{AreWhole, Converses, History, StandsIn, can_ask, caps_of, fault_of, has_left, left_to_send, nothing_yet}
use Rattle.git_client.specs.Machine.Client.{farewell, phase_of, questions_of, reader_of, request_of, sent_of, wants_input as waits_for_input}
use Rattle.git_client.specs.Machine.Client.{Pulls as PullsClient}
use Rattle.git_client.specs.Machine.Turns.{fault_in, has_left_in, left_in, question_in, takes_packets}
use Rattle.git_client.specs.Parts.{Terms, nearest}
use Rattle.git_client.specs.declared.client.Client.{Client}
use Rattle.git_client.specs.declared.events.Ending.TheVariants.{FlushOnly}
use Rattle.git_client.specs.declared.events.Sent.{Sent}
use Rattle.git_client.specs.declared.events.Sent.TheVariants.{Packet, NeedInput, CanAsk, Finished, Failed as FailedSent}
use Rattle.git_client.specs.declared.phase.Phase.{Phase}
use Rattle.git_client.specs.declared.phase.Phase.TheVariants.{Receiving, Failed}
use Rattle.git_client.proofs.Calls.{goes_on}
use Rattle.git_client.proofs.Determined.{excluded}
use Rattle.git_client.proofs.EventsReceived.{awaits_more, has_noted}
use Rattle.git_client.proofs.Sequences.{give_all_append, nearest-append}
use Rattle.git_client.proofs.Truncation.{none_expected}
use Rattle.git_server.specs.Answers.{AllFit, advertisement_of as server_sends, spelled}
use Rattle.git_server.specs.Repository.{IsSound, RepoState}
use Rattle.git_server.specs.Sessions.{IsAnswered, Setting}
use Rattle.git_server.specs.Machine.ServerCalls.{Pulls}
use Rattle.git_server.specs.declared.server.Pulled.{Pulled}
use Rattle.git_server.specs.declared.server.Pulled.TheVariants.{Packet as PulledPacket, NeedInput as NeedMore, Finished as PulledEnd}
use Rattle.git_server.specs.Machine.Calls.{Call as ServerCall, Makes, feed, pull, close, given_with, used_by}
use Rattle.git_server.specs.Machine.Server.{IsPackLost, Running, outcome_of, wants_input}
use Rattle.git_server.specs.declared.server.Server.{Server}
use Rattle.git_server.proofs.SessionLaws.{all_answered}
use Rattle.git_laws.specs.BothEnds.{BothEnds, CanGoOn, EitherCall, HasBytes, HasRefused, HaveMet, MoveAll, Moves, MovesClient, MovesServer}
use Rattle.git_laws.specs.BothEnds.{IsPulledPacket, IsSentPacket, calls_of_client, history_of, of_client, of_server, sent_by, taken_by, terms_with}
use Rattle.git_laws.specs.Plays.{setting_of}
use Rattle.git_laws.specs.AnnouncedAnswers.{AsksIn, CanBeWritten, packets_of, announced_all, announced_by, announced_offer, announced_play}
use Rattle.git_laws.proofs.AskedAfterOffer.{AsksAfterOffer, HasOffer, asks_after_offer, noted_meant}
use Rattle.git_laws.proofs.FrontsReceived.{before_report, first_events, front_of, given_at, spelled_open}
use Rattle.git_laws.proofs.ReceivingOffers.{nearest_pushed, offer_received, offer_whole, pushed}
use Rattle.git_laws.proofs.ReceivingSessions.{all_arrived, ended_by_flush}
use Rattle.git_laws.proofs.PlaysAnnounced.{asks_in, stream_asks}
use Rattle.git_laws.proofs.RequestsReceived.{HaveValues, join_packets, wherever, wherever_are, written_all}
use Rattle.git_laws.proofs.ServerGave.{Gave, gave, gave_all, gave_clean, read_front}
use Rattle.git_laws.proofs.SpelledPackets.{are_spelled}

-- if packets fit, so do the last ones of them
fit_back : (ps qs : List Pkt) → AllFit (ps ++ qs) → AllFit qs
fit_back [] qs fit = fit
fit_back (p ∷ ps) qs fit = fit_back ps qs fit.1

-- no packet was refused, or the packets go on after those before the refused one and no bytes follow them
all_or_first : (t : Terms) (asked : List Asked) (clean given : List Given) (rest : List ℕ) (end : ℕ) (question : Option Asked) (reader : PacketReader)
    (phase : Phase) → StandsIn phase t asked clean given rest end question reader
    → (given ≡ clean) ⊎ ((rest ≡ []) × (others : List Given) × (given ≡ clean ++ others))
all_or_first t asked clean given rest end question reader (Failed fault) (inl h) = inr (h.nothing, h.bad ∷ [], h.cut)
all_or_first t asked clean given rest end question reader (Failed fault) (inr (inl h)) = inl h.cut
all_or_first t asked clean given rest end question reader (Failed fault) (inr (inr h)) = inl h.cut
all_or_first t asked clean given rest end question reader phase h = inl h.cut

-- reading stops at the end of the input or of the positions of a stream, or because the bytes are refused
stop_kind : (p : ℕ) (rest : List ℕ) (end : ℕ) (kind : Kind) (offset : ℕ) → StopsBy p rest end kind offset
    → ((kind ≡ Truncated) ⊎ (kind ≡ StreamTooLong)) ⊎ IsRefused p rest kind offset
stop_kind p rest end Truncated offset by = inl (inl refl)
stop_kind p rest end StreamTooLong offset by = inl (inr refl)
stop_kind p rest end kind offset by = inr by.0

-- while packets of the server are expected, none is left to be sent, and the client has not left
nothing_left : {A : Type 0} (phase : Phase) (request : Option (Request A)) → takes_packets phase ≡ true
    → (left_in phase request ≡ []) × (has_left_in phase ≡ false)
nothing_left (Receiving expected) request waits = (refl, refl)
nothing_left phase request waits = absurd (cc)

-- a client that neither can ask nor waits has a packet to send, unless it has left or failed
client_gives : {A : Type 0} (client : Client A) → can_ask client ≡ false → waits_for_input client ≡ false → fault_of client ≡ None → has_left client ≡ false
    → (sent : Sent) (new : Client A) → PullsClient client sent new → IsSentPacket sent
client_gives client no_turn no_wait sound stays (Packet bytes) new pulls = tt
client_gives client no_turn no_wait sound stays NeedInput new pulls = let waits = pulls.announces.0 in absurd (cc)
client_gives client no_turn no_wait sound stays CanAsk new pulls = let ready = pulls.announces.0 in absurd (cc)
client_gives client no_turn no_wait sound stays Finished new pulls = let left = pulls.announces.0 in absurd (cc)
client_gives client no_turn no_wait sound stays (FailedSent fault) new pulls = let failed = pulls.announces.0 in absurd (cc)

-- what a call adds to the bytes that the client sent and used
history_adds : {A : Type 0} (h : History) (call : ClientCall A)
    → ((after_call h call).given ≡ h.given ++ sent_by call) × ((after_call h call).used ≡ h.used ++ taken_by call)
history_adds h (ask request) = (sym (append-nil h.given), sym (append-nil h.used))
history_adds h (ask_refused request handed_back fault) = (sym (append-nil h.given), sym (append-nil h.used))
history_adds h leave = (sym (append-nil h.given), sym (append-nil h.used))
history_adds h (pull_client sent) = (refl, sym (append-nil h.used))
history_adds h (feed_client chunk answer) = (sym (append-nil h.given), refl)
history_adds h (close_client fault) = (sym (append-nil h.given), sym (append-nil h.used))

module _ {R A : Type 0} (state : R → RepoState) where
  -- a server that does not wait has a packet to send, unless its session has ended
  server_gives : (server : Server R A) → wants_input server ≡ false → outcome_of server ≡ None → (pulled : Pulled) (new : Server R A)
      → Pulls state server pulled new → IsPulledPacket pulled
  server_gives server no_wait goes (PulledPacket bytes) new pulls = tt
  server_gives server no_wait goes NeedMore new pulls = let waits = pulls.announces.0 in absurd (cc)
  server_gives server no_wait goes (PulledEnd outcome) new pulls = let over = pulls.announces.0 in absurd (cc)

  -- a call extends what held before it
  runs_on : (refuses : ℕ → Type 0) (call : ServerCall) (s : Setting) (used : List ℕ) (over : Bool) (given : List ℕ)
      (before : ℕ) (old : Server R A) (after : ℕ) (new : Server R A)
      → Makes state refuses call before old after new → Running state s used over given old
      → (ended : Bool) × Running state s (used ++ used_by call) ended (given ++ given_with call) new
  runs_on refuses (feed chunk count) s used over given before old after new made r = (over, made.goes s used over given r)
  runs_on refuses (pull answer) s used over given before old after new made r = (over, made.0.goes s used over given r)
  runs_on refuses close s used over given before old after new made r = (
    true,
    subst (λ (u : List ℕ). Running state s u true (given ++ []) new) (sym (append-nil used))
        (subst (λ (w : List ℕ). Running state s used true w new) (sym (append-nil given)) (made.0.closes s used over given r).0),
  )

module _ {R A : Type 0} (state : R → RepoState) (format : Format) (limit : ℕ) (before : RepoState) (sound : IsSound before.answers)
    (written : CanBeWritten before.answers) (same_format : before.answers.format ≡ format) where
  -- the relation between both sides
  record Agree (h : History) (now : BothEnds R A) : Type 0 where
    used : List ℕ
    over : Bool
    given : List ℕ
    runs : Running state (setting_of (terms_with format) limit before true) used over given now.server
    converses : Converses (terms_with format) h now.client
    in_turn : AsksAfterOffer (terms_with format) h.asked h.used
    sent : h.given ≡ used ++ now.to_server
    received : given ≡ h.used ++ now.to_client

  -- ---- at one moment

  module _ (h : History) (now : BothEnds R A) (agree : Agree h now) (values : All (HasValues format) h.asked) where
    -- the values of each request are allowed in a request of some format
    have_values : HaveValues h.asked
    have_values = All-weaker (HasValues format) (λ (q : Asked). (f : Format) × HasValues f q) (λ q is. (format, is)) h.asked values

    client_sends : agree.used ++ (now.to_server ++ spelled (left_to_send now.client))
        ≡ spelled (sent_of (terms_with format) (caps_of now.client) h.asked h.left)
    client_sends =
        sym (append_assoc agree.used now.to_server (spelled (left_to_send now.client)))
        ∙ ap (λ (l : List ℕ). l ++ spelled (left_to_send now.client)) (sym agree.sent) ∙ agree.converses.spoken

    module _ (g : Gave (setting_of (terms_with format) limit before true) agree.used agree.given) where
      client_receives : h.used ++ now.to_client ≡ spelled (g.good ++ g.bad)
      client_receives = sym agree.received ∙ g.given_is

      meant : HasOffer (terms_with format) h.asked h.used → IsFormatMeant format (caps_of now.client).object_format
      meant o =
          noted_meant (terms_with format) h (caps_of now.client) (has_noted (terms_with format) h now.client agree.converses) o g.good g.unsent g.bad g.answers
          now.to_client g.report g.fit g.parts client_receives

      -- the bytes that it sent are the written form of the requests
      wrote : (writes_agent : Option Agent) × (writes_format : Bool) × IsFormatMeant format writes_format
          × (agree.used ++ (now.to_server ++ spelled (left_to_send now.client))
          ≡ spelled (written_all writes_agent writes_format format h.asked ++ farewell h.left))
      wrote = elim agree.in_turn [
        | inl none ↦ (
          None,
          true,
          meant_when_stated format,
          client_sends ∙ ap (λ (l : List Asked). spelled (questions_of (terms_with format) (caps_of now.client) l ++ farewell h.left)) none
              ∙ ap (λ (l : List Asked). spelled (written_all None true format l ++ farewell h.left)) (sym none),
        )
        | inr o ↦ (named_if (caps_of now.client).agent own_agent, (caps_of now.client).object_format, meant o, client_sends)
      ]

      -- the requests that the server read are the first ones that were asked
      read : (after : List Asked) × (h.asked ≡ g.asked ++ after) × All (HasValues format) g.asked
      read =
          let (writes_agent, writes_format, is_meant, sends) = wrote in
          read_front format limit before writes_agent writes_format h.asked g.asked h.left agree.used (now.to_server ++ spelled (left_to_send now.client))
          g.left g.rest is_meant have_values sends g.stream

      -- the packets of the advertisement and of the answers, at any offsets
      abbrev first_packets : List Given
      first_packets = wherever (server_sends (everything format))

      abbrev all_packets : List Given
      all_packets = first_packets ++ wherever g.answers

      all_are : packets_of all_packets ≡ g.good ++ g.unsent
      all_are =
          join_packets first_packets (wherever g.answers)
          ∙ ap (λ (l : List Pkt). l ++ packets_of (wherever g.answers)) (wherever_are (server_sends (everything format)))
          ∙ ap (λ (l : List Pkt). server_sends (everything format) ++ l) (wherever_are g.answers)
          ∙ sym g.parts

      -- the events that they give
      all_give : (after : List Asked) → h.asked ≡ g.asked ++ after → All (HasValues format) g.asked
          → GiveAll (terms_with format) h.asked [] all_packets (announced_offer (everything format) ++ announced_all before.answers g.asked)
          × AreWhole (terms_with format) g.asked (nearest all_packets [])
      all_give after is in_format =
          let t = terms_with format in
          let offer = everything format in
          let are = wherever_are (server_sends offer) in
          let asks : All (AsksIn format) g.asked = All-weaker (HasValues format) (AsksIn format) (asks_in format) g.asked in_format in
          let (gives, whole) = all_arrived t before.answers sound written same_format g.asked [] after (nearest first_packets []) g.answers
          (wherever g.answers) asks (ended_by_flush before.answers g.asked g.answers g.answered)
          (offer_whole t offer first_packets refl are) (wherever_are g.answers) in
          let arrived = offer_received t offer first_packets refl are h.asked in (
            give_all_append t h.asked [] first_packets (wherever g.answers) (announced_offer offer) (announced_all before.answers g.asked) arrived
                (subst (λ (l : List Asked). GiveAll t l (nearest first_packets []) (wherever g.answers) (announced_all before.answers g.asked)) (sym is) gives),
            subst (AreWhole t g.asked) (sym (nearest-append first_packets (wherever g.answers) [])) whole,
          )

      -- the events handed out, of packets that are not refused and of the open one, are the first events of the answers
      handed_out : (later : List Pkt) (more : List ℕ) → packets_of agree.converses.clean ++ later ≡ g.good ++ g.bad
          → agree.converses.rest ++ more ≡ spelled later
          → (others : List EventValue) × (announced_play format before.answers h.asked ≡ h.events ++ others)
      handed_out later more cut onward =
          let t = terms_with format in
          let c = agree.converses in
          let (after, is, in_format) = read in
          let announced = announced_offer (everything format) ++ announced_all before.answers g.asked in
          let (behind, first, last) = before_report t h.asked [] c.clean c.whole g.good g.bad later c.gives g.report cut in
          let fit : AllFit (behind ++ g.bad) =
          fit_back (packets_of c.clean) (behind ++ g.bad)
          (subst AllFit (ap (λ (l : List Pkt). l ++ g.bad) first ∙ append_assoc (packets_of c.clean) behind g.bad) g.fit) in
          let are : packets_of all_packets ≡ packets_of c.clean ++ (behind ++ g.unsent) =
          all_are ∙ ap (λ (l : List Pkt). l ++ g.unsent) first ∙ append_assoc (packets_of c.clean) behind g.unsent in
          let (others, front) = first_events t h.asked [] c.clean all_packets c.whole announced behind g.unsent g.bad c.rest more c.gives
          (all_give after is in_format).0 are g.report (onward ∙ ap spelled last) fit c.reads.splits.ends in
          let events : announced ≡ h.events ++ others = front ∙ ap (λ (l : List EventValue). l ++ others) (sym c.events_are) in
          let all : announced_all before.answers h.asked ≡ announced_all before.answers g.asked ++ announced_all before.answers after =
          ap (announced_all before.answers) is ∙ flat_map-append (λ (q : Asked). announced_by before.answers q ++ ended ∷ []) g.asked after in (
            others ++ announced_all before.answers after,
            ap (λ (l : List EventValue). announced_offer (everything format) ++ l) all
                ∙ sym (append_assoc (announced_offer (everything format)) (announced_all before.answers g.asked) (announced_all before.answers after))
                ∙ ap (λ (l : List EventValue). l ++ announced_all before.answers after) events
                ∙ append_assoc h.events others (announced_all before.answers after),
          )

      front_by : (others : List EventValue) × (announced_play format before.answers h.asked ≡ h.events ++ others)
      front_by =
          let t = terms_with format in
          let c = agree.converses in
          let f = front_of 0 h.used now.to_client c.given c.rest (g.good ++ g.bad) g.fit c.reads.splits.spelled client_receives in
          elim (all_or_first t h.asked c.clean c.given c.rest (length h.used) (question_in (request_of now.client)) (reader_of now.client)
          (phase_of now.client) c.stands) [
            | inl all ↦ handed_out f.later now.to_client (ap (λ (gs : List Given). packets_of gs ++ f.later) (sym all) ∙ sym f.are) f.onward
            | inr (none, others, cut) ↦
                handed_out (packets_of others ++ f.later) (spelled (packets_of others ++ f.later))
                (sym (append_assoc (packets_of c.clean) (packets_of others) f.later)
                ∙ ap (λ (l : List Pkt). l ++ f.later) (sym (join_packets c.clean others) ∙ ap packets_of (sym cut)) ∙ sym f.are)
                (ap (λ (l : List ℕ). l ++ spelled (packets_of others ++ f.later)) none)
          ]

    front : (IsPackLost (outcome_of now.server) → ⊥) → (others : List EventValue) × (announced_play format before.answers h.asked ≡ h.events ++ others)
    front kept = front_by (gave state now.server (setting_of (terms_with format) limit before true) agree.used agree.over agree.given agree.runs kept)

    -- ---- what is refused

    -- the packet that the client refuses, after the good ones, is not one that the server sent
    refused_none : (g : Gave (setting_of (terms_with format) limit before true) agree.used agree.given) → g.bad ≡ [] → (bad : Given) (kind : Kind)
        → agree.converses.given ≡ agree.converses.clean ++ bad ∷ []
        → RefusesAt (terms_with format) h.asked (nearest agree.converses.clean []) bad.packet kind → ⊥
    refused_none g none bad kind cut refused =
        let t = terms_with format in
        let c = agree.converses in
        let f = front_of 0 h.used now.to_client c.given c.rest (g.good ++ g.bad) g.fit c.reads.splits.spelled (client_receives g) in
        let (after, is, in_format) = read g in
        let front : g.good ≡ (packets_of c.clean ++ bad.packet ∷ []) ++ f.later =
        sym (append-nil g.good) ∙ ap (λ (l : List Pkt). g.good ++ l) (sym none) ∙ f.are
        ∙ ap (λ (l : List Pkt). l ++ f.later) (ap packets_of cut ∙ join_packets c.clean (bad ∷ [])) in
        let are : packets_of (all_packets g) ≡ packets_of c.clean ++ (bad.packet ∷ (f.later ++ g.unsent)) =
        all_are g ∙ ap (λ (l : List Pkt). l ++ g.unsent) (front ∙ append_assoc (packets_of c.clean) (bad.packet ∷ []) f.later)
        ∙ append_assoc (packets_of c.clean) (bad.packet ∷ f.later) g.unsent in
        let (events, at) = given_at t h.asked [] c.clean (all_packets g) bad.packet
        (announced_offer (everything format) ++ announced_all before.answers g.asked)
        (f.later ++ g.unsent) (all_give g after is in_format).0 are in
        excluded t h.asked (nearest c.clean []) bad.packet events kind at refused

    -- and the bytes after the packets can become one
    rest_open : (g : Gave (setting_of (terms_with format) limit before true) agree.used agree.given) → IsOpen (agree.converses.rest ++ now.to_client)
    rest_open g =
        let c = agree.converses in
        let f = front_of 0 h.used now.to_client c.given c.rest (g.good ++ g.bad) g.fit c.reads.splits.spelled (client_receives g) in
        subst IsOpen (sym f.onward) (spelled_open f.later f.fit)

    fault_by : (g : Gave (setting_of (terms_with format) limit before true) agree.used agree.given) → g.bad ≡ [] → (phase : Phase) (fault : Fault)
        → fault_in phase ≡ Some fault
        → StandsIn phase (terms_with format) h.asked agree.converses.clean agree.converses.given agree.converses.rest (length h.used)
        (question_in (request_of now.client)) (reader_of now.client) → (fault.kind ≡ Truncated) ⊎ (fault.kind ≡ StreamTooLong)
    fault_by g none (Failed met) fault e (inl p) = absurd (refused_none g none p.bad met.kind p.cut p.refused)
    fault_by g none (Failed met) fault e (inr (inl p)) =
        let same : met ≡ fault = cc in
        let at = length h.used - length agree.converses.rest in
        elim (stop_kind at agree.converses.rest (length h.used) met.kind met.offset p.by) [
          | inl kind ↦ subst (λ (f : Fault). (f.kind ≡ Truncated) ⊎ (f.kind ≡ StreamTooLong)) same kind
          | inr refused ↦ absurd (not_open_and_faulty at (agree.converses.rest ++ now.to_client) met (rest_open g)
              (fault_longer at agree.converses.rest now.to_client met refused))
        ]
    fault_by g none (Failed met) fault e (inr (inr p)) =
        let same : met ≡ fault = cc in subst (λ (f : Fault). (f.kind ≡ Truncated) ⊎ (f.kind ≡ StreamTooLong)) same (inl p.kind)
    fault_by g none phase fault e h = absurd (cc)

    no_refusal : (HasRefused now.server → ⊥) → (fault : Fault) → fault_of now.client ≡ Some fault → (fault.kind ≡ Truncated) ⊎ (fault.kind ≡ StreamTooLong)
    no_refusal clean fault failed =
        let (g, none) = gave_clean state now.server (setting_of (terms_with format) limit before true) agree.used agree.over agree.given agree.runs clean in
        fault_by g none (phase_of now.client) fault failed agree.converses.stands

    -- ---- what can be done next

    -- if both wait for bytes, some are on their way
    some_on_the_way : wants_input now.server ≡ true → waits_for_input now.client ≡ true → now.to_server ≡ [] → now.to_client ≡ [] → ⊥
    some_on_the_way waits expected no_questions no_answers =
        let t = terms_with format in
        let s = setting_of (terms_with format) limit before true in
        let c = agree.converses in
        let a : IsAnswered s agree.used agree.given = all_answered state now.server s agree.used agree.over agree.given agree.runs waits in
        let g = gave_all s agree.used agree.given a in
        let good = server_sends (everything format) ++ a.answers in
        let (writes_agent, writes_format, is_meant, sends) = wrote g in
        let silent = nothing_left (phase_of now.client) (request_of now.client) expected in
        let stays : h.left ≡ false = c.left ∙ silent.1 in
        let all : agree.used ≡ spelled (written_all writes_agent writes_format format h.asked) =
        sym (append-nil agree.used)
        ∙ ap (λ (l : List ℕ). agree.used ++ l) (sym (ap (λ (l : List ℕ). l ++ spelled (left_to_send now.client)) no_questions ∙ ap spelled silent.0)) ∙ sends
        ∙ ap (λ (left : Bool). spelled (written_all writes_agent writes_format format h.asked ++ farewell left)) stays
        ∙ ap spelled (append-nil (written_all writes_agent writes_format format h.asked)) in
        let (same, in_format) = stream_asks format FlushOnly limit before true writes_agent writes_format h.asked is_meant have_values all a in
        let whole : AreWhole t h.asked (nearest (all_packets g) []) =
        subst (λ (l : List Asked). AreWhole t l (nearest (all_packets g) [])) same
        (all_give g [] (sym same ∙ sym (append-nil a.asked)) (subst (All (HasValues format)) (sym same) in_format)).1 in
        let goes = awaits_more t h now.client c expected in
        let used : h.used ≡ spelled good = sym (append-nil h.used) ∙ ap (λ (l : List ℕ). h.used ++ l) (sym no_answers) ∙ sym agree.received ∙ a.given_is in
        let split = are_spelled h.used good a.fit used in
        let one = one_split 0 h.used goes.given split.given goes.rest [] goes.splits.spelled split.splits.spelled goes.splits.ends split.splits.ends in
        let packets : packets_of (all_packets g) ≡ packets_of goes.given =
        all_are g ∙ append-nil good ∙ sym (ap packets_of one.packets ∙ split.are) in
        let order : nearest (all_packets g) [] ≡ nearest goes.given [] =
        nearest_pushed (all_packets g) [] ∙ ap (λ (ps : List Pkt). pushed ps []) packets ∙ sym (nearest_pushed goes.given []) in
        let none = none_expected t h.asked (nearest goes.given []) (subst (AreWhole t h.asked) order whole) in
        let (place, some) = goes.expected in
        cc

    by_bytes : (questions answers : List ℕ) → now.to_server ≡ questions → now.to_client ≡ answers → wants_input now.server ≡ true
        → waits_for_input now.client ≡ true → HasBytes state now
    by_bytes (byte ∷ questions) answers is are waits expected = inl (waits, λ none. cc)
    by_bytes [] (byte ∷ answers) is are waits expected = inr (expected, λ none. cc)
    by_bytes [] [] is are waits expected = absurd (some_on_the_way waits expected is are)

    by_server : (waits : Bool) → wants_input now.server ≡ waits → waits_for_input now.client ≡ true → outcome_of now.server ≡ None → CanGoOn state now
    by_server false is expected goes = inr (inr (inl (server_gives state now.server is goes)))
    by_server true is expected goes = inr (inr (inr (by_bytes now.to_server now.to_client refl refl is expected)))

    by_client : (ready expected : Bool) → can_ask now.client ≡ ready → waits_for_input now.client ≡ expected → fault_of now.client ≡ None
        → has_left now.client ≡ false → outcome_of now.server ≡ None → CanGoOn state now
    by_client true expected is waits none stays goes = inl is
    by_client false false is waits none stays goes = inr (inl (client_gives now.client is waits none stays))
    by_client false true is waits none stays goes = by_server (wants_input now.server) refl waits goes

    can_go_on : fault_of now.client ≡ None → has_left now.client ≡ false → outcome_of now.server ≡ None → CanGoOn state now
    can_go_on = by_client (can_ask now.client) (waits_for_input now.client) refl refl

  -- ---- from call to call

  server_keeps : (refuses : ℕ → Type 0) (h : History) (call : ServerCall) (old new : BothEnds R A) → MovesServer state refuses call old new
      → Agree h old → Agree h new
  server_keeps refuses h call old new m a =
      let s = setting_of (terms_with format) limit before true in
      let (over, runs) = runs_on state refuses call s a.used a.over a.given m.before old.server m.after new.server m.makes a.runs in
      record {
        used = a.used ++ used_by call;
        over = over;
        given = a.given ++ given_with call;
        runs = runs;
        converses = subst (Converses (terms_with format) h) (sym m.same) a.converses;
        in_turn = a.in_turn;
        sent = a.sent ∙ ap (λ (l : List ℕ). a.used ++ l) m.used ∙ sym (append_assoc a.used (used_by call) new.to_server);
        received = ap (λ (l : List ℕ). l ++ given_with call) a.received ∙ append_assoc h.used old.to_client (given_with call)
            ∙ ap (λ (l : List ℕ). h.used ++ l) (sym m.gave);
      }

  client_keeps : (h : History) (call : ClientCall A) (old new : BothEnds R A) → MovesClient state call old new → Agree h old → Agree (after_call h call) new
  client_keeps h call old new m a =
      let t = terms_with format in
      let s = setting_of t limit before true in
      let (sends, takes) = history_adds h call in
      record {
        used = a.used;
        over = a.over;
        given = a.given;
        runs = subst (Running state s a.used a.over a.given) (sym m.same) a.runs;
        converses = goes_on t call h m.before old.client m.after new.client m.makes a.converses;
        in_turn = asks_after_offer t call h m.before old.client m.after new.client m.makes a.converses a.in_turn;
        sent = sends ∙ ap (λ (l : List ℕ). l ++ sent_by call) a.sent ∙ append_assoc a.used old.to_server (sent_by call)
            ∙ ap (λ (l : List ℕ). a.used ++ l) (sym m.gave);
        received = a.received ∙ ap (λ (l : List ℕ). h.used ++ l) m.used ∙ sym (append_assoc h.used (taken_by call) new.to_client)
            ∙ ap (λ (l : List ℕ). l ++ new.to_client) (sym takes);
      }

  all_keep : (refuses : ℕ → Type 0) (calls : List (EitherCall A)) (h : History) (old new : BothEnds R A) → MoveAll state refuses calls old new → Agree h old
      → Agree (history_after h (calls_of_client calls)) new
  all_keep refuses [] h old new same a = subst (Agree h) (sym same) a
  all_keep refuses (of_server call ∷ calls) h old new (between, moves, more) a =
      all_keep refuses calls h between new more (server_keeps refuses h call old between moves a)
  all_keep refuses (of_client call ∷ calls) h old new (between, moves, more) a =
      all_keep refuses calls (after_call h call) between new more (client_keeps h call old between moves a)

-- ---- after any calls

module _ {R A : Type 0} (state : R → RepoState) (refuses : ℕ → Type 0) where
  move_more : (calls : List (EitherCall A)) (call : EitherCall A) (old now next : BothEnds R A)
      → MoveAll state refuses calls old now → Moves state refuses call now next
      → MoveAll state refuses (calls ++ call ∷ []) old next
  move_more [] call old now next same moves = (next, subst (λ (e : BothEnds R A). Moves state refuses call e next) same moves, refl)
  move_more (first ∷ calls) call old now next (between, moved, more) moves = (between, moved, move_more calls call between now next more moves)

  pub one_more_call : (format : Format) (limit : ℕ) (before : RepoState) (calls : List (EitherCall A)) (call : EitherCall A) (now next : BothEnds R A)
      → HaveMet state refuses format limit before calls now → Moves state refuses call now next → All (HasValues format) (history_of (calls ++ call ∷ [])).asked
      → HaveMet state refuses format limit before (calls ++ call ∷ []) next
  one_more_call format limit before calls call now next met moves values = record {
    first = met.first;
    new_server = met.new_server;
    new_client = met.new_client;
    none_to_server = met.none_to_server;
    none_to_client = met.none_to_client;
    moved = move_more calls call met.first now next met.moved moves;
    sound = met.sound;
    written = met.written;
    same_format = met.same_format;
    values = values;
  }

module _ {R A : Type 0} (state : R → RepoState) (refuses : ℕ → Type 0) (format : Format) (limit : ℕ) (before : RepoState)
    (calls : List (EitherCall A)) (now : BothEnds R A) (met : HaveMet state refuses format limit before calls now) where
  agrees : Agree state format limit before met.sound met.written met.same_format (history_of calls) now
  agrees = all_keep state format limit before met.sound met.written met.same_format refuses calls nothing_yet met.first now met.moved (record {
    used = [];
    over = false;
    given = [];
    runs = met.new_server;
    converses = met.new_client;
    in_turn = inl refl;
    sent = sym met.none_to_server;
    received = sym met.none_to_client;
  })

  pub front_received : (IsPackLost (outcome_of now.server) → ⊥)
      → (others : List EventValue) × (announced_play format before.answers (history_of calls).asked ≡ (history_of calls).events ++ others)
  front_received = front state format limit before met.sound met.written met.same_format (history_of calls) now agrees met.values

  pub nothing_refused : (HasRefused now.server → ⊥) → (fault : Fault) → fault_of now.client ≡ Some fault
      → (fault.kind ≡ Truncated) ⊎ (fault.kind ≡ StreamTooLong)
  nothing_refused = no_refusal state format limit before met.sound met.written met.same_format (history_of calls) now agrees met.values

  pub one_goes_on : fault_of now.client ≡ None → has_left now.client ≡ false → outcome_of now.server ≡ None → CanGoOn state now
  one_goes_on = can_go_on state format limit before met.sound met.written met.same_format (history_of calls) now agrees met.values
