-- What the client has done when a packet is settled.
use Rattle.std.proofs.Common.{arith, ◌≡◌, ◌≢◌, ◌⊎◌, inl, inr, ℕ, ◌<◌, ◌≤◌, true, false, List, [], ◌∷◌, length, take, drop, map}
use Rattle.std.proofs.Common.{Bor, Some, None, Result, Ok, Err, refl, ap, sym, ◌∙◌, subst}
use Rattle.std.proofs.lemmas.List.{length-take-le}
use Rattle.git_names.specs.declared.object_format.Format.{Format}
use Rattle.git_pkt.specs.Packets.{Pkt, Spells, flush, delim, resp_end, payload, seen, text_of, body_of}
use Rattle.git_pkt.specs.Splits.{Given}
use Rattle.git_pkt.specs.Machine.PacketReader.{Feeds, ReadsOn, ShownByFeed, Announces, given_by, held_of, is_open, fault_of as reader_fault_of}
use Rattle.git_pkt.specs.Machine.BandReader.{FeedsBand, IsPart, ReadsBandsOn, AnnouncesBand, part_of, announced_by}
use Rattle.git_pkt.specs.Passed.{on}
use Rattle.git_pkt.specs.declared.band.Band.{Band}
use Rattle.git_pkt.specs.declared.band.Band.TheVariants.{Fatal}
use Rattle.git_pkt.specs.declared.fault.Fault.{Fault}
use Rattle.git_pkt.specs.declared.fault.Kind.{Kind}
use Rattle.git_pkt.specs.declared.packet.Packet.{Packet}
use Rattle.git_pkt.specs.declared.reader.BandFed.{BandFed}
use Rattle.git_pkt.specs.declared.reader.BandGot.{BandGot}
use Rattle.git_pkt.specs.declared.reader.BandGot.TheVariants.{Packet as BandPacketGot, Part as BandPartGot}
use Rattle.git_pkt.specs.declared.reader.Fed.{Fed}
use Rattle.git_pkt.specs.declared.reader.Got.{Got}
use Rattle.git_pkt.specs.declared.reader.Got.TheVariants.{Packet as PacketGot}
use Rattle.git_pkt.specs.declared.reader.PacketReader.{PacketReader}
use Rattle.git_msg.specs.Advertisement.{is_spoken}
use Rattle.git_msg.specs.declared.offers.Caps.{Caps}
use Rattle.git_client.specs.Places.{Place, acknowledgments, shallow_info, wanted_refs, packfile, response_end}
use Rattle.git_client.specs.Events.{EventValue, Gives, Refuses, turns_of, ended_by, events_of_delimiter, events_of_response_end}
use Rattle.git_client.specs.Opened.{events_on}
use Rattle.git_client.specs.Machine.Turns.{fault_in, is_ready, takes_packets, place_expected, phase_after, phase_after_response, phase_in}
use Rattle.git_client.specs.Machine.Turns.{events_at, Fits, IsTurn, Judges}
use Rattle.git_client.specs.Machine.Client.{Comes, Takes, LeavesStep, StandsAfter, phase_judged, outcome_judged, outcome_sent, IsMessage}
use Rattle.git_client.specs.Machine.Client.{Settles, format_of, ending_of, caps_of, phase_of, reader_of, content_last}
use Rattle.git_client.specs.declared.events.Ending.{Ending}
use Rattle.git_client.specs.declared.events.Ending.TheVariants.{FlushOnly, ResponseEnd as WithResponseEnd}
use Rattle.git_client.specs.declared.phase.Phase.{Phase}
use Rattle.git_client.specs.declared.phase.Phase.TheVariants.{Receiving, Ready, Failed}
use Rattle.git_client.specs.declared.phase.Expected.{Expected}
use Rattle.git_client.specs.declared.phase.Expected.TheVariants.{Capabilities, References, Acknowledgments, Packfile, SizeLine, Sizes}
use Rattle.git_client.specs.declared.phase.LineContent.{LineContent}
use Rattle.git_client.specs.declared.phase.LineContent.TheVariants.{Nothing, Offered, Ended}
use Rattle.git_client.specs.declared.phase.Turn.{Turn}
use Rattle.git_client.specs.declared.client.Client.{Client}
use Rattle.git_client.specs.declared.client.Outcome.{Outcome}
use Rattle.git_client.specs.declared.client.Outcome.TheVariants.{More as NothingYet, Passed as PassedNow, Failed as FailedNow}
use Rattle.git_client.proofs.EventSizes.{events_fit, parts_on}
use Rattle.git_client.proofs.PlaceLines.{line_is, band_is}
use Rattle.git_client.proofs.PlacePackets.{one_if, stated_by, stated_if, stated_unless}
use Rattle.git_client.proofs.Refusals.{AnnouncesFault, is_own, why_refused}
use Rattle.git_client.proofs.Reached.{Reaches, reach_bands, reach_lines}
use Rattle.git_client.proofs.Carries.{goes_on, KeepsTerms, ReceivesOnePacket, ReceivesBytes, receives_packet, receives_parts, receives_refused, receives_failed}

-- after a packet without an error the client receives more or can ask
pub goes_after : (ending : Ending) (expected : Expected) (p : Pkt) → goes_on (phase_after ending expected p) ≡ true
goes_after ending expected (payload bytes) = refl
goes_after ending expected delim = refl
goes_after ending Capabilities flush = refl
goes_after FlushOnly _ flush = refl
goes_after WithResponseEnd _ flush = refl
goes_after ending expected resp_end = refl

-- the packet is a turn exactly if the client can ask after it
abbrev pub IsTurnTo : Phase → List EventValue → Type 0
IsTurnTo next events = turns_of events ≡ one_if (is_ready next)

abbrev TurnsAfter : Format → Ending → Caps → Expected → Pkt → List EventValue → Type 0
TurnsAfter format ending caps expected p events = Gives format ending (place_expected caps format expected) p events
    → IsTurnTo (phase_after ending expected p) events

payload_turn : (format : Format) (ending : Ending) (place : Place) (bytes : List ℕ) (events : List EventValue)
    → Gives format ending place (payload bytes) events → turns_of events ≡ 0
payload_turn format ending packfile bytes events g = (band_is bytes events g).0
payload_turn format ending response_end bytes events g = absurd g
payload_turn format ending place bytes events g = (line_is place format (text_of bytes) events g.conveys).turns

ended_turn : (ending : Ending) (events : List EventValue) → events ≡ ended_by ending → IsTurnTo (phase_after_response ending) events
ended_turn FlushOnly events e = ap turns_of e
ended_turn WithResponseEnd events e = ap turns_of e

flush_turn : (format : Format) (ending : Ending) (caps : Caps) (expected : Expected) (events : List EventValue)
    → TurnsAfter format ending caps expected flush events
flush_turn format ending caps Capabilities events g = ap turns_of (stated_if (is_spoken caps format) _ _ events g)
flush_turn format ending caps References events g = ended_turn ending events (stated_by _ _ events refl g)
flush_turn format ending caps (Acknowledgments announced) events g = ended_turn ending events (stated_unless announced.ready _ _ events g)
flush_turn format ending caps Packfile events g = ended_turn ending events (stated_by _ _ events refl g)
flush_turn format ending caps SizeLine events g = ended_turn ending events (stated_by _ _ events refl g)
flush_turn format ending caps Sizes events g = ended_turn ending events (stated_by _ _ events refl g)
flush_turn format ending caps _ events g = absurd (cc)

delimiter_turn : (place : Place) (events : List EventValue) → events_of_delimiter place ≡ Ok events → turns_of events ≡ 0
delimiter_turn (acknowledgments announced) events g = ap turns_of (stated_if announced.ready _ _ events g)
delimiter_turn shallow_info events g = ap turns_of (stated_by _ _ events refl g)
delimiter_turn wanted_refs events g = ap turns_of (stated_by _ _ events refl g)
delimiter_turn _ events g = absurd (cc)

response_end_turn : (place : Place) (events : List EventValue) → events_of_response_end place ≡ Ok events → turns_of events ≡ 1
response_end_turn response_end events g = ap turns_of (stated_by _ _ events refl g)
response_end_turn _ events g = absurd (cc)

packet_turn : (format : Format) (ending : Ending) (caps : Caps) (expected : Expected) (p : Pkt) (events : List EventValue)
    → TurnsAfter format ending caps expected p events
packet_turn format ending caps expected (payload bytes) events g = payload_turn format ending (place_expected caps format expected) bytes events g
packet_turn format ending caps expected flush events g = flush_turn format ending caps expected events g
packet_turn format ending caps expected delim events g = delimiter_turn (place_expected caps format expected) events g
packet_turn format ending caps expected resp_end events g = response_end_turn (place_expected caps format expected) events g

receives_on : (next : Phase) → goes_on next ≡ true → one_if (is_ready next) ≡ 0 → takes_packets next ≡ true
receives_on (Receiving expected) goes none = refl
receives_on phase goes none = absurd (cc)

can_be_asked : (next : Phase) → one_if (is_ready next) ≡ 1 → is_ready next ≡ true
can_be_asked Ready one = refl
can_be_asked _ one = absurd (cc)

-- whether the client can ask or receives more, after a packet with these contents
abbrev StandsOn : LineContent → Phase → Type 0
StandsOn Offered next = is_ready next ≡ true
StandsOn Ended next = is_ready next ≡ true
StandsOn content next = takes_packets next ≡ true

stands_after : (content : LineContent) (bytes : List ℕ) (next : Phase) → goes_on next ≡ true → IsTurnTo next (events_at content bytes) → StandsOn content next
stands_after Offered bytes next goes turn = can_be_asked next (sym turn)
stands_after Ended bytes next goes turn = can_be_asked next (sym turn)
stands_after content bytes next goes turn = receives_on next goes (sym turn)

-- an error of a packet is never one that the reader reports
shown_by_packet : (p : Pkt) (f : Fault) (used : ℕ) (chunk : List ℕ) → AnnouncesFault p f.kind ⊎ (is_own f.kind ≡ true) → ShownByFeed f used chunk
shown_by_packet p f used chunk (inl announced) = record {
  not_the_end = λ e. subst (λ (k : Kind). IsMessage k announced.line announced.message) e announced.conveys;
  one_more = λ e. absurd (subst (λ (k : Kind). IsMessage k announced.line announced.message) e announced.conveys);
}
shown_by_packet p f used chunk (inr own) = record {
  not_the_end = λ e. let never = sym own ∙ ap is_own e in absurd (cc);
  one_more = λ e. let never = sym own ∙ ap is_own e in absurd (cc);
}

some_taken : (chunk : List ℕ) (used : ℕ) → 0 < used → used ≤ length chunk → 0 < length (take used chunk)
some_taken chunk used some within = omega (arith, some, length-take-le used chunk within)

module _ {A : Type 0} where
  -- the events of a packet's contents are returned, with its bytes in the hold
  comes : (content : LineContent) (body : List ℕ) (used : ℕ) (chunk : List ℕ) (new : Client A) → content_last new ≡ content
      → drop 4 (held_of (reader_of new)) ≡ body
      → Fits content body → Comes (outcome_sent content) (events_at content body) used chunk new
  comes Nothing body used chunk new is held fits = refl
  comes content body used chunk new is held fits = (
    ap (λ (s : LineContent). events_at s body) (sym is) ∙ ap (events_at (content_last new)) (sym held),
    (λ none. let e : content ≡ Nothing = sym is ∙ none in absurd (cc)),
    subst (Fits (content_last new)) (sym held) (subst (λ (s : LineContent). Fits s body) (sym is) fits),
  )

  leaves : (content : LineContent) (used : ℕ) (chunk : List ℕ) (new : Client A) → content_last new ≡ content → 0 < used → is_open (reader_of new) ≡ false
      → StandsOn content (phase_of new) → LeavesStep (outcome_sent content) used chunk new
  leaves Nothing used chunk new is some shut stands = (stands, λ _. some)
  leaves Offered used chunk new is some shut stands = (some, shut, subst (λ (s : LineContent). StandsAfter s new) (sym is) stands)
  leaves Ended used chunk new is some shut stands = (some, shut, subst (λ (s : LineContent). StandsAfter s new) (sym is) stands)
  leaves content used chunk new is some shut stands = (some, shut, subst (λ (s : LineContent). StandsAfter s new) (sym is) stands)

  taken_well : (old new : Client A) (expected : Expected) (chunk : List ℕ) (used : ℕ) (g : Given) (found : LineContent) (turn : Turn)
      → ReceivesOnePacket old new expected (take used chunk) g
      → 0 < used → IsTurn (format_of old) (ending_of old) expected (caps_of old) g.packet found (caps_of new) turn → phase_of new ≡ phase_in turn
      → content_last new ≡ found → Takes old chunk (record { used = used; outcome = outcome_sent found }) new
  taken_well old new expected chunk used g found turn b some judged now content =
      let body = body_of g.packet in
      let goes : goes_on (phase_in turn) ≡ true = ap goes_on judged.next ∙ goes_after (ending_of old) expected g.packet in
      let turns : IsTurnTo (phase_in turn) (events_at found body) =
      subst (λ (phase : Phase). IsTurnTo phase (events_at found body)) (sym judged.next)
      (packet_turn (format_of old) (ending_of old) (caps_of old) expected g.packet (events_at found body) judged.gives) in
      record {
        events = events_at found body;
        comes = comes found body used chunk new content b.held.body judged.fits;
        arrives = receives_packet old new expected (take used chunk) g found turn b judged goes now;
        leaves = leaves found used chunk new content some b.shut (subst (StandsOn found) (sym now) (stands_after found body (phase_in turn) goes turns));
        any = b.bytes.terms.any;
        fits = events_fit (format_of old) (ending_of old) (place_expected (caps_of old) (format_of old) expected)
            g.packet (events_at found body) judged.gives b.held.fits;
      }

  taken_badly : (old new : Client A) (expected : Expected) (chunk : List ℕ) (used : ℕ) (g : Given) (kind : Kind)
      → ReceivesOnePacket old new expected (take used chunk) g
      → Refuses (format_of old) (ending_of old) (place_expected (caps_of old) (format_of old) expected) g.packet kind
      → phase_of new ≡ Failed (record { kind = kind; offset = g.offset }) → caps_of new ≡ caps_of old
      → Takes old chunk (record { used = used; outcome = FailedNow (record { kind = kind; offset = g.offset }) }) new
  taken_badly old new expected chunk used g kind b judged failed caps =
      let why = why_refused (format_of old) (ending_of old) (place_expected (caps_of old) (format_of old) expected) g.packet kind judged in
      record {
        events = [];
        comes = refl;
        arrives = receives_refused old new expected (take used chunk) g kind b judged failed caps;
        leaves = (ap fault_in failed, shown_by_packet g.packet (record { kind = kind; offset = g.offset }) used chunk why);
        any = b.bytes.terms.any;
        fits = omega arith;
      }

  -- the bytes that `feed` used, with what it returned for them
  pub fed_bytes : (old read : Client A) (expected : Expected) (chunk : List ℕ) (fed : Fed) (got : Got) → phase_of old ≡ Receiving expected → expected ≢ Packfile
      → KeepsTerms old read
      → Feeds (reader_of old) chunk fed (reader_of read) → fed.got ≡ got
      → ReceivesBytes old read expected (take fed.used chunk) (given_by got) []
  fed_bytes old read expected chunk fed got receiving other terms feeds is = record {
    receiving = receiving;
    reaches = reach_lines old expected (take fed.used chunk) (given_by got) (reader_of read) receiving other
        (subst (λ (got : Got). ReadsOn (reader_of old) (take fed.used chunk) (given_by got) (reader_of read)) is feeds.reads);
    terms = terms;
  }

  -- and those that `feed_band` used
  pub fed_bands : (old read : Client A) (chunk : List ℕ) (fed : BandFed) (got : BandGot) → phase_of old ≡ Receiving Packfile
      → KeepsTerms old read
      → FeedsBand (reader_of old) chunk fed (reader_of read) → fed.got ≡ got
      → ReceivesBytes old read Packfile (take fed.used chunk) (announced_by got) (events_on (part_of got))
  fed_bands old read chunk fed got receiving terms feeds is = record {
    receiving = receiving;
    reaches = reach_bands old (take fed.used chunk) (announced_by got) (part_of got) (reader_of read) receiving
        (subst (λ (got : BandGot). ReadsBandsOn (reader_of old) (take fed.used chunk) (announced_by got) (part_of got) (reader_of read)) is feeds.reads);
    terms = terms;
  }

  -- a packet was read whole, and is in the hold
  pub record ReadsPacket (old read : Client A) (expected : Expected) (u : List ℕ) (g : Given) : Type 0 where
    pub receiving : phase_of old ≡ Receiving expected
    pub reaches : Reaches old expected u (g ∷ []) [] (reader_of read)
    pub some : 0 < length u
    pub sound : reader_fault_of (reader_of read) ≡ None
    pub shut : is_open (reader_of read) ≡ false
    pub held : Spells g.packet (held_of (reader_of read))

  -- the steps after it do not change the reader
  packet_read : (old read new : Client A) (expected : Expected) (u : List ℕ) (g : Given) → ReadsPacket old read expected u g
      → reader_of new ≡ reader_of read → KeepsTerms old new
      → ReceivesOnePacket old new expected u g
  packet_read old read new expected u g r same terms = record {
    bytes = record {
      receiving = r.receiving;
      reaches = subst (Reaches old expected u (g ∷ []) []) (sym same) r.reaches;
      terms = terms;
    };
    sound = ap reader_fault_of same ∙ r.sound;
    shut = ap is_open same ∙ r.shut;
    held = subst (λ (reader : PacketReader). Spells g.packet (held_of reader)) (sym same) r.held;
  }

  -- by `feed`
  pub fed_packet : (old read : Client A) (expected : Expected) (chunk : List ℕ) (fed : Fed) (packet : Packet) (offset : ℕ) → phase_of old ≡ Receiving expected
      → expected ≢ Packfile → fed.used ≤ length chunk → Feeds (reader_of old) chunk fed (reader_of read) → fed.got ≡ PacketGot packet offset
      → ReadsPacket old read expected (take fed.used chunk) (record { packet = seen packet; offset = offset })
  fed_packet old read expected chunk fed packet offset receiving other within feeds got =
      let u = take fed.used chunk in
      let g : Given = record { packet = seen packet; offset = offset } in
      let announces : Announces (PacketGot packet offset) fed.used chunk (reader_of read) =
      subst (λ (got : Got). Announces got fed.used chunk (reader_of read)) got feeds.announces in
      record {
        receiving = receiving;
        reaches = reach_lines old expected u (g ∷ []) (reader_of read) receiving other
            (subst (λ (got : Got). ReadsOn (reader_of old) u (given_by got) (reader_of read)) got feeds.reads);
        some = some_taken chunk fed.used announces.0 within;
        sound = announces.1;
        shut = announces.2;
        held = announces.3;
      }

  -- by `feed_band`
  pub fed_band_packet : (old read : Client A) (chunk : List ℕ) (fed : BandFed) (packet : Packet) (offset : ℕ) → phase_of old ≡ Receiving Packfile
      → fed.used ≤ length chunk → FeedsBand (reader_of old) chunk fed (reader_of read) → fed.got ≡ BandPacketGot packet offset
      → ReadsPacket old read Packfile (take fed.used chunk) (record { packet = seen packet; offset = offset })
  fed_band_packet old read chunk fed packet offset receiving within feeds got =
      let u = take fed.used chunk in
      let g : Given = record { packet = seen packet; offset = offset } in
      let announces : AnnouncesBand (BandPacketGot packet offset) fed.used chunk (reader_of read) =
      subst (λ (got : BandGot). AnnouncesBand got fed.used chunk (reader_of read)) got feeds.announces in
      record {
        receiving = receiving;
        reaches = reach_bands old u (g ∷ []) [] (reader_of read) receiving
            (subst (λ (got : BandGot). ReadsBandsOn (reader_of old) u (announced_by got) (part_of got) (reader_of read)) got feeds.reads);
        some = some_taken chunk fed.used announces.0 within;
        sound = announces.1;
        shut = announces.2;
        held = announces.3;
      }

  -- a packet was judged and settled
  taken : (old new : Client A) (expected : Expected) (chunk : List ℕ) (used : ℕ) (g : Given) (content : LineContent) (judged : Result Turn Kind)
      → ReceivesOnePacket old new expected (take used chunk) g → 0 < used
      → Judges (format_of old) (ending_of old) expected (caps_of old) g.packet content (caps_of new) judged
      → phase_of new ≡ phase_judged g.offset judged → content_last new ≡ content
      → Takes old chunk (record { used = used; outcome = outcome_judged g.offset content judged }) new
  taken old new expected chunk used g content (Ok turn) b some judged now is = taken_well old new expected chunk used g content turn b some judged now is
  taken old new expected chunk used g content (Err kind) b some (refused, same) now is = taken_badly old new expected chunk used g kind b refused now same

  -- a packet was read whole, judged and settled
  pub settled : (old read new : Client A) (expected : Expected) (chunk : List ℕ) (used : ℕ) (g : Given) (judged : Result Turn Kind)
      (outcome : Outcome) → ReadsPacket old read expected (take used chunk) g → used ≤ length chunk
      → Judges (format_of old) (ending_of old) expected (caps_of old) g.packet (content_last read) (caps_of read) judged
      → KeepsTerms old read
      → Settles read judged g.offset outcome new → Takes old chunk (record { used = used; outcome = outcome }) new
  settled old read new expected chunk used g judged outcome r within found terms settles =
      let arrives = packet_read old read new expected (take used chunk) g r settles.reader (record {
        format = settles.format ∙ terms.format;
        any = settles.any ∙ terms.any;
        ending = settles.ending ∙ terms.ending;
        agent = settles.agent ∙ terms.agent;
      }) in
      let judges = subst (λ (c : Caps). Judges (format_of old) (ending_of old) expected (caps_of old) g.packet (content_last read) c judged)
      (sym settles.caps) found in
      subst (λ (outcome : Outcome). Takes old chunk (record { used = used; outcome = outcome }) new) (sym settles.announces)
      (taken old new expected chunk used g (content_last read) judged arrives (omega (arith, r.some, length-take-le used chunk within)) judges settles.phase
      settles.content)

  -- bytes that the packet reader refuses
  pub taken_failed : (old new : Client A) (expected : Expected) (chunk : List ℕ) (used : ℕ) (f : Fault) → ReceivesBytes old new expected (take used chunk) [] []
      → reader_fault_of (reader_of new) ≡ Some f → ShownByFeed f used chunk → phase_of new ≡ Failed f → caps_of new ≡ caps_of old
      → Takes old chunk (record { used = used; outcome = FailedNow f }) new
  taken_failed old new expected chunk used f b announced shown now caps = record {
    events = [];
    comes = refl;
    arrives = receives_failed old new expected (take used chunk) f b announced now caps;
    leaves = (ap fault_in now, shown);
    any = b.terms.any;
    fits = omega arith;
  }

  -- all bytes were used, and no packet was returned
  pub taken_all : (old new : Client A) (expected : Expected) (chunk : List ℕ) (used : ℕ) → ReceivesBytes old new expected (take used chunk) [] []
      → used ≡ length chunk → reader_fault_of (reader_of new) ≡ None → phase_of new ≡ Receiving expected → caps_of new ≡ caps_of old
      → Takes old chunk (record { used = used; outcome = NothingYet }) new
  taken_all old new expected chunk used b all sound now caps = record {
    events = [];
    comes = refl;
    arrives = receives_parts old new expected (take used chunk) [] b sound now caps;
    leaves = (ap takes_packets now, λ some. omega (arith, all, some));
    any = b.terms.any;
    fits = omega arith;
  }

  -- bytes that passed
  pub taken_part : (old new : Client A) (chunk : List ℕ) (used : ℕ) (band : Band) (bytes : List ℕ) (count : ℕ)
      → ReceivesBytes old new Packfile (take used chunk) [] (events_on (map (on band) bytes)) → band ≢ Fatal → IsPart bytes used chunk (reader_of new)
      → length bytes ≡ count → phase_of new ≡ Receiving Packfile → caps_of new ≡ caps_of old
      → Takes old chunk (record { used = used; outcome = PassedNow (record { band = band; count = count }) }) new
  taken_part old new chunk used band bytes count b on_band part long now caps = record {
    events = events_on (map (on band) bytes);
    comes = (
      bytes,
      long,
      omega (arith, part.some, long),
      on_band,
      record { front = part.front; lies = part.lies; all = part.all },
      refl,
    );
    arrives = receives_parts old new Packfile (take used chunk) (events_on (map (on band) bytes)) b part.no_fault now caps;
    leaves = (part.uses, ap takes_packets now);
    any = b.terms.any;
    fits = omega (arith, parts_on band bytes, part.fits);
  }

  -- all of a packet whose bytes pass, or a part of it
  pub taken_band : (old read : Client A) (chunk : List ℕ) (fed : BandFed) (band : Band) (bytes : Bor (List ℕ)) (count : ℕ)
      → phase_of old ≡ Receiving Packfile → KeepsTerms old read
      → FeedsBand (reader_of old) chunk fed (reader_of read) → fed.got ≡ BandPartGot band bytes → length bytes.now ≡ count
      → phase_of read ≡ Receiving Packfile → caps_of read ≡ caps_of old
      → Takes old chunk (record { used = fed.used; outcome = PassedNow (record { band = band; count = count }) }) read
  taken_band old read chunk fed band bytes count receiving terms feeds is long now caps =
      let announces : AnnouncesBand (BandPartGot band bytes) fed.used chunk (reader_of read) =
      subst (λ (got : BandGot). AnnouncesBand got fed.used chunk (reader_of read)) is feeds.announces in
      taken_part old read chunk fed.used band bytes.now count
      (fed_bands old read chunk fed (BandPartGot band bytes) receiving terms feeds is) announces.0 announces.1 long now caps
