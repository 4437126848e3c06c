-- What the client returns for a step whose event does not borrow from the hold.
use Rattle.std.proofs.Common.{arith, ◌≡◌, ◌≢◌, ◌≤◌, ◌<◌, ℕ, List, [], length, map, take, true, Some, ap, sym, ◌∙◌, refl, subst}
use Rattle.std.proofs.Common.{length-append}
use Rattle.std.proofs.lemmas.List.{length-map, length-take-le}
use Rattle.git_pkt.specs.Packets.{longest_payload}
use Rattle.git_pkt.specs.Passed.{on}
use Rattle.git_pkt.specs.Machine.BandReader.{IsPart}
use Rattle.git_pkt.specs.Machine.PacketReader.{ShownByFeed}
use Rattle.git_pkt.specs.declared.band.Band.{Band}
use Rattle.git_pkt.specs.declared.band.Band.TheVariants.{Fatal, Pack, Progress}
use Rattle.git_pkt.specs.declared.fault.Fault.{Fault}
use Rattle.git_pkt.specs.declared.reader.PacketReader.{PacketReader}
use Rattle.git_pkt.proofs.BandFeeds.{last_of_used}
use Rattle.git_client.specs.Events.{EventValue, pack, progress, all_parts_length}
use Rattle.git_client.specs.Opened.{events_on}
use Rattle.git_client.specs.Machine.Turns.{fault_in, takes_packets, values_of}
use Rattle.git_client.specs.Machine.HandedOut.{HandsOut, HasPart, Shows}
use Rattle.git_client.specs.Machine.Client.{EndsAt, Feeds, ReceivesOn, IsPassed, LeavesAfter, Takes, events_of, phase_of, wants_input}
use Rattle.git_client.specs.declared.events.Event.{Event}
use Rattle.git_client.specs.declared.events.Event.TheVariants.{Pack as PackEvent, Progress as ProgressEvent}
use Rattle.git_client.specs.declared.events.Received.{Received}
use Rattle.git_client.specs.declared.events.ReceivedGot.{ReceivedGot}
use Rattle.git_client.specs.declared.events.ReceivedGot.TheVariants.{More as MoreGot, Event as EventGot, Failed as FailedGot}
use Rattle.git_client.specs.declared.phase.Phase.{Phase}
use Rattle.git_client.specs.declared.phase.Phase.TheVariants.{Receiving}
use Rattle.git_client.specs.declared.client.Client.{Client}
use Rattle.git_client.specs.declared.client.Outcome.{Outcome}
use Rattle.git_client.specs.declared.client.Outcome.TheVariants.{More, Event as EventNow, Passed as PassedNow, Failed as FailedNow}
use Rattle.git_client.specs.declared.client.Passed.{Passed}
use Rattle.git_client.proofs.EventSizes.{parts_on}
use Rattle.git_client.proofs.Opened.{on_pack, on_progress}

pub has_no_fault : (phase : Phase) → takes_packets phase ≡ true → (f : Fault) → fault_in phase ≡ Some f → ⊥
has_no_fault (Receiving expected) takes f is = cc
has_no_fault _ takes f is = absurd (cc)

no_length : {X : Type 0} (l : List X) → 0 < length l → l ≢ []
no_length l some none = absurd (omega (arith, some, ap length none))

-- a part of a packet, as a step has it
pub is_part : (band : Band) (bytes : List ℕ) (chunk : List ℕ) (used count : ℕ) (reader : PacketReader) → band ≢ Fatal → IsPart bytes used chunk reader
    → length bytes ≡ count → used ≤ length chunk → HasPart (PassedNow (record { band = band; count = count })) used
is_part band bytes chunk used count reader other part long within =
    (omega (arith, long, length-take-le used chunk within, ap length part.lies, length-append part.front bytes), other)

shown_values : (band : Band) (bytes shown : List ℕ) (event : Event) → shown ≡ bytes → Shows band shown event
    → values_of event ≡ events_on (map (on band) bytes)
shown_values Pack bytes shown (PackEvent lent) same is = ap (map pack) (is ∙ same) ∙ sym (on_pack bytes)
shown_values Progress bytes shown (ProgressEvent lent) same is = ap (map progress) (is ∙ same) ∙ sym (on_progress bytes)
shown_values band bytes shown event same is = absurd is

-- its event has no more bytes than a payload
pub part_fits : (band : Band) (bytes : List ℕ) (chunk : List ℕ) (used count : ℕ) (reader : PacketReader) (got : ReceivedGot)
    → IsPart bytes used chunk reader → length bytes ≡ count → used ≤ length chunk
    → HandsOut (PassedNow (record { band = band; count = count })) used chunk got → all_parts_length (events_of got) ≤ longest_payload
part_fits band bytes chunk used count reader (EventGot event) part long within hands =
    let same = last_of_used chunk part.front bytes used count part.lies long within in
    omega (arith, parts_on band bytes, part.fits, ap all_parts_length (shown_values band bytes _ event same hands))
part_fits band bytes chunk used count reader got part long within hands = absurd hands

module _ {A : Type 0} where
  -- an event of these bytes, on this band
  record ShowsPart (band : Band) (bytes : List ℕ) (event : Event) (used : ℕ) (chunk : List ℕ) (new : Client A) : Type 0 where
    values : values_of event ≡ events_on (map (on band) bytes)
    ends : EndsAt event used chunk new
    some : values_of event ≢ []
    leaves : LeavesAfter event new

  shows_part : (band : Band) (bytes shown : List ℕ) (event : Event) (used : ℕ) (chunk : List ℕ) (new : Client A) → shown ≡ bytes → 0 < length bytes
      → IsPassed bytes used chunk new → wants_input new ≡ true → Shows band shown event → ShowsPart band bytes event used chunk new
  shows_part Pack bytes shown (PackEvent lent) used chunk new same some part waits is =
      let all : lent.now ≡ bytes = is ∙ same in
      record {
        values = ap (map pack) all ∙ sym (on_pack bytes);
        ends = subst (λ (l : List ℕ). IsPassed l used chunk new) (sym all) part;
        some = no_length (map pack lent.now) (omega (arith, some, length-map lent.now pack, ap length all));
        leaves = waits;
      }
  shows_part Progress bytes shown (ProgressEvent lent) used chunk new same some part waits is =
      let all : lent.now ≡ bytes = is ∙ same in
      record {
        values = ap (map progress) all ∙ sym (on_progress bytes);
        ends = subst (λ (l : List ℕ). IsPassed l used chunk new) (sym all) part;
        some = no_length (map progress lent.now) (omega (arith, some, length-map lent.now progress, ap length all));
        leaves = waits;
      }
  shows_part band bytes shown event used chunk new same some part waits is = absurd is

  module _ (old new : Client A) (chunk : List ℕ) (used : ℕ) (wants : wants_input old ≡ true) (within : used ≤ length chunk) where
    -- the result, whose events have no more bytes than a payload
    pub record Answers (got : ReceivedGot) : Type 0 where
      pub feeds : Feeds old chunk (record { used = used; got = got }) new
      pub fits : all_parts_length (events_of got) ≤ longest_payload

    pub has_part : (outcome : Outcome) → Takes old chunk (record { used = used; outcome = outcome }) new → HasPart outcome used
    has_part (PassedNow passed) takes =
        let (bytes, long, some, other, part, are) = takes.comes in
        (omega (arith, long, length-take-le used chunk within, ap length part.lies, length-append part.front bytes), other)
    has_part More takes = tt
    has_part EventNow takes = tt
    has_part (FailedNow fault) takes = tt

    answers_part : (passed : Passed) (event : Event) → Takes old chunk (record { used = used; outcome = PassedNow passed }) new
        → HandsOut (PassedNow passed) used chunk (EventGot event) → Answers (EventGot event)
    answers_part passed event takes hands =
        let (bytes, long, some, other, part, are) = takes.comes in
        let same = last_of_used chunk part.front bytes used passed.count part.lies long within in
        let shows = shows_part passed.band bytes _ event used chunk new same (omega (arith, some, long)) part takes.leaves.1 hands in
        let values : values_of event ≡ takes.events = shows.values ∙ sym are in
        record {
          feeds = record {
            arrives = subst (λ (es : List EventValue). ReceivesOn old (take used chunk) es new) (sym values) takes.arrives;
            announces = (takes.leaves.0, shows.ends, shows.some, shows.leaves);
            news = λ f none is. absurd (cc);
            stays = λ f is. absurd (has_no_fault (phase_of old) wants f is);
            waits = λ idle. let never = sym wants ∙ idle in absurd (cc);
            any = takes.any;
          };
          fits = omega (arith, takes.fits, ap all_parts_length values);
        }

    answers_all : Takes old chunk (record { used = used; outcome = More }) new → used ≡ length chunk → Answers MoreGot
    answers_all takes all = record {
      feeds = record {
        arrives = subst (λ (es : List EventValue). ReceivesOn old (take used chunk) es new) takes.comes takes.arrives;
        announces = λ _. (all, takes.leaves.0);
        news = λ f none is. absurd (cc);
        stays = λ f is. absurd (has_no_fault (phase_of old) wants f is);
        waits = λ idle. let never = sym wants ∙ idle in absurd (cc);
        any = takes.any;
      };
      fits = omega arith;
    }

    answers_failed : (fault : Fault) → Takes old chunk (record { used = used; outcome = FailedNow fault }) new → Answers (FailedGot fault)
    answers_failed fault takes = record {
      feeds = record {
        arrives = subst (λ (es : List EventValue). ReceivesOn old (take used chunk) es new) takes.comes takes.arrives;
        announces = takes.leaves.0;
        news = λ f none is. let same : fault ≡ f = cc in subst (λ (x : Fault). ShownByFeed x used chunk) same takes.leaves.1;
        stays = λ f is. absurd (has_no_fault (phase_of old) wants f is);
        waits = λ idle. let never = sym wants ∙ idle in absurd (cc);
        any = takes.any;
      };
      fits = omega arith;
    }

    pub answers : (outcome : Outcome) (got : ReceivedGot) → Takes old chunk (record { used = used; outcome = outcome }) new → (outcome ≡ EventNow → ⊥)
        → (outcome ≡ More → used ≡ length chunk) → HandsOut outcome used chunk got → Answers got
    answers (PassedNow passed) (EventGot event) takes other all hands = answers_part passed event takes hands
    answers (FailedNow fault) (FailedGot announced) takes other all hands = subst (λ (f : Fault). Answers (FailedGot f)) hands (answers_failed fault takes)
    answers More MoreGot takes other all hands = answers_all takes (all refl)
    answers EventNow got takes other all hands = absurd (other refl)
    answers outcome got takes other all hands = absurd hands

  -- the same for a result with as many bytes used
  pub feeds_again : (old new : Client A) (chunk : List ℕ) (arrived : Received) (used : ℕ) → arrived.used ≡ used
      → Feeds old chunk (record { used = used; got = arrived.got }) new → Feeds old chunk arrived new
  feeds_again old new chunk arrived used same feeds =
      subst (λ (n : ℕ). Feeds old chunk (record { used = n; got = arrived.got }) new) (sym same) feeds
