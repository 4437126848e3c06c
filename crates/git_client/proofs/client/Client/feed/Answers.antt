use Rattle.std.proofs.Common.{arith, ◌≡◌, ◌≢◌, ◌≤◌, ◌∙◌, ap, sym, refl, ℕ, zero, suc, List, [], drop, subst, take, true, false}
use Rattle.git_pkt.specs.Machine.Credit.{Pays}
use Rattle.git_pkt.specs.Packets.{longest_payload}
use Rattle.git_pkt.specs.Machine.PacketReader.{held_of, is_open}
use Rattle.git_client.specs.Events.{EventValue, turns_of, all_parts_length}
use Rattle.git_client.specs.Machine.HandedOut.{IsLent}
use Rattle.git_client.specs.Machine.Turns.{events_at, values_of}
use Rattle.git_client.specs.Machine.Client.{EndsAt, Feeds, ReceivesOn, Takes, LeavesAfter, StandsAfter, phase_of, reader_of, content_last, can_ask, wants_input}
use Rattle.git_client.specs.declared.events.Event.{Event}
use Rattle.git_client.specs.declared.events.Event.TheVariants.{Pack, Progress}
use Rattle.git_client.specs.declared.events.ReceivedGot.TheVariants.{Event as EventGot}
use Rattle.git_client.specs.declared.phase.LineContent.{LineContent}
use Rattle.git_client.specs.declared.phase.LineContent.TheVariants.{Nothing}
use Rattle.git_client.specs.declared.client.Client.{Client}
use Rattle.git_client.specs.declared.client.Outcome.{Outcome}
use Rattle.git_client.specs.declared.client.Outcome.TheVariants.{Event as EventNow}
use Rattle.git_client.proofs.HandedOut.{answers, feeds_again, has_no_fault, has_part}
use Rattle.git_client.proofs.Opened.{no_turns}
use Rattle.git_client.proofs.client.Client.feed.Goals as goal

-- contents other than nothing give some event
gives_some : (content : LineContent) (bytes : List ℕ) → content ≢ Nothing → events_at content bytes ≢ []
gives_some Nothing bytes other e = other refl
gives_some content bytes other e = cc

-- the cost of a call that used as many bytes as its step
paid_again : (a b before after credit left : ℕ) → a ≡ b → Pays a before after credit left → Pays b before after credit left
paid_again a b before after credit left same paid = subst (λ (n : ℕ). Pays n before after credit left) same paid

module _ {A : Type 0} where
  -- whether the client can ask or receives more, after so many turns: none or one
  abbrev ComesTo : ℕ → Client A → Type 0
  ComesTo zero new = wants_input new ≡ true
  ComesTo (suc n) new = can_ask new ≡ true

  stated_comes : (content : LineContent) (bytes : List ℕ) (new : Client A) → StandsAfter content new → ComesTo (turns_of (events_at content bytes)) new
  stated_comes Nothing bytes new stands = stands
  stated_comes content bytes new stands = stands

  event_leaves : (event : Event) (new : Client A) → ComesTo (turns_of (values_of event)) new → LeavesAfter event new
  event_leaves (Pack bytes) new comes = subst (λ (n : ℕ). ComesTo n new) (no_turns bytes.now).0 comes
  event_leaves (Progress bytes) new comes = subst (λ (n : ℕ). ComesTo n new) (no_turns bytes.now).1 comes
  event_leaves event new comes = comes

  event_ends : (event : Event) (used : ℕ) (chunk : List ℕ) (new : Client A) → IsLent event → is_open (reader_of new) ≡ false → EndsAt event used chunk new
  event_ends (Pack bytes) used chunk new lent shut = absurd lent
  event_ends (Progress bytes) used chunk new lent shut = absurd lent
  event_ends event used chunk new lent shut = shut

  -- an event for the bytes used
  feeds_event : (old new : Client A) (chunk : List ℕ) (used : ℕ) (outcome : Outcome) (event : Event) → wants_input old ≡ true
      → outcome ≡ EventNow → Takes old chunk (record { used = used; outcome = outcome }) new → IsLent event
      → values_of event ≡ events_at (content_last new) (drop 4 (held_of (reader_of new))) → Feeds old chunk (record { used = used; got = EventGot event }) new
  feeds_event old new chunk used EventNow event wants is takes lent shows =
      let body = drop 4 (held_of (reader_of new)) in
      let comes : ComesTo (turns_of (values_of event)) new =
      subst (λ (es : List EventValue). ComesTo (turns_of es) new) (sym shows) (stated_comes (content_last new) body new takes.leaves.2) in
      record {
        arrives = subst (λ (es : List EventValue). ReceivesOn old (take used chunk) es new) (takes.comes.0 ∙ sym shows) takes.arrives;
        announces = (
          takes.leaves.0,
          event_ends event used chunk new lent takes.leaves.1,
          (λ none. gives_some (content_last new) body takes.comes.1 (sym shows ∙ none)),
          event_leaves event new comes,
        );
        news = λ f none is. absurd (cc);
        stays = λ f is. absurd (has_no_fault (phase_of old) wants f is);
        waits = λ idle. let never = sym wants ∙ idle in absurd (cc);
        any = takes.any;
      }
  feeds_event old new chunk used outcome event wants is takes lent shows = absurd (cc)

  -- its parts lie in the packet that gave it
  event_fits : (old new : Client A) (chunk : List ℕ) (used : ℕ) (outcome : Outcome) (event : Event) → outcome ≡ EventNow
      → Takes old chunk (record { used = used; outcome = outcome }) new
      → values_of event ≡ events_at (content_last new) (drop 4 (held_of (reader_of new))) → all_parts_length (values_of event) ≤ longest_payload
  event_fits old new chunk used EventNow event is takes shows = omega (arith, takes.fits, ap all_parts_length (takes.comes.0 ∙ sym shows))
  event_fits old new chunk used outcome event is takes shows = absurd (cc)

pub returns-in-Event : goal.returns-in-Event
returns-in-Event g c =
    let step = c.advance-step.result in
    let feeds =
    feeds_event c.args.self.now c.advance-step.new.self c.args.chunk.now step.used step.outcome c.event.result
    (sym c.wants_input.ensures.value ∙ c.if-not-wants_input.false) c.in-Event.is c.advance-step.ensures.takes c.event.ensures.lent
    c.event.ensures.values in
    let fits =
    event_fits c.args.self.now c.advance-step.new.self c.args.chunk.now step.used step.outcome c.event.result c.in-Event.is
    c.advance-step.ensures.takes c.event.ensures.values in
    ((refl, (λ _. tt), (feeds, c.advance-step.ensures.cost)), record { after = tt; used = c.advance-step.ensures.used; fits = fits })

pub arrived-requires : goal.arrived-requires
arrived-requires g c = record {
  part = has_part c.args.self.now c.advance-step.new.self c.args.chunk.now c.advance-step.result.used
      (sym c.wants_input.ensures.value ∙ c.if-not-wants_input.false) c.advance-step.ensures.used c.advance-step.result.outcome
      c.advance-step.ensures.takes;
  all = c.advance-step.ensures.used;
}

pub returns-in_default-outcome : goal.returns-in_default-outcome
returns-in_default-outcome g c =
    let step = c.advance-step.result in
    let announced =
    answers c.args.self.now c.advance-step.new.self c.args.chunk.now step.used (sym c.wants_input.ensures.value ∙ c.if-not-wants_input.false)
    c.advance-step.ensures.used step.outcome c.arrived.result.got c.advance-step.ensures.takes c.in_default-outcome.not-Event c.advance-step.ensures.all
    c.arrived.ensures.got in
    let feeds = feeds_again c.args.self.now c.advance-step.new.self c.args.chunk.now c.arrived.result step.used c.arrived.ensures.used announced.feeds in (
      (refl, (λ _. tt), (feeds, paid_again _ _ _ _ _ _ (sym c.arrived.ensures.used) c.advance-step.ensures.cost)),
      record { after = tt; used = omega (arith, c.arrived.ensures.used, c.advance-step.ensures.used); fits = announced.fits },
    )
