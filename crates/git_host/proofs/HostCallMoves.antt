-- A host's server after any calls.
use Rattle.std.proofs.Common.{arith, ◌≡◌, ◌≤◌, ◌+◌, ◌*◌, ℕ, Bool, true, false, List, [], ◌∷◌, ◌++◌, length, take, Some, refl, sym, ap, ◌∙◌, subst}
use Rattle.std.proofs.Common.{append_assoc, append-nil}
use Rattle.std.proofs.lemmas.List.{length-take-le}
use Rattle.git_pkt.specs.Machine.Credit.{ArePaid, MakesAll}
use Rattle.git_pkt.specs.Splits.{Given}
use Rattle.git_pkt.proofs.Credits.{all_paid}
use Rattle.git_pkt.proofs.KnownRest.{sound_rest}
use Rattle.git_msg.specs.declared.offers.Offer.{Offer}
use Rattle.git_msg.specs.declared.streams.RequestStream.{RequestStream}
use Rattle.git_msg.specs.declared.streams.Stage.{Stage}
use Rattle.git_msg.specs.declared.streams.Stage.TheVariants.{Between, Within, Stopped, Failed}
use Rattle.git_msg.specs.Machine.RequestStreams.{IsLeftIn, limit_of, offer_of}
use Rattle.git_msg.specs.Machine.StreamStages.{takes_bytes}
use Rattle.git_msg.specs.Requests.{AreBegun}
use Rattle.git_server.specs.declared.outcome.Outcome.{Outcome}
use Rattle.git_msg.specs.Asked.{Asked}
use Rattle.git_msg.specs.Memory.{FaultNeedsRefusal}
use Rattle.git_msg.specs.Machine.HeldRequest.{holding_of}
use Rattle.git_host.specs.HostAnswers.{IsAnswering}
use Rattle.git_host.specs.HostLookups.{at_hand}
use Rattle.git_host.specs.HostSessions.{AtLast, Facts, HostSetting, IsSoFar, IsUnderWay, IsWaiting, nothing_for}
use Rattle.git_host.specs.HostServer.{AreHandedOut, Hosts, HostsIn, IsReading, IsUntouched, bytes_of, credit_of, fault_of, outcome_in}
use Rattle.git_host.specs.HostServer.{terms_of}
use Rattle.git_host.specs.HostMemory.{objects_by}
use Rattle.git_host.specs.HostCalls.{Each, HandsOut, HostCall, HostHeadline, LacksMemory, Makes, accept, close, feed, given_by, given_in, feeds_by, next}
use Rattle.git_host.specs.HostCalls.{over_after, over_with}
use Rattle.git_host.specs.HostCalls.{nothing, refuse, report, reported_after, reported_with, used_by, used_in}
use Rattle.git_host.specs.declared.host_server.HostServer.{HostServer}
use Rattle.git_host.specs.declared.host_server.Phase.{Phase}
use Rattle.git_host.specs.declared.host_server.Phase.TheVariants.{Advertising, Reading, Asked as Whole, Answering, Refusing, Ended}
use Rattle.git_host.specs.declared.report.HostStep.TheVariants.{Packet, NeedInput, Asked as AsksFor, Need as Needs, Ended as HasEnded}
use Rattle.git_host.specs.declared.report.HostReported.TheVariants.{Packet as WasGiven, Taken, Hidden, NotAsked, MixedFormats, Unsorted, HeadTwice}
use Rattle.git_host.specs.declared.report.HostReported.TheVariants.{NotShallow, OutOfMemory}
use Rattle.git_host.proofs.AnswerFronts.{answering_so_far, start_so_far}
use Rattle.git_host.proofs.HostFaults.{memory_after, memory_at_first, memory_closed}
use Rattle.git_host.proofs.HostMemoryMoves.{host_bounded, host_holds}
use Rattle.git_host.proofs.HostBytes.{as_asked, is_reading_now}
use Rattle.git_host.proofs.LentStreams.{last_goes, same_last}

module _ {A : Type 0} where
  -- nothing more used, or nothing more given
  pub more_used : (s : HostSetting) (used : List ℕ) (over : Bool) (facts : List Facts) (given : List ℕ) (server : HostServer A)
      → Hosts s used over facts given server → Hosts s (used ++ []) over facts given server
  more_used s used over facts given server h = subst (λ (u : List ℕ). Hosts s u over facts given server) (sym (append-nil used)) h

  pub more_given : (s : HostSetting) (used : List ℕ) (over : Bool) (facts : List Facts) (given bytes : List ℕ) (server : HostServer A) → bytes ≡ []
      → Hosts s used over facts given server → Hosts s used over facts (given ++ bytes) server
  more_given s used over facts given bytes server none h =
      subst (λ (g : List ℕ). Hosts s used over facts g server) (sym (append-nil given) ∙ ap (λ (l : List ℕ). given ++ l) (sym none)) h

  pub same_given : (s : HostSetting) (used : List ℕ) (over : Bool) (facts : List Facts) (given bytes other : List ℕ) (server : HostServer A) → bytes ≡ other
      → Hosts s used over facts (given ++ other) server → Hosts s used over facts (given ++ bytes) server
  same_given s used over facts given bytes other server same h =
      subst (λ (l : List ℕ). Hosts s used over facts (given ++ l) server) (sym same) h

module _ {A : Type 0} (refuses : ℕ → Type 0) where
  -- after one call
  one_call : (s : HostSetting) (call : HostCall) (before : ℕ) (old : HostServer A) (after : ℕ) (new : HostServer A) → Makes refuses call before old after new
      → (used : List ℕ) (over : Bool) (facts : List Facts) (given : List ℕ) → Hosts s used over facts given old
      → Hosts s (used ++ used_by call) (over_with call over) (reported_with call facts) (given ++ given_by call) new
  one_call s (feed chunk count begun) before old after new made used over facts given h =
      more_given s (used ++ take count chunk) over (facts ++ begun) given [] new refl
      (subst (λ (l : List Facts). Hosts s (used ++ take count chunk) over (facts ++ l) given new) (sym made.begun_is) (made.feeds s used over facts given h).0)
  one_call s close before old after new made used over facts given h =
      more_used s used true facts (given ++ []) new (more_given s used true facts given [] new refl (made.0.2 s used over facts given h))
  one_call s (next Packet bytes) before old after new made used over facts given h =
      more_used s used over facts (given ++ bytes) new (same_given s used over facts given bytes _ new made.1 (made.0 s used over facts given h).0)
  one_call s (next NeedInput bytes) before old after new made used over facts given h =
      more_used s used over facts (given ++ bytes) new (more_given s used over facts given bytes new made.1 (made.0 s used over facts given h).0)
  one_call s (next AsksFor bytes) before old after new made used over facts given h =
      more_used s used over facts (given ++ bytes) new (more_given s used over facts given bytes new made.1 (made.0 s used over facts given h).0)
  one_call s (next (Needs need) bytes) before old after new made used over facts given h =
      more_used s used over facts (given ++ bytes) new (more_given s used over facts given bytes new made.1 (made.0 s used over facts given h).0)
  one_call s (next (HasEnded outcome) bytes) before old after new made used over facts given h =
      more_used s used over facts (given ++ bytes) new (more_given s used over facts given bytes new made.1 (made.0 s used over facts given h).0)
  one_call s (report fact what bytes) before old after new made used over facts given h =
      more_used s used over (reported_with (report fact what bytes) facts) (given ++ bytes) new
      (same_given s used over (reported_with (report fact what bytes) facts) given bytes _ new made.1 (made.0 s used over facts given h).0)
  one_call s accept before old after new made used over facts given h =
      more_used s used over facts (given ++ []) new (more_given s used over facts given [] new refl (made.0.2 s used over facts given h))
  one_call s (refuse text bytes) before old after new made used over facts given h =
      more_used s used over facts (given ++ bytes) new (same_given s used over facts given bytes _ new made.1 (made.0.3 s used over facts given h))
  one_call s nothing before old after new made used over facts given h =
      more_used s used over facts (given ++ []) new (more_given s used over facts given [] new refl (made.0 s used over facts given h))

  -- a packet that is sent has bytes
  one_packet : (s : HostSetting) (call : HostCall) (before : ℕ) (old : HostServer A) (after : ℕ) (new : HostServer A) → Makes refuses call before old after new
      → (used : List ℕ) (over : Bool) (facts : List Facts) (given : List ℕ) → Hosts s used over facts given old → HandsOut call
  one_packet s (feed chunk count begun) before old after new made used over facts given h = tt
  one_packet s close before old after new made used over facts given h = tt
  one_packet s (next Packet bytes) before old after new made used over facts given h =
      subst AreHandedOut (sym made.1) (made.0 s used over facts given h).1
  one_packet s (next NeedInput bytes) before old after new made used over facts given h = tt
  one_packet s (next AsksFor bytes) before old after new made used over facts given h = tt
  one_packet s (next (Needs need) bytes) before old after new made used over facts given h = tt
  one_packet s (next (HasEnded outcome) bytes) before old after new made used over facts given h = tt
  one_packet s (report fact WasGiven bytes) before old after new made used over facts given h =
      subst AreHandedOut (sym made.1) (made.0 s used over facts given h).1
  one_packet s (report fact Taken bytes) before old after new made used over facts given h = tt
  one_packet s (report fact Hidden bytes) before old after new made used over facts given h = tt
  one_packet s (report fact NotAsked bytes) before old after new made used over facts given h = tt
  one_packet s (report fact MixedFormats bytes) before old after new made used over facts given h = tt
  one_packet s (report fact Unsorted bytes) before old after new made used over facts given h = tt
  one_packet s (report fact HeadTwice bytes) before old after new made used over facts given h = tt
  one_packet s (report fact NotShallow bytes) before old after new made used over facts given h = tt
  one_packet s (report fact OutOfMemory bytes) before old after new made used over facts given h = tt
  one_packet s accept before old after new made used over facts given h = tt
  one_packet s nothing before old after new made used over facts given h = tt
  one_packet s (refuse text bytes) before old after new made used over facts given h = subst AreHandedOut (sym made.1) made.0.2

  all_packets : (s : HostSetting) (calls : List HostCall) (before : ℕ) (old : HostServer A) (after : ℕ) (new : HostServer A)
      → MakesAll (Makes refuses) calls before old after new → (used : List ℕ) (over : Bool) (facts : List Facts) (given : List ℕ)
      → Hosts s used over facts given old → Each HandsOut calls
  all_packets s [] before old after new made used over facts given h = tt
  all_packets s (call ∷ calls) before old after new (middle, between, made, more) used over facts given h = (
    one_packet s call before old middle between made used over facts given h,
    all_packets s calls middle between after new more (used ++ used_by call) (over_with call over) (reported_with call facts) (given ++ given_by call)
        (one_call s call before old middle between made used over facts given h),
  )

  -- after any calls
  any_calls : (s : HostSetting) (calls : List HostCall) (before : ℕ) (old : HostServer A) (after : ℕ) (new : HostServer A)
      → MakesAll (Makes refuses) calls before old after new → (used : List ℕ) (over : Bool) (facts : List Facts) (given : List ℕ)
      → Hosts s used over facts given old → Hosts s (used ++ used_in calls) (over_after over calls) (reported_after facts calls) (given ++ given_in calls) new
  any_calls s [] before old after new (counter, same) used over facts given h =
      subst (λ (x : HostServer A). Hosts s (used ++ []) over facts (given ++ []) x) (sym same)
      (more_used s used over facts (given ++ []) old (more_given s used over facts given [] old refl h))
  any_calls s (call ∷ calls) before old after new (middle, between, made, more) used over facts given h =
      let now = one_call s call before old middle between made used over facts given h in
      let later = any_calls s calls middle between after new more (used ++ used_by call) (over_with call over) (reported_with call facts)
      (given ++ given_by call) now in
      let over_now = over_after (over_with call over) calls in
      let facts_now = reported_after (reported_with call facts) calls in
      subst (λ (u : List ℕ). Hosts s u over_now facts_now (given ++ given_in (call ∷ calls)) new) (append_assoc used (used_by call) (used_in calls))
      (subst (λ (g : List ℕ). Hosts s ((used ++ used_by call) ++ used_in calls) over_now facts_now g new)
      (append_assoc given (given_by call) (given_in calls)) later)

  -- a session that ends for want of memory was refused a list
  one_memory : (s : HostSetting) (call : HostCall) (before : ℕ) (old : HostServer A) (after : ℕ) (new : HostServer A)
      → Makes refuses call before old after new → (used : List ℕ) (over : Bool) (facts : List Facts) (given : List ℕ) → Hosts s used over facts given old
      → FaultNeedsRefusal refuses s.limit (fault_of old) → FaultNeedsRefusal refuses s.limit (fault_of new)
  one_memory s (feed chunk count begun) before old after new made used over facts given h needs = made.memory s used over facts given h needs
  one_memory s close before old after new made used over facts given h needs =
      memory_closed refuses s used facts given new.stream new.flush new.phase (made.0.2 s used over facts given h).stands
  one_memory s (next step bytes) before old after new made used over facts given h needs =
      memory_after refuses s.limit (fault_of old) (fault_of new) (made.3 s used over facts given h) needs
  one_memory s (report fact what bytes) before old after new made used over facts given h needs =
      memory_after refuses s.limit (fault_of old) (fault_of new) (made.3 s used over facts given h) needs
  one_memory s accept before old after new made used over facts given h needs =
      memory_after refuses s.limit (fault_of old) (fault_of new) (made.2 s used over facts given h) needs
  one_memory s (refuse text bytes) before old after new made used over facts given h needs =
      memory_after refuses s.limit (fault_of old) (fault_of new) (made.3 s used over facts given h) needs
  one_memory s nothing before old after new made used over facts given h needs =
      memory_after refuses s.limit (fault_of old) (fault_of new) (made.2 s used over facts given h) needs

  any_memory : (s : HostSetting) (calls : List HostCall) (before : ℕ) (old : HostServer A) (after : ℕ) (new : HostServer A)
      → MakesAll (Makes refuses) calls before old after new → (used : List ℕ) (over : Bool) (facts : List Facts) (given : List ℕ)
      → Hosts s used over facts given old → FaultNeedsRefusal refuses s.limit (fault_of old) → FaultNeedsRefusal refuses s.limit (fault_of new)
  any_memory s [] before old after new (counter, same) used over facts given h needs =
      subst (λ (x : HostServer A). FaultNeedsRefusal refuses s.limit (fault_of x)) (sym same) needs
  any_memory s (call ∷ calls) before old after new (middle, between, made, more) used over facts given h needs =
      any_memory s calls middle between after new more (used ++ used_by call) (over_with call over) (reported_with call facts) (given ++ given_by call)
      (one_call s call before old middle between made used over facts given h)
      (one_memory s call before old middle between made used over facts given h needs)

  -- and so was a report at which memory ran out
  one_report : (call : HostCall) (before : ℕ) (old : HostServer A) (after : ℕ) (new : HostServer A) → Makes refuses call before old after new
      → LacksMemory refuses call
  one_report (report fact what bytes) before old after new made = λ is. (33 * (objects_by old + 1), made.4 is)
  one_report (feed chunk count begun) before old after new made = tt
  one_report close before old after new made = tt
  one_report (next step bytes) before old after new made = tt
  one_report accept before old after new made = tt
  one_report (refuse text bytes) before old after new made = tt
  one_report nothing before old after new made = tt

  all_reports : (calls : List HostCall) (before : ℕ) (old : HostServer A) (after : ℕ) (new : HostServer A)
      → MakesAll (Makes refuses) calls before old after new → Each (LacksMemory refuses) calls
  all_reports [] before old after new made = tt
  all_reports (call ∷ calls) before old after new (middle, between, made, more) =
      (one_report call before old middle between made, all_reports calls middle between after new more)

  -- each call is paid for by the bytes that it used
  paid_by : (call : HostCall) (before : ℕ) (old : HostServer A) (after : ℕ) (new : HostServer A) → Makes refuses call before old after new
      → ArePaid (length (used_by call)) (feeds_by call) before after (credit_of old) (credit_of new)
  paid_by (feed chunk count begun) before old after new made =
      record { rises = made.pays.rises; within = omega (arith, made.pays.within, length-take-le count chunk made.within) }
  paid_by close before old after new made = record { rises = omega (arith, made.1.steps); within = omega (arith, made.1.steps, made.1.credit) }
  paid_by (next step bytes) before old after new made = record { rises = omega (arith, made.2.steps); within = omega (arith, made.2.steps, made.2.credit) }
  paid_by (report fact what bytes) before old after new made =
      record { rises = omega (arith, made.2.steps); within = omega (arith, made.2.steps, made.2.credit) }
  paid_by accept before old after new made = record { rises = omega (arith, made.1.steps); within = omega (arith, made.1.steps, made.1.credit) }
  paid_by (refuse text bytes) before old after new made =
      record { rises = omega (arith, made.2.steps); within = omega (arith, made.2.steps, made.2.credit) }
  paid_by nothing before old after new made = record { rises = omega (arith, made.1.steps); within = omega (arith, made.1.steps, made.1.credit) }

pub ended_is : {A : Type 0} (phase : Phase A) (outcome : Outcome) → outcome_in phase ≡ Some outcome → phase ≡ Ended outcome
ended_is Advertising outcome is = absurd (cc)
ended_is Reading outcome is = absurd (cc)
ended_is (Whole request) outcome is = absurd (cc)
ended_is (Answering answer) outcome is = absurd (cc)
ended_is (Refusing fault) outcome is = absurd (cc)
ended_is (Ended other) outcome is = let same : other ≡ outcome = cc in ap Ended same

begun_by : (offer : Offer) (limit : ℕ) (left : List Given) (rest : List ℕ) (end : ℕ) (stage : Stage) → takes_bytes stage ≡ true
    → IsLeftIn stage offer limit left rest end → AreBegun offer limit left
begun_by offer limit left rest end Between on is = subst (AreBegun offer limit) (sym is) ([], tt)
begun_by offer limit left rest end Within on is = is.1
begun_by offer limit left rest end Stopped on is = absurd (cc)
begun_by offer limit left rest end (Failed fault) on is = absurd (cc)

pub waits_so : {A : Type 0} (s : HostSetting) (used : List ℕ) (over : Bool) (facts : List Facts) (given : List ℕ) (stream : RequestStream A)
    → IsReading s used over facts given stream → IsWaiting s used over facts given
waits_so s used over facts given stream h =
    let reads = h.reads.reads in
    record {
      asked = h.asked;
      left = reads.left;
      rest = reads.rest;
      goes_on = h.reads.goes_on;
      are_asked = as_asked stream used h.asked reads s h.reads.offer h.reads.limit;
      begun = subst (λ (o : Offer). AreBegun o s.limit reads.left) h.reads.offer
          (subst (λ (n : ℕ). AreBegun (offer_of stream) n reads.left) h.reads.limit
          (begun_by (offer_of stream) (limit_of stream) reads.left reads.rest (length used) stream.stage h.reads.wants reads.left_is));
      unrefused = (sound_rest stream.packets 0 used reads.packets reads.rest (reads.onward h.reads.wants).sound reads.reads).1;
      all = h.all;
    }

-- while a request is asked about or answered
under_way : {A : Type 0} (s : HostSetting) (used : List ℕ) (over : Bool) (facts : List Facts) (given : List ℕ) (phase : Phase A) (stream : RequestStream A)
    (flush : ℕ) (asked : Asked) → at_hand phase ≡ Some asked → HostsIn phase s used over facts given stream flush → IsUnderWay s used over facts given
under_way s used over facts given (Whole request) stream flush asked is h = record {
  asked = h.asked;
  goes_on = h.reads.goes_on;
  are_asked = h.are_asked;
  last = subst (λ (fs : List Facts). AtLast s h.asked fs given (IsSoFar s.offer.format)) (same_last facts)
      (last_goes s h.asked facts given (IsUntouched s.limit (holding_of request)) (IsSoFar s.offer.format) (λ f. f) h.last
      (λ q f front x. subst (λ (g : Facts). IsSoFar s.offer.format q g front) (sym x.nothing)
      (subst (IsSoFar s.offer.format q (nothing_for q)) (sym x.none) (start_so_far s.offer.format q))));
}
under_way s used over facts given (Answering answer) stream flush asked is h = record {
  asked = h.asked;
  goes_on = h.reads.goes_on;
  are_asked = h.are_asked;
  last = subst (λ (fs : List Facts). AtLast s h.asked fs given (IsSoFar s.offer.format)) (same_last facts)
      (last_goes s h.asked facts given (IsAnswering (terms_of s) answer) (IsSoFar s.offer.format) (λ f. f) h.last
      (λ q f front x. answering_so_far (terms_of s) answer q f front x));
}
under_way s used over facts given Advertising stream flush asked is h = absurd (cc)
under_way s used over facts given Reading stream flush asked is h = absurd (cc)
under_way s used over facts given (Refusing fault) stream flush asked is h = absurd (cc)
under_way s used over facts given (Ended outcome) stream flush asked is h = absurd (cc)

pub after_calls : {A : Type 0} (refuses : ℕ → Type 0) (s : HostSetting) (calls : List HostCall) (before after : ℕ) (first last : HostServer A)
    → Hosts s [] false [] [] first → credit_of first ≡ 0 → MakesAll (Makes refuses) calls before first after last → length (bytes_of last) ≤ 65520
    → HostHeadline refuses s calls before after last
after_calls refuses s calls before after first last fresh no_credit made fits =
    let h = any_calls refuses s calls before first after last made [] false [] [] fresh in
    let (stored, kept, objects) = host_bounded s (used_in calls) (over_after false calls) (reported_after [] calls) (given_in calls) last h in
    let paid = all_paid (Makes refuses) credit_of used_by feeds_by (paid_by refuses) calls before first after last made in
    record {
      rises = paid.rises;
      steps = omega (arith, paid.within, no_credit);
      hold = fits;
      stored = stored;
      kept = kept;
      objects = objects;
      held = host_holds s (used_in calls) (over_after false calls) (reported_after [] calls) (given_in calls) last h fits;
      gives = all_packets refuses s calls before first after last made [] false [] [] fresh;
      memory = any_memory refuses s calls before first after last made [] false [] [] fresh
          (memory_at_first refuses s [] [] first.stream first.flush first.phase fresh.stands);
      reports = all_reports refuses calls before first after last made;
      ends = λ outcome is. subst (λ (p : Phase _). HostsIn p s (used_in calls) (over_after false calls) (reported_after [] calls) (given_in calls)
          last.stream last.flush) (ended_is last.phase outcome is) h.stands;
      answers = λ asked is. under_way s (used_in calls) (over_after false calls) (reported_after [] calls) (given_in calls) last.phase last.stream
          last.flush asked is h.stands;
      waits = λ on. waits_so s (used_in calls) (over_after false calls) (reported_after [] calls) (given_in calls) last.stream
          (subst (λ (p : Phase _). HostsIn p s (used_in calls) (over_after false calls) (reported_after [] calls) (given_in calls)
          last.stream last.flush) (is_reading_now last on) h.stands);
    }
