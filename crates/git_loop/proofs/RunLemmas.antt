-- A run of a machine, one call after another.
use Rattle.std.proofs.Common.{arith, ◌≡◌, ◌≢◌, ◌⊎◌, inl, inr, ℕ, ◌+◌, ◌≤◌, ◌<◌, Bool, true, false, Option, Some, None, Result, Ok, Err}
use Rattle.std.proofs.Common.{IsErrAnd, OnErr, ◌||◌, eqb}
use Rattle.std.proofs.Common.{List, [], ◌∷◌, ◌++◌, length, length-drop, take, drop, length-append}
use Rattle.std.proofs.Common.{refl, sym, ap, ◌∙◌, subst}
use Rattle.std.proofs.lemmas.Bool.{eqb-true, eqb-false}
use Rattle.std.proofs.Math.Seq.{drop-nil}
use Rattle.std.proofs.lemmas.List.{length-take-le}
use Rattle.std.specs.Io.KnownBytes.{IsAtEnd, Keeps}
use Rattle.std.proofs.KnownBytes.{Consumes-nil, Consumes-trans, Consumes-kept}
use Rattle.git_pkt.specs.Streams.{flow, is_broken, WrittenAs}
use Rattle.git_pkt.specs.declared.fault.RunFault.{RunFault}
use Rattle.git_pkt.proofs.EngineLemmas.{written_nothing, written_then, written_flushed, written_whole, at_fault}
use Rattle.git_loop.specs.Moves.{Move, closed, gave, used, ended_after, given_to, ended_after-append, given_to-append, used_of-append}
use Rattle.git_loop.specs.Streams.{Consumed, EndsAtItsEnd, Fills, InputState, IsOpen, KeepsOthers, Sends, found_end}
use Rattle.git_loop.specs.Machines.{AreSound, EndStates, EndsFlushed, FailedAlone, GivesPart, IsAt, IsNeeded, IsUnread, KeepsEmptyOnes, KnowsEnds, LeadBy}
use Rattle.git_loop.specs.Machines.{Moment, RanOver, Reading, ReadsAsNeeded, ReadsNone, ReadsOnce, SameCalls, States, Uses, Views, Went, WentOn}
use Rattle.git_loop.proofs.Numbers.{at_number, over_number}

-- the fault that `?` returns is the one that it met
pub on_err_at : {T : Type 0} (r : Result T RunFault) (fault : RunFault) (P : Type 0) → IsErrAnd r (λ e. e ≡ fault) → P → OnErr r P
on_err_at {T} r fault P met holds = at_fault r fault fault (λ (x : Result T RunFault). OnErr x P) refl met holds

pub ran_at : {M : Type 0} {states : States M} {at_end : EndStates} {has : ℕ → Type 0} (met : RunFault) {result : Result (Unit {0}) RunFault}
    {fault : RunFault} {old new : M} {first now : ℕ → InputState} {before after : ℕ → Option (List ℕ)} → fault ≡ met
    → IsErrAnd result (λ e. e ≡ fault) → RanOver states at_end has (Err met) old new first now before after
    → RanOver states at_end has result old new first now before after
ran_at {M} {states} {at_end} {has} met {result} {fault} {old} {new} {first} {now} {before} {after} named returned ran =
    at_fault result fault met (λ (r : Result (Unit {0}) RunFault). RanOver states at_end has r old new first now before after) named returned ran

pub reads_at : {M I O : Type 0} {states : States M} {views : Views I O} (met : RunFault) (result : Result (Unit {0}) RunFault) {fault : RunFault}
    {first now : Moment M I O} → fault ≡ met → IsErrAnd result (λ e. e ≡ fault) → ReadsAsNeeded states views (is_broken {T = Unit {0}} (Err met)) first now
    → ReadsAsNeeded states views (is_broken result) first now
reads_at {M} {I} {O} {states} {views} met result {fault} {first} {now} named returned reads =
    at_fault result fault met (λ (r : Result (Unit {0}) RunFault). ReadsAsNeeded states views (is_broken r) first now) named returned reads

pub flushed_at : (met : RunFault) (result : Result (Unit {0}) RunFault) {fault : RunFault} (flushed : Bool) → fault ≡ met
    → IsErrAnd result (λ e. e ≡ fault) → EndsFlushed (Err met) flushed → EndsFlushed result flushed
flushed_at met result {fault} flushed named returned ends =
    at_fault result fault met (λ (r : Result (Unit {0}) RunFault). EndsFlushed r flushed) named returned ends

or-false : (b : Bool) → (b || false) ≡ b
or-false true = refl
or-false false = refl

pub or-true : (b : Bool) → (b || true) ≡ true
or-true true = refl
or-true false = refl

-- one while the machine needs input
abbrev pub if_needed : Option ℕ → ℕ
if_needed (Some from) = 1
if_needed None = 0

-- a turn used bytes that wait, or no input is needed after it
pub turn_less : (next : Option ℕ) (old now count : ℕ) → now + count ≡ old → (0 < count) ⊎ (if_needed next ≡ 0) → now + if_needed next < old + 1
turn_less (Some from) old now count uses (inl some) = omega (arith, uses, some)
turn_less None old now count uses (inl some) = omega (arith, uses, some)
turn_less next old now count uses (inr none) = omega (arith, uses, none)

pub none_needed : (next : Option ℕ) (needs_input : ℕ → Type 0) (finished : Type 0) → IsAt next needs_input finished → ((k : ℕ) → needs_input k → ⊥)
    → if_needed next ≡ 0
none_needed (Some from) needs_input finished at none = absurd (none from at)
none_needed None needs_input finished at none = refl

-- bytes of an input were used, and no read was made
pub calls_consumed : (from count : ℕ) {first mid now : ℕ → InputState} → ((k : ℕ) → SameCalls (first k) (mid k))
    → Consumed count (mid from) (now from) → KeepsOthers from mid now → (k : ℕ) → SameCalls (first k) (now k)
calls_consumed from count {first} {mid} {now} so_far consumed others k = over_number k from true (λ (b : Bool). SameCalls (first k) (now k))
    (λ here. subst (λ (n : ℕ). SameCalls (first n) (now n)) (sym here)
    (record {
      reads = consumed.reads ∙ (so_far from).reads;
      failed = consumed.failed ∙ (so_far from).failed;
      ended = consumed.ended ∙ (so_far from).ended;
    }))
    (λ other. subst (λ (i : InputState). SameCalls (first k) i) (sym (others k other)) (so_far k))

-- ---- what each input knows of its reads

pub sound_so : {has : ℕ → Type 0} {first now : ℕ → InputState} → ((k : ℕ) → SameCalls (first k) (now k)) → AreSound has first → AreSound has now
sound_so calls sound k exists = (calls k).failed ∙ sound k exists

-- a read of the input of this number left it sound
pub sound_read : {has : ℕ → Type 0} {first now : ℕ → InputState} (from : ℕ) → (now from).failed ≡ ((first from).failed || false)
    → KeepsOthers from first now → AreSound has first → AreSound has now
sound_read {has} {first} {now} from failed others sound k exists = over_number k from true (λ (b : Bool). (now k).failed ≡ false)
    (λ here. subst (λ (n : ℕ). (now n).failed ≡ false) (sym here)
    (failed ∙ or-false (first from).failed ∙ sound from (subst has here exists)))
    (λ other. ap (λ (i : InputState). i.failed) (others k other) ∙ sound k exists)

-- or it failed, alone
pub failed_alone : {has : ℕ → Type 0} {first now : ℕ → InputState} (from : ℕ) → has from → (now from).failed ≡ ((first from).failed || true)
    → KeepsOthers from first now → AreSound has first → FailedAlone has now from
failed_alone {has} {first} {now} from exists failed others sound = record {
  exists = exists;
  failed = failed ∙ or-true (first from).failed;
  others = λ k here other. ap (λ (i : InputState). i.failed) (others k other) ∙ sound k here;
}

pub known_so : {has done after : ℕ → Type 0} {first now : ℕ → InputState} → ((k : ℕ) → SameCalls (first k) (now k)) → ((k : ℕ) → done k → after k)
    → KnowsEnds has first done → KnowsEnds has now after
known_so calls goes known k exists ended = goes k (known k exists (sym (calls k).ended ∙ ended))

pub known_read : {has done after : ℕ → Type 0} {first now : ℕ → InputState} (from : ℕ) → ((now from).ended ≡ true → after from)
    → KeepsOthers from first now → ((k : ℕ) → done k → after k) → KnowsEnds has first done → KnowsEnds has now after
known_read {has} {done} {after} {first} {now} from found others goes known k exists ended = over_number k from true (λ (b : Bool). after k)
    (λ here. subst after (sym here) (found (subst (λ (n : ℕ). (now n).ended ≡ true) here ended)))
    (λ other. goes k (known k exists (sym (ap (λ (i : InputState). i.ended) (others k other)) ∙ ended)))

-- before the first read no input has ended
pub known_first : {has : ℕ → Type 0} (done : ℕ → Type 0) {first now : ℕ → InputState} → ((k : ℕ) → SameCalls (first k) (now k))
    → ((k : ℕ) → has k → IsOpen (first k)) → KnowsEnds has now done
known_first done calls unended k exists ended =
    let e : true ≡ false = sym ended ∙ (calls k).ended ∙ (unended k exists).unended in absurd (cc)

-- ---- where an input has ended, nothing is left of it

-- if it has ended, no bytes wait of it, and no known byte is left
abbrev IsSpentAtEnd : InputState → Type 0
IsSpentAtEnd input = input.ended ≡ true → (input.window ≡ []) × IsAtEnd input.left

abbrev pub AreSpentAtEnd : (ℕ → Type 0) → (ℕ → InputState) → Type 0
AreSpentAtEnd has inputs = (k : ℕ) → has k → IsSpentAtEnd (inputs k)

-- before the first read no input has ended
pub spent_first : {has : ℕ → Type 0} {first now : ℕ → InputState} → ((k : ℕ) → SameCalls (first k) (now k)) → ((k : ℕ) → has k → IsOpen (first k))
    → AreSpentAtEnd has now
spent_first calls unended k exists ended = let e : true ≡ false = sym ended ∙ (calls k).ended ∙ (unended k exists).unended in absurd (cc)

pub spent_read : {has : ℕ → Type 0} {first now : ℕ → InputState} (from : ℕ) {bytes : List ℕ} → (first from).window ≡ [] → Uses (first from) (now from) bytes
    → EndsAtItsEnd (now from).ended (now from).left → KeepsOthers from first now → AreSpentAtEnd has first → AreSpentAtEnd has now
spent_read {has} {first} {now} from {bytes} empty uses at_end others spent k exists = over_number k from true (λ (b : Bool). IsSpentAtEnd (now k))
    (λ here. subst (λ (n : ℕ). IsSpentAtEnd (now n)) (sym here) (λ ended. (uses.emptied (λ e. empty) ended, at_end ended)))
    (λ other. subst IsSpentAtEnd (sym (others k other)) (spent k exists))

pub spent_so : {has : ℕ → Type 0} {first now : ℕ → InputState} → ((k : ℕ) → SameCalls (first k) (now k)) → KeepsEmptyOnes first now
    → AreSpentAtEnd has first → AreSpentAtEnd has now
spent_so calls kept spent k exists ended =
    let before = spent k exists (sym (calls k).ended ∙ ended) in
    subst (λ (i : InputState). (i.window ≡ []) × IsAtEnd i.left) (sym (kept k before.0)) before

-- bytes that wait of the input of this number were used
pub empty_consumed : (from : ℕ) {first mid now : ℕ → InputState} → KeepsEmptyOnes first mid → 0 < length (mid from).window → KeepsOthers from mid now
    → KeepsEmptyOnes first now
empty_consumed from {first} {mid} {now} so_far some others k empty =
    let still : (mid k).window ≡ [] = ap (λ (i : InputState). i.window) (so_far k empty) ∙ empty in
    others k (λ here. omega (arith, some, ap length (subst (λ (n : ℕ). (mid n).window ≡ []) here still))) ∙ so_far k empty

-- a read of the input of this number was made, and no other one
pub once_read : {first mid now : ℕ → InputState} (from : ℕ) → (mid from).reads ≤ (first from).reads + 1 → KeepsOthers from first mid
    → ((k : ℕ) → SameCalls (mid k) (now k)) → KeepsEmptyOnes mid now → ReadsOnce from first now
once_read {first} {mid} {now} from once others calls kept = record {
  once = omega (arith, once, (calls from).reads);
  others = λ k other. subst (λ (i : InputState). IsUnread i (now k)) (others k other) (record { reads = (calls k).reads; empty = kept k });
}

pub same_reads : {first now : ℕ → InputState} → ((k : ℕ) → SameCalls (first k) (now k)) → KeepsEmptyOnes first now → ReadsNone first now
same_reads calls kept k = record { reads = (calls k).reads; empty = kept k }

pub reads_none : (inputs : ℕ → InputState) → ReadsNone inputs inputs
reads_none inputs k = record { reads = refl; empty = λ e. refl }

unread_then : {a b c : InputState} → IsUnread a b → IsUnread b c → IsUnread a c
unread_then first second = record {
  reads = second.reads ∙ first.reads;
  empty = λ e. second.empty (ap (λ (i : InputState). i.window) (first.empty e) ∙ e) ∙ first.empty e;
}

pub same_calls : (input : InputState) → SameCalls input input
same_calls input = record { reads = refl; failed = refl; ended = refl }

pub not_ended : (b : Bool) → (b ≡ true → ⊥) → b ≡ false
not_ended true not = absurd (not refl)
not_ended false not = refl

-- ---- an input

uses_nothing : (input : InputState) → Uses input input []
uses_nothing input = record { left = Consumes-nil input.left; useful = refl; enough = λ o. (o, omega arith); emptied = λ e. e }

uses_then : {a b c : InputState} {u v : List ℕ} → Uses a b u → Uses b c v → Uses a c (u ++ v)
uses_then {a} {b} {c} {u} {v} first second = record {
  left = Consumes-trans a.left b.left c.left u v first.left second.left;
  useful = second.useful ∙ first.useful;
  enough = λ o.
      let (middle, later) = second.enough o in
      let (start, before) = first.enough middle in
      (start, omega (arith, later, before, length-append u v));
  emptied = λ e. second.emptied (first.emptied e);
}

uses_consumed : {old new : InputState} (count : ℕ) → count ≤ length old.window → Consumed count old new → Uses old new (take count old.window)
uses_consumed {old} {new} count within consumed = record {
  left = consumed.left;
  useful = consumed.wasted;
  enough = λ o. (
    record { sound = sym consumed.failed ∙ o.sound; unended = sym consumed.ended ∙ o.unended },
    omega (arith, consumed.reads, ap length consumed.window, length-drop count old.window, length-take-le count old.window within),
  );
  emptied = λ e ended. consumed.window ∙ ap (drop count) (e (sym consumed.ended ∙ ended)) ∙ drop-nil count;
}

-- a read of an input that had not ended
uses_filled : {old new : InputState} (result : Result Bool RunFault) → old.window ≡ [] → old.ended ≡ false → Fills result old new → Uses old new []
uses_filled {old} {new} result empty unended fills = record {
  left = Consumes-kept old.left old.left new.left [] (Consumes-nil old.left) fills.kept;
  useful = fills.wasted ∙ ap (λ (b : Bool). old.wasted || b) unended ∙ or-false old.wasted;
  enough = filled result fills;
  emptied = emptied result fills;
}
  where
    filled : (result : Result Bool RunFault) → Fills result old new → IsOpen new
        → IsOpen old × (new.reads + length old.window ≤ old.reads + 0 + length new.window)
    filled (Ok true) fills o = (
      record { sound = sym (or-false old.failed) ∙ sym fills.failed ∙ o.sound; unended = unended },
      omega (arith, fills.counted, fills.brings, ap length empty),
    )
    filled (Ok false) fills o = let e : true ≡ false = sym (or-true old.ended) ∙ sym fills.ended ∙ o.unended in absurd (cc)
    filled (Err fault) fills o = let e : true ≡ false = sym (or-true old.failed) ∙ sym fills.failed ∙ o.sound in absurd (cc)

    emptied : (result : Result Bool RunFault) → Fills result old new → (old.ended ≡ true → old.window ≡ []) → new.ended ≡ true → new.window ≡ []
    emptied (Ok true) fills e ended = let e : false ≡ true = sym (fills.ended ∙ or-false old.ended ∙ unended) ∙ ended in absurd (cc)
    emptied (Ok false) fills e ended = fills.brings
    emptied (Err fault) fills e ended = fills.brings

module _ {M : Type 0} (states : States M) where
  -- a call that used and gave nothing
  pub went_quiet : {old new : M} (inputs : ℕ → InputState) (held : ℕ → Option (List ℕ)) → states.reaches old [] new
      → ((k : ℕ) → states.done_with old k → states.done_with new k) → ((k : ℕ) → states.stopped_short new k → states.stopped_short old k)
      → Went states false old new inputs inputs held held
  went_quiet inputs held reaches done short = record {
    trace = [];
    reaches = reaches;
    used = λ k. uses_nothing (inputs k);
    ended = λ k. refl;
    written = λ k. written_nothing (held k);
    done = done;
    short = λ r k s. inr (short k s, refl);
  }

  pub went_nothing : ((m : M) → states.reaches m [] m) → (m : M) (inputs : ℕ → InputState) (held : ℕ → Option (List ℕ))
      → Went states false m m inputs inputs held held
  went_nothing itself m inputs held = went_quiet inputs held (itself m) (λ k d. d) (λ k s. s)

  module _ (further : (old middle new : M) (t u : List Move) → states.reaches old t middle → states.reaches middle u new → states.reaches old (t ++ u) new)
      (stays : (old new : M) (t : List Move) → states.reaches old t new → states.reachable old → states.reachable new) where
    -- some calls of a run, and then others
    pub went_then : (broken : Bool) {old middle new : M} {first mid now : ℕ → InputState} {before held after : ℕ → Option (List ℕ)}
        → Went states false old middle first mid before held → Went states broken middle new mid now held after
        → Went states broken old new first now before after
    went_then broken {old} {middle} {new} {first} {mid} {now} {before} {held} {after} a b = record {
      trace = a.trace ++ b.trace;
      reaches = further old middle new a.trace b.trace a.reaches b.reaches;
      used = λ k. subst (λ (l : List ℕ). Uses (first k) (now k) l) (sym (used_of-append k a.trace b.trace)) (uses_then (a.used k) (b.used k));
      ended = λ k. b.ended k ∙ ap (λ (o : Bool). ended_after k o b.trace) (a.ended k) ∙ sym (ended_after-append k (first k).ended a.trace b.trace);
      written = λ k. subst (λ (l : List ℕ). WrittenAs broken (flow (before k) (after k)) l) (sym (given_to-append k a.trace b.trace))
          (written_then broken (before k) (held k) (after k) (given_to k a.trace) (given_to k b.trace) (a.written k) (b.written k));
      done = λ k d. b.done k (a.done k d);
      short = λ r k s.
          elim (b.short (stays old middle a.trace a.reaches r) k s) [
            | inl more ↦ inl more
            | inr (s_before, same) ↦ short_then k (a.short r k s_before) same
          ];
    }
      where
        short_then : (k : ℕ) → ((mid k).window ≢ []) ⊎ (states.stopped_short old k × ((mid k).window ≡ (first k).window))
            → (now k).window ≡ (mid k).window → ((now k).window ≢ []) ⊎ (states.stopped_short old k × ((now k).window ≡ (first k).window))
        short_then k (inl more) same = inl (λ none. more (sym same ∙ none))
        short_then k (inr (s, before_same)) same = inr (s, same ∙ before_same)

    module _ {I O : Type 0} (views : Views I O) (broken : Bool) where
      lead_on : (first before now : Moment M I O) (readings : List (Reading M I O)) → LeadBy states views false first readings before
          → WentOn states views broken before now → ReadsNone (views.input before.inputs) (views.input now.inputs)
          → LeadBy states views broken first readings now
      lead_on first before now [] (went, none) more quiet = (went_then broken went more, λ k. unread_then (none k) (quiet k))
      lead_on first before now (reading ∷ earlier) (lead, needed, went, read) more quiet = (
        lead,
        needed,
        went_then broken went more,
        record { once = omega (arith, (quiet reading.from).reads, read.once); others = λ k other. unread_then (read.others k other) (quiet k) },
      )

      -- a run went on without a read
      pub reads_no_more : {first before now : Moment M I O} → ReadsAsNeeded states views false first before → WentOn states views broken before now
          → ReadsNone (views.input before.inputs) (views.input now.inputs) → ReadsAsNeeded states views broken first now
      reads_no_more {first} {before} {now} h more quiet = record {
        readings = h.readings;
        lead = lead_on first before now h.readings h.lead more quiet;
      }

      -- it went on with a read of the input of this number
      pub reads_once_more : {first before now : Moment M I O} (from : ℕ) → ReadsAsNeeded states views false first before
          → IsNeeded states views (record { at = before; from = from })
          → WentOn states views broken before now → ReadsOnce from (views.input before.inputs) (views.input now.inputs)
          → ReadsAsNeeded states views broken first now
      reads_once_more {first} {before} {now} from h needed more read = record {
        readings = record { at = before; from = from } ∷ h.readings;
        lead = (h.lead, needed, more, read);
      }

  -- the machine gave a part, which was written as far as that went
  pub went_gave : (broken : Bool) {old new : M} (to : ℕ) (inputs : ℕ → InputState) {held after : ℕ → Option (List ℕ)} {Lends : M → List ℕ → Type 0}
      → (gives : GivesPart states.reaches Lends old to new) → Sends broken to gives.bytes held after
      → ((k : ℕ) → states.done_with old k → states.done_with new k) → ((k : ℕ) → states.stopped_short new k → states.stopped_short old k)
      → Went states broken old new inputs inputs held after
  went_gave broken to inputs {held} {after} gives sends done short = record {
    trace = gave to gives.bytes ∷ [];
    reaches = gives.reaches;
    used = λ k. uses_nothing (inputs k);
    ended = λ k. refl;
    written = λ k. at_number k to gives.bytes (λ (l : List ℕ). WrittenAs broken (flow (held k) (after k)) l)
        (λ here. subst (λ (n : ℕ). WrittenAs broken (flow (held n) (after n)) gives.bytes) (sym here) sends.written)
        (λ other. subst (λ (o : Option (List ℕ)). WrittenAs broken (flow (held k) o) []) (sym (sends.others k other))
        (written_whole broken (flow (held k) (held k)) [] (written_nothing (held k))));
    done = done;
    short = λ r k s. inr (short k s, refl);
  }

  -- the outputs were flushed, or failed in that
  pub went_flushed : (broken : Bool) → ((m : M) → states.reaches m [] m) → (m : M) (inputs : ℕ → InputState) {held after : ℕ → Option (List ℕ)}
      → ((k : ℕ) → Keeps (held k) (after k)) → Went states broken m m inputs inputs held after
  went_flushed broken itself m inputs {held} {after} kept = record {
    trace = [];
    reaches = itself m;
    used = λ k. uses_nothing (inputs k);
    ended = λ k. refl;
    written = λ k. written_flushed broken (held k) (held k) (after k) [] (written_nothing (held k)) (kept k);
    done = λ k d. d;
    short = λ r k s. inr (s, refl);
  }

  -- the machine was fed what waits of an input
  pub went_fed : {old new : M} (from count : ℕ) {first now : ℕ → InputState} (held : ℕ → Option (List ℕ))
      → states.reaches old (used from (take count (first from).window) ∷ []) new → count ≤ length (first from).window
      → Consumed count (first from) (now from) → KeepsOthers from first now → ((k : ℕ) → states.done_with old k → states.done_with new k)
      → (states.reachable old → states.stopped_short new from → count < length (first from).window)
      → ((k : ℕ) → k ≢ from → states.stopped_short new k → states.stopped_short old k)
      → Went states false old new first now held held
  went_fed {old} {new} from count {first} {now} held reaches within consumed others done short rest = record {
    trace = used from (take count (first from).window) ∷ [];
    reaches = reaches;
    used = λ k. at_number k from (take count (first from).window) (λ (l : List ℕ). Uses (first k) (now k) l)
        (λ here. subst (λ (n : ℕ). Uses (first n) (now n) (take count (first from).window)) (sym here) (uses_consumed count within consumed))
        (λ other. subst (λ (i : InputState). Uses (first k) i []) (sym (others k other)) (uses_nothing (first k)));
    ended = λ k. over_number k from true (λ (b : Bool). (now k).ended ≡ (first k).ended)
        (λ here. subst (λ (n : ℕ). (now n).ended ≡ (first n).ended) (sym here) consumed.ended)
        (λ other. ap (λ (i : InputState). i.ended) (others k other));
    written = λ k. written_nothing (held k);
    done = done;
    short = λ r k s. by_number k (eqb k from) refl r s;
  }
    where
      by_number : (k : ℕ) (b : Bool) → eqb k from ≡ b → states.reachable old → states.stopped_short new k
          → ((now k).window ≢ []) ⊎ (states.stopped_short old k × ((now k).window ≡ (first k).window))
      by_number k true is r s =
          let here : k ≡ from = eqb-true k from is in
          let less = short r (subst (λ (n : ℕ). states.stopped_short new n) here s) in
          inl (λ none. omega (
            arith,
            less,
            length-drop count (first from).window,
            ap length (sym consumed.window ∙ subst (λ (n : ℕ). (now n).window ≡ []) here none),
          ))
      by_number k false is r s =
          let other : k ≢ from = eqb-false k from is in inr (rest k other s, ap (λ (i : InputState). i.window) (others k other))

  -- a read was made of an input that the machine needs, and it did not find the end
  pub went_read : ((m : M) → states.reaches m [] m) → (m : M) (from : ℕ) (result : Result Bool RunFault) {first now : ℕ → InputState}
      (held : ℕ → Option (List ℕ)) → (first from).window ≡ [] → (first from).ended ≡ false → found_end result ≡ false
      → Fills result (first from) (now from) → KeepsOthers from first now → (states.stopped_short m from → ⊥)
      → Went states false m m first now held held
  went_read itself m from result {first} {now} held empty unended unfound fills others short = record {
    trace = [];
    reaches = itself m;
    used = λ k. over_number k from true (λ (b : Bool). Uses (first k) (now k) [])
        (λ here. subst (λ (n : ℕ). Uses (first n) (now n) []) (sym here) (uses_filled result empty unended fills))
        (λ other. subst (λ (i : InputState). Uses (first k) i []) (sym (others k other)) (uses_nothing (first k)));
    ended = λ k. over_number k from true (λ (b : Bool). (now k).ended ≡ (first k).ended)
        (λ here. subst (λ (n : ℕ). (now n).ended ≡ (first n).ended) (sym here)
        (fills.ended ∙ ap (λ (b : Bool). (first from).ended || b) unfound ∙ or-false (first from).ended))
        (λ other. ap (λ (i : InputState). i.ended) (others k other));
    written = λ k. written_nothing (held k);
    done = λ k d. d;
    short = λ r k s. over_number k from true (λ (b : Bool). ((now k).window ≢ []) ⊎ (states.stopped_short m k × ((now k).window ≡ (first k).window)))
        (λ here. absurd (short (subst (λ (n : ℕ). states.stopped_short m n) here s)))
        (λ other. inr (s, ap (λ (i : InputState). i.window) (others k other)));
  }

  -- it found the end, and the input was closed
  pub went_closed : {old new : M} (from : ℕ) {first now : ℕ → InputState} (held : ℕ → Option (List ℕ))
      → states.reaches old (closed from ∷ []) new → (first from).window ≡ [] → (first from).ended ≡ false
      → Fills (Ok false) (first from) (now from) → KeepsOthers from first now → ((k : ℕ) → states.done_with old k → states.done_with new k)
      → (states.reachable old → (k : ℕ) → states.stopped_short new k → states.stopped_short old k) → (states.stopped_short old from → ⊥)
      → Went states false old new first now held held
  went_closed {old} {new} from {first} {now} held reaches empty unended fills others done short none = record {
    trace = closed from ∷ [];
    reaches = reaches;
    used = λ k. over_number k from true (λ (b : Bool). Uses (first k) (now k) [])
        (λ here. subst (λ (n : ℕ). Uses (first n) (now n) []) (sym here) (uses_filled (Ok false) empty unended fills))
        (λ other. subst (λ (i : InputState). Uses (first k) i []) (sym (others k other)) (uses_nothing (first k)));
    ended = λ k. over_number k from (first k).ended (λ (b : Bool). (now k).ended ≡ b)
        (λ here. subst (λ (n : ℕ). (now n).ended ≡ true) (sym here) (fills.ended ∙ or-true (first from).ended))
        (λ other. ap (λ (i : InputState). i.ended) (others k other));
    written = λ k. written_nothing (held k);
    done = done;
    short = λ r k s. over_number k from true (λ (b : Bool). ((now k).window ≢ []) ⊎ (states.stopped_short old k × ((now k).window ≡ (first k).window)))
        (λ here. absurd (none (subst (λ (n : ℕ). states.stopped_short old n) here (short r k s))))
        (λ other. inr (short r k s, ap (λ (i : InputState). i.window) (others k other)));
  }
