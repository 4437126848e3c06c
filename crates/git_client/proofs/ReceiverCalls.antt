-- The calls of a receiver, one by one.
use Rattle.std.proofs.Common.{arith, ◌≡◌, ℕ, ◌+◌, ◌-◌, ◌<◌, ◌≤◌, Bool, true, false, List, [], ◌∷◌, ◌++◌, length, take, drop}
use Rattle.std.proofs.Common.{Option, Some, None, refl, sym, ap, ◌∙◌, subst, append_assoc, append-nil, length-append, length-take-le, drop_at, MutBor}
use Rattle.std.proofs.lemmas.List.{drop-take, length-take}
use Rattle.git_loop.specs.InChunks.{LiesIn, bytes_in}
use Rattle.git_loop.specs.Machines.{GivesPart}
use Rattle.git_loop.specs.Moves.{Move, closed, gave, used, given_to}
use Rattle.git_loop.specs.declared.in_chunk.InChunk.{InChunk}
use Rattle.git_pkt.specs.Machine.PacketReader.{ShownByFeed}
use Rattle.git_pkt.specs.Streams.{flow}
use Rattle.git_pkt.specs.declared.fault.Fault.{Fault}
use Rattle.git_pkt.specs.declared.fault.Kind.TheVariants.{Truncated}
use Rattle.git_pkt.proofs.Chunks.{take_joined}
use Rattle.git_pkt.proofs.EngineLemmas.{written_nothing}
use Rattle.git_client.specs.Events.{pack_bytes, progress_bytes}
use Rattle.git_client.specs.Machine.Client.{ReceivesOn, EndsAt, IsPassed, can_ask, fault_of, phase_of, wants_input}
use Rattle.git_client.specs.Machine.ReceiverStates.{HasReceived, IsLent, IsTooLong, PassesIn, PassesOn, Received, ReceiverReaches, Waits}
use Rattle.git_client.specs.Machine.ReceiverStates.{held, lines_in, pack_in, progress_in}
use Rattle.git_client.specs.Machine.ReceiverStates.{received_after, received_first, received_with}
use Rattle.git_client.specs.Machine.RunSteps.{ReceivesBytes}
use Rattle.git_client.specs.Machine.Turns.{values_of}
use Rattle.git_client.specs.declared.client.Client.{Client}
use Rattle.git_client.specs.declared.events.Event.{Event}
use Rattle.git_client.specs.declared.events.Event.TheVariants.{Pack as PackEvent, Progress as ProgressEvent}
use Rattle.git_client.specs.declared.receiver.Passing.{Passing}
use Rattle.git_client.specs.declared.receiver.Passing.TheVariants.{Nothing, Pack, Progress}
use Rattle.git_client.specs.declared.receiver.Receiver.{Receiver}
use Rattle.git_client.specs.declared.receiving.Counts.{Counts}
use Rattle.git_client.proofs.Announcing.{pack_sent, pack_unreported, progress_reported, progress_unsent}
use Rattle.git_client.proofs.Phases.{not_ready_where_expected, sound_where_expected}
use Rattle.git_client.proofs.ReceivedBytes.{nothing_received, received_then, received_to_fault}
use Rattle.git_client.proofs.ReceivingSteps.{left}

-- ---- what an event leaves in the chunk

-- its bytes are the last ones of those used
module _ {A : Type 0} (c : Client A) (chunk : List ℕ) (done count : ℕ) (within : done ≤ length chunk) (fits : done + count ≤ length chunk) where
  passed_bytes : (bytes : List ℕ) → IsPassed bytes count (left chunk done) c
      → take (length bytes) (drop (done + count - length bytes) chunk) ≡ bytes
  passed_bytes bytes passed =
      let n = done + count in
      let k = length bytes in
      let front = take done chunk ++ passed.front in
      let whole : take n chunk ≡ front ++ bytes =
      sym (take_joined chunk done count within) ∙ ap (λ (l : List ℕ). take done chunk ++ l) passed.lies
      ∙ sym (append_assoc (take done chunk) passed.front bytes) in
      let size : length front + k ≡ n = omega (arith, ap length whole ∙ length-append front bytes, length-take-le n chunk fits) in
      let at : length front ≡ n - k = omega (arith, size) in
      let sum : n - k + k ≡ n = omega (arith, size) in
      sym (drop-take (n - k) k chunk) ∙ ap (λ (m : ℕ). drop (n - k) (take m chunk)) sum ∙ ap (drop (n - k)) whole ∙ drop_at front bytes (n - k) at

  pub event_packs : (e : Event) (passing : Passing) (few : ℕ) → PassesOn e passing few → EndsAt e count (left chunk done) c
      → pack_in passing (take few (drop (done + count - few) chunk)) ≡ pack_bytes (values_of e)
  event_packs (PackEvent bytes) passing few (is, size) ends =
      subst (λ (p : Passing). pack_in p (take few (drop (done + count - few) chunk)) ≡ pack_bytes (values_of (PackEvent bytes))) (sym is)
      (subst (λ (n : ℕ). take n (drop (done + count - n) chunk) ≡ pack_bytes (values_of (PackEvent bytes))) (sym size)
      (passed_bytes bytes.now ends ∙ sym (pack_sent (PackEvent bytes) bytes refl)))
  event_packs (ProgressEvent bytes) passing few (is, size) ends =
      subst (λ (p : Passing). pack_in p (take few (drop (done + count - few) chunk)) ≡ pack_bytes (values_of (ProgressEvent bytes))) (sym is)
      (sym (progress_unsent (ProgressEvent bytes) bytes refl))
  event_packs e passing few is ends =
      subst (λ (p : Passing). pack_in p (take few (drop (done + count - few) chunk)) ≡ pack_bytes (values_of e)) (sym is) refl

  pub event_reports : (e : Event) (passing : Passing) (few : ℕ) → PassesOn e passing few → EndsAt e count (left chunk done) c
      → progress_in passing (take few (drop (done + count - few) chunk)) ≡ progress_bytes (values_of e)
  event_reports (ProgressEvent bytes) passing few (is, size) ends =
      subst (λ (p : Passing). progress_in p (take few (drop (done + count - few) chunk)) ≡ progress_bytes (values_of (ProgressEvent bytes))) (sym is)
      (subst (λ (n : ℕ). take n (drop (done + count - n) chunk) ≡ progress_bytes (values_of (ProgressEvent bytes))) (sym size)
      (passed_bytes bytes.now ends ∙ sym (progress_reported (ProgressEvent bytes) bytes refl)))
  event_reports (PackEvent bytes) passing few (is, size) ends =
      subst (λ (p : Passing). progress_in p (take few (drop (done + count - few) chunk)) ≡ progress_bytes (values_of (PackEvent bytes))) (sym is)
      (sym (pack_unreported (PackEvent bytes) bytes refl))
  event_reports e passing few is ends =
      subst (λ (p : Passing). progress_in p (take few (drop (done + count - few) chunk)) ≡ progress_bytes (values_of e)) (sym is) refl

  -- they are among the bytes used
  pub event_count : (e : Event) (passing : Passing) (few : ℕ) → PassesOn e passing few → EndsAt e count (left chunk done) c → (passing ≡ Nothing → ⊥)
      → few ≤ done + count
  event_count (PackEvent bytes) passing few (is, size) ends other =
      omega (arith, size, ap length ends.lies ∙ length-append ends.front bytes.now, length-take count (left chunk done))
  event_count (ProgressEvent bytes) passing few (is, size) ends other =
      omega (arith, size, ap length ends.lies ∙ length-append ends.front bytes.now, length-take count (left chunk done))
  event_count e passing few is ends other = absurd (other is)

-- an event that leaves none
pub quiet_event : (e : Event) (passing : Passing) (few : ℕ) → PassesOn e passing few → passing ≡ Nothing
    → (pack_bytes (values_of e) ≡ []) × (progress_bytes (values_of e) ≡ [])
quiet_event (PackEvent bytes) passing few (is, size) none = let no : Pack ≡ Nothing = sym is ∙ none in absurd (cc)
quiet_event (ProgressEvent bytes) passing few (is, size) none = let no : Progress ≡ Nothing = sym is ∙ none in absurd (cc)
quiet_event e passing few is none = (refl, refl)

further : (front x y bytes : List ℕ) → y ≡ x ++ bytes → front ++ y ≡ (front ++ x) ++ bytes
further front x y bytes is = ap (λ (l : List ℕ). front ++ l) is ∙ sym (append_assoc front x bytes)

module _ {A : Type 0} where
  -- ---- bytes that were received, with other lists of what they gave

  pub same_bytes : {a c : Client A} {k m : Counts} {u v l x p q r s : List ℕ} → u ≡ v → l ≡ x → p ≡ q → r ≡ s
      → ReceivesBytes false a c k m u (held l) (held p) (held r) → ReceivesBytes false a c k m v (held x) (held q) (held s)
  same_bytes {a} {c} {k} {m} {u} {v} {l} {x} {p} {q} {r} {s} e f g h bytes =
      subst (λ (w : List ℕ). ReceivesBytes false a c k m v (held x) (held q) (held w)) h
      (subst (λ (w : List ℕ). ReceivesBytes false a c k m v (held x) (held w) (held r)) g
      (subst (λ (w : List ℕ). ReceivesBytes false a c k m v (held w) (held p) (held r)) f
      (subst (λ (w : List ℕ). ReceivesBytes false a c k m w (held l) (held p) (held r)) e bytes)))

  -- behind others
  pub shifted : (l p r : List ℕ) {a c : Client A} {k m : Counts} {u x y z w s t : List ℕ}
      → ReceivesBytes false a c k m u (flow (Some x) (Some y)) (flow (Some z) (Some w)) (flow (Some s) (Some t))
      → ReceivesBytes false a c k m u (flow (Some (l ++ x)) (Some (l ++ y))) (flow (Some (p ++ z)) (Some (p ++ w))) (flow (Some (r ++ s)) (Some (r ++ t)))
  shifted l p r bytes = record {
    events = bytes.events;
    arrives = bytes.arrives;
    one_turn = bytes.one_turn;
    has_unsent = bytes.has_unsent;
    counted = bytes.counted;
    announced = λ can. further l _ _ _ (bytes.announced can);
    sent = further p _ _ _ bytes.sent;
    reported = further r _ _ _ bytes.reported;
  }

  -- none of the bytes passes
  pub received_plain : {a c : Client A} {k m : Counts} (chunk before after bytes : List ℕ) (n count : ℕ) (passing : Passing) → count ≡ n → passing ≡ Nothing
      → ReceivesBytes false a c k m (take n chunk) (flow (Some before) (Some after)) (flow (Some []) (Some [])) (flow (Some []) (Some []))
      → ReceivesBytes false a c k m (take count chunk) (flow (Some before) (Some after)) (flow (Some []) (Some (pack_in passing bytes)))
      (flow (Some []) (Some (progress_in passing bytes)))
  received_plain {a} {c} {k} {m} chunk before after bytes n count passing same none arrived =
      subst (λ (p : Passing). ReceivesBytes false a c k m (take count chunk) (flow (Some before) (Some after)) (flow (Some []) (Some (pack_in p bytes)))
      (flow (Some []) (Some (progress_in p bytes)))) (sym none)
      (subst (λ (j : ℕ). ReceivesBytes false a c k m (take j chunk) (flow (Some before) (Some after)) (flow (Some []) (Some [])) (flow (Some []) (Some [])))
      (sym same) arrived)

  -- ---- a receiver

  -- before its first call
  pub begins : (r : Receiver A) (client : Client A) (counts : Counts) → r.client.now ≡ client → r.counts ≡ counts → wants_input client ≡ true
      → r.lines.now ≡ [] → r.lends_lines ≡ false → r.passing ≡ Nothing → HasReceived (received_first client counts) r
  begins r client counts same counted expected given unlent passed = record {
    bytes = same_bytes refl (sym (ap (λ (b : Bool). lines_in b r.lines.now) unlent ∙ given)) (ap (λ (p : Passing). pack_in p (bytes_in r.passed)) (sym passed))
        (ap (λ (p : Passing). progress_in p (bytes_in r.passed)) (sym passed))
        (subst (λ (c : Client A). ReceivesBytes false client c counts r.counts [] (held []) (held []) (held [])) (sym same)
        (subst (λ (n : Counts). ReceivesBytes false client client counts n [] (held []) (held []) (held [])) (sym counted)
        (nothing_received client counts (Some []) (Some []) (Some []) expected)));
    whole = λ over. let no : true ≡ false = sym (ap wants_input same ∙ expected) ∙ over in absurd (cc);
    truncated = λ fault failed.
        let no : None ≡ Some fault = sym (sound_where_expected (phase_of r.client.now) (ap wants_input same ∙ expected)) ∙ failed in absurd (cc);
    closed = λ over. absurd (cc);
  }

  module _ (r : Receiver A) where
    abbrev Reaches : Receiver A → List Move → Receiver A → Type 0
    Reaches old trace new = ReceiverReaches old trace new × (new.client.ghost_name ≡ old.client.ghost_name)

    abbrev pass : List ℕ
    pass = bytes_in r.passed

    -- the lines that wait
    abbrev wait : List ℕ
    wait = lines_in r.lends_lines r.lines.now

    -- after a call of `next`
    abbrev pub lending : MutBor (List ℕ) → Passing → Bool → Receiver A
    lending lines passing lends_lines = record {
      client = r.client;
      counts = r.counts;
      lines = lines;
      passing = passing;
      passed = r.passed;
      lends_lines = lends_lines;
    }

    -- the next part went out, if one did, and the others stay where they were
    gives : (trace : List Move) (lines : MutBor (List ℕ)) (passing : Passing) (lends_lines : Bool)
        → ((h : Received A) → received_after h trace ≡ received_with h h.used h.over (h.lines ++ given_to 0 trace) (h.packed ++ given_to 1 trace)
        (h.reported ++ given_to 2 trace))
        → ((h : Received A) → (h.lines ++ given_to 0 trace) ++ lines_in lends_lines lines.now ≡ h.lines ++ wait)
        → ((h : Received A) → (h.packed ++ given_to 1 trace) ++ pack_in passing pass ≡ h.packed ++ pack_in r.passing pass)
        → ((h : Received A) → (h.reported ++ given_to 2 trace) ++ progress_in passing pass ≡ h.reported ++ progress_in r.passing pass)
        → ReceiverReaches r trace (lending lines passing lends_lines)
    gives trace lines passing lends_lines moved in_lines in_packed in_reported h has =
        subst (λ (now : Received A). HasReceived now (lending lines passing lends_lines)) (sym (moved h)) (record {
          bytes = same_bytes refl (sym (in_lines h)) (sym (in_packed h)) (sym (in_reported h)) has.bytes;
          whole = has.whole;
          truncated = has.truncated;
          closed = has.closed;
        })

    -- a move that gives a part uses nothing
    gave_so : (to : ℕ) (bytes : List ℕ) (h : Received A) → received_after h (gave to bytes ∷ [])
        ≡ received_with h h.used h.over (h.lines ++ given_to 0 (gave to bytes ∷ [])) (h.packed ++ given_to 1 (gave to bytes ∷ []))
        (h.reported ++ given_to 2 (gave to bytes ∷ []))
    gave_so to bytes h =
        let trace : List Move = gave to bytes ∷ [] in
        ap (λ (l : List ℕ). received_with h l h.over (h.lines ++ given_to 0 trace) (h.packed ++ given_to 1 trace) (h.reported ++ given_to 2 trace))
        (append-nil h.used)

    -- the whole of it went out, or nothing
    all_given : (before bytes after : List ℕ) → after ≡ [] → (before ++ (bytes ++ [])) ++ after ≡ before ++ bytes
    all_given before bytes after none =
        ap (λ (l : List ℕ). (before ++ l) ++ after) (append-nil bytes) ∙ ap (λ (l : List ℕ). (before ++ bytes) ++ l) none ∙ append-nil (before ++ bytes)

    none_given : (before after : List ℕ) → (before ++ []) ++ after ≡ before ++ after
    none_given before after = ap (λ (l : List ℕ). l ++ after) (append-nil before)

    lines_stay : (lines : MutBor (List ℕ)) (lends_lines : Bool) → lines_in lends_lines lines.now ≡ [] → wait ≡ [] → (h : Received A)
        → (h.lines ++ []) ++ lines_in lends_lines lines.now ≡ h.lines ++ wait
    lines_stay lines lends_lines none none_before h =
        none_given h.lines (lines_in lends_lines lines.now) ∙ ap (λ (l : List ℕ). h.lines ++ l) (none ∙ sym none_before)

    -- no part went out
    pub stays : (lines : MutBor (List ℕ)) (lends_lines : Bool) → lines_in lends_lines lines.now ≡ [] → wait ≡ []
        → Reaches r [] (lending lines r.passing lends_lines)
    stays lines lends_lines none none_before = (
      gives [] lines r.passing lends_lines
          (λ h. ap (λ (l : List ℕ). received_with h l h.over (h.lines ++ []) (h.packed ++ []) (h.reported ++ [])) (append-nil h.used))
          (lines_stay lines lends_lines none none_before) (λ h. none_given h.packed (pack_in r.passing pass))
          (λ h. none_given h.reported (progress_in r.passing pass)),
      refl,
    )

    abbrev Lends : List ℕ → Receiver A → List ℕ → Type 0
    Lends fed m bytes = IsLent m.lends_lines m.lines.now m.passed fed bytes

    -- the lines were lent
    pub gives_lines : (to : ℕ) (lines : MutBor (List ℕ)) (lends_lines : Bool) (fed : List ℕ) → to ≡ 0 → lends_lines ≡ true → lines.now ≡ wait
        → GivesPart Reaches (Lends fed) r to (lending lines r.passing lends_lines)
    gives_lines to lines lends_lines fed first lent same =
        subst (λ (b : Bool). GivesPart Reaches (Lends fed) r to (lending lines r.passing b)) (sym lent) (record {
          bytes = lines.now;
          lent = refl;
          reaches = subst (λ (n : ℕ). Reaches r (gave n lines.now ∷ []) (lending lines r.passing true)) (sym first) (
            gives (gave 0 lines.now ∷ []) lines r.passing true (gave_so 0 lines.now)
                (λ h. all_given h.lines lines.now [] refl ∙ ap (λ (l : List ℕ). h.lines ++ l) same)
                (λ h. none_given h.packed (pack_in r.passing pass)) (λ h. none_given h.reported (progress_in r.passing pass)),
            refl,
          );
        })

    module _ (to : ℕ) (lines : MutBor (List ℕ)) (lends_lines : Bool) (fed : List ℕ) (unlent : lends_lines ≡ false) (none : lines.now ≡ [])
        (none_before : wait ≡ []) (lies : LiesIn r.passed fed) where
      quiet_lines : (h : Received A) → (h.lines ++ []) ++ lines_in false lines.now ≡ h.lines ++ wait
      quiet_lines = lines_stay lines false none none_before

      -- bytes of the pack were lent
      pub gives_pack : to ≡ 1 → r.passing ≡ Pack → GivesPart Reaches (Lends fed) r to (lending lines Nothing lends_lines)
      gives_pack first is =
          subst (λ (b : Bool). GivesPart Reaches (Lends fed) r to (lending lines Nothing b)) (sym unlent) (record {
            bytes = pass;
            lent = (lies, refl);
            reaches = subst (λ (n : ℕ). Reaches r (gave n pass ∷ []) (lending lines Nothing false)) (sym first) (
              gives (gave 1 pass ∷ []) lines Nothing false (gave_so 1 pass) quiet_lines
                  (λ h. all_given h.packed pass [] refl ∙ ap (λ (p : Passing). h.packed ++ pack_in p pass) (sym is))
                  (λ h. none_given h.reported [] ∙ ap (λ (p : Passing). h.reported ++ progress_in p pass) (sym is)),
              refl,
            );
          })

      -- bytes of the progress were lent
      pub gives_progress : to ≡ 2 → r.passing ≡ Progress → GivesPart Reaches (Lends fed) r to (lending lines Nothing lends_lines)
      gives_progress first is =
          subst (λ (b : Bool). GivesPart Reaches (Lends fed) r to (lending lines Nothing b)) (sym unlent) (record {
            bytes = pass;
            lent = (lies, refl);
            reaches = subst (λ (n : ℕ). Reaches r (gave n pass ∷ []) (lending lines Nothing false)) (sym first) (
              gives (gave 2 pass ∷ []) lines Nothing false (gave_so 2 pass) quiet_lines
                  (λ h. none_given h.packed [] ∙ ap (λ (p : Passing). h.packed ++ pack_in p pass) (sym is))
                  (λ h. all_given h.reported pass [] refl ∙ ap (λ (p : Passing). h.reported ++ progress_in p pass) (sym is)),
              refl,
            );
          })

    module _ (waits : Waits r) where
      quiet : can_ask r.client.now ≡ false
      quiet = not_ready_where_expected (phase_of r.client.now) waits.expected

      sound : fault_of r.client.now ≡ None
      sound = sound_where_expected (phase_of r.client.now) waits.expected

      never_closed : (h : Received A) → HasReceived h r → h.over ≡ true → ⊥
      never_closed h has over = let (fault, failed) = has.closed over in let no : None ≡ Some fault = sym sound ∙ failed in absurd (cc)

      module _ (new : Receiver A) (from : ℕ) (bytes : List ℕ) where
        -- they add these lines to those that were gathered
        abbrev Takes : List ℕ → Type 0
        Takes lines = ReceivesBytes false r.client.now new.client.now r.counts new.counts bytes (flow (Some r.lines.now) (Some lines))
            (flow (Some []) (Some (pack_in new.passing (bytes_in new.passed)))) (flow (Some []) (Some (progress_in new.passing (bytes_in new.passed))))

        -- bytes of a chunk were received
        pub feeds : from ≡ 0 → new.lends_lines ≡ false → Takes new.lines.now
            → (wants_input new.client.now ≡ false → fault_of new.client.now ≡ None → can_ask new.client.now ≡ true)
            → ((fault : Fault) → fault_of new.client.now ≡ Some fault → fault.kind ≡ Truncated → ⊥)
            → ReceiverReaches r (used from bytes ∷ []) new
        feeds first unlent received whole shown =
            subst (λ (n : ℕ). ReceiverReaches r (used n bytes ∷ []) new) (sym first) (λ h has. record {
              bytes =
                  same_bytes (ap (λ (l : List ℕ). h.used ++ l) (sym (append-nil bytes)))
                  (sym (none_given h.lines (lines_in new.lends_lines new.lines.now)))
                  (sym (none_given h.packed (pack_in new.passing (bytes_in new.passed))))
                  (sym (none_given h.reported (progress_in new.passing (bytes_in new.passed))))
                  (received_then quiet
                  (same_bytes refl (ap (λ (b : Bool). h.lines ++ lines_in b r.lines.now) waits.given.unlent)
                  (ap (λ (p : Passing). h.packed ++ pack_in p pass) waits.given.passed)
                  (ap (λ (p : Passing). h.reported ++ progress_in p pass) waits.given.passed) has.bytes)
                  (shifted h.lines h.packed h.reported (subst (λ (b : Bool). Takes (lines_in b new.lines.now)) (sym unlent) received)));
              whole = whole;
              truncated = λ fault failed kind. absurd (shown fault failed kind);
              closed = λ over. absurd (never_closed h has over);
            })

      -- the input ended
      pub closes : (client : MutBor (Client A)) (from : ℕ) (fault : Fault) → from ≡ 0 → ReceivesOn r.client.now [] [] client.now
          → fault_of client.now ≡ Some fault
          → ReceiverReaches r (closed from ∷ []) (record {
            client = client;
            counts = r.counts;
            lines = r.lines;
            passing = r.passing;
            passed = r.passed;
            lends_lines = r.lends_lines;
          })
      closes client from fault first arrives failed =
          let new : Receiver A = record {
            client = client;
            counts = r.counts;
            lines = r.lines;
            passing = r.passing;
            passed = r.passed;
            lends_lines = r.lends_lines;
          } in
          subst (λ (n : ℕ). ReceiverReaches r (closed n ∷ []) new) (sym first) (λ h has. record {
            bytes =
                same_bytes refl (sym (none_given h.lines wait)) (sym (none_given h.packed (pack_in r.passing pass)))
                (sym (none_given h.reported (progress_in r.passing pass)))
                (received_then quiet has.bytes (received_to_fault r.counts arrives fault failed (written_nothing (Some (h.lines ++ wait)))
                (written_nothing (Some (h.packed ++ pack_in r.passing pass))) (written_nothing (Some (h.reported ++ progress_in r.passing pass)))));
            whole = λ over none. let no : Some fault ≡ None = sym failed ∙ none in absurd (cc);
            truncated = λ met is kind. refl;
            closed = λ over. (fault, failed);
          })

-- ---- one call of `feed`

pub passes_in : (passing : Passing) (passed : InChunk) (chunk : List ℕ) → LiesIn passed chunk → PassesIn passing passed chunk
passes_in Nothing passed chunk lies = tt
passes_in Pack passed chunk lies = lies
passes_in Progress passed chunk lies = lies

pub stops_short : (failed : Option Fault) (count : ℕ) (chunk : List ℕ) → ((fault : Fault) → failed ≡ Some fault → ShownByFeed fault count chunk)
    → IsTooLong failed → count < length chunk
stops_short None count chunk shown too_long = absurd too_long
stops_short (Some fault) count chunk shown too_long = (shown fault refl).one_more too_long

-- the bytes that pass are those at this place
pub placed : {A : Type 0} {a c : Client A} {k m : Counts} {u x y : List ℕ} (chunk : List ℕ) (passed : InChunk) (passing : Passing) (count few : ℕ)
    → few ≤ count → bytes_in passed ≡ take (count - (count - few)) (drop (count - few) chunk)
    → ReceivesBytes false a c k m u (flow (Some x) (Some y)) (flow (Some []) (Some (pack_in passing (take few (drop (count - few) chunk)))))
    (flow (Some []) (Some (progress_in passing (take few (drop (count - few) chunk)))))
    → ReceivesBytes false a c k m u (flow (Some x) (Some y)) (flow (Some []) (Some (pack_in passing (bytes_in passed))))
    (flow (Some []) (Some (progress_in passing (bytes_in passed))))
placed {A} {a} {c} {k} {m} {u} {x} {y} chunk passed passing count few within is received =
    let size : count - (count - few) ≡ few = omega (arith, within) in
    let same : take few (drop (count - few) chunk) ≡ bytes_in passed =
    ap (λ (n : ℕ). take n (drop (count - few) chunk)) (sym size) ∙ sym is in
    subst (λ (l : List ℕ). ReceivesBytes false a c k m u (flow (Some x) (Some y)) (flow (Some []) (Some (pack_in passing l)))
    (flow (Some []) (Some (progress_in passing l)))) same received
