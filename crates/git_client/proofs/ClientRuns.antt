-- A run of a client over its streams so far, and what is true of it at each of its ends.
use Rattle.std.proofs.Common.{◌≡◌, inl, inr, ℕ, Bool, true, false, List, [], ◌∷◌, ◌++◌, Option, Some, None}
use Rattle.std.proofs.Common.{◌||◌, IsTrue, Result, Ok, Err, is_err, IfErr, IsErrAnd, refl, sym, ap, ◌∙◌, subst, append_assoc, append-nil}
use Rattle.std.proofs.Math.Bool.{or-false}
use Rattle.std.proofs.lemmas.Bool.{or_from, or_left}
use Rattle.std.proofs.lemmas.Result.{err_from_is_err_and}
use Rattle.std.proofs.KnownBytes.{Appends-kept, Consumes-nil, Consumes-trans}
use Rattle.std.specs.Io.KnownBytes.{Consumes, Keeps, prepend_known}
use Rattle.git_pkt.specs.Machine.Engine.{FailsAs, IsShownBy}
use Rattle.git_pkt.specs.declared.fault.Fault.{Fault}
use Rattle.git_pkt.specs.declared.fault.RunFault.{RunFault}
use Rattle.git_pkt.specs.declared.fault.RunFault.TheVariants.{ReadFault, WriteFault, ReadLimit, Refused}
use Rattle.git_msg.specs.Asked.{Asked}
use Rattle.git_msg.specs.Checks.{Refuses as RefusesBy}
use Rattle.git_msg.specs.Machine.HeldRequest.{asked_of}
use Rattle.git_msg.specs.declared.requests.Request.{Request}
use Rattle.git_names.specs.declared.object_format.Format.{Format}
use Rattle.git_pkt.proofs.EngineLemmas.{holds_at_fault, written_nothing, written_then, written_whole}
use Rattle.git_client.specs.Parts.{Terms}
use Rattle.git_client.specs.Events.{EventValue, pack_bytes, progress_bytes}
use Rattle.git_client.specs.Transcript.{transcript_from, transcript_of}
use Rattle.git_client.specs.Machine.Client.{History, Converses, Leaves, nothing_yet, ask_checks, caps_of, ending_of, can_ask, fault_of, wants_input}
use Rattle.git_client.specs.Machine.Client.{left_to_send, phase_of, request_of}
use Rattle.git_pkt.specs.Streams.{Flow, flow, WrittenAs, Moves, is_broken}
use Rattle.git_client.specs.Machine.Messages.{ReceivesFirst, ReceivesMessage, ReceivesWholeMessage}
use Rattle.git_client.specs.Machine.RunSteps.{FaultsInTime, ReceivesBytes, ReceivesFrom, SendsPackets, AsksNext, AsksNot, AsksTo, no_counts}
use Rattle.git_client.specs.Machine.Runs.{leaves_last, HasSent, IsBrokenRun, IsInterrupted, IsRefusedRequest, IsWholeRun, EndsAs, Conversed}
use Rattle.git_client.specs.Machine.Running.{IsAnnounced, AskedInTurn, Running}
use Rattle.git_client.specs.declared.client.Client.{Client}
use Rattle.git_client.specs.declared.events.Ending.{Ending}
use Rattle.git_client.specs.declared.events.Ending.TheVariants.{FlushOnly, ResponseEnd}
use Rattle.git_client.specs.declared.receiving.Counts.{Counts}
use Rattle.git_client.proofs.Alongs.{in_time_where_sound, in_time_where_announced}
use Rattle.git_client.proofs.Alongs.{along_anew, along_asked, along_begun, along_received, counts_on}
use Rattle.git_client.proofs.Counting.{progress_bytes-append}
use Rattle.git_client.proofs.Carries.{is_quiet, not_left, nothing_unsent}
use Rattle.git_client.proofs.Phases.{sound_where_expected, sound_where_ready, quiet_where_expected, quiet_where_failed, quiet_where_ready}
use Rattle.git_client.proofs.EventsReceived.{has_noted, awaits_more, is_whole, position_is, all_is_sent}
use Rattle.git_client.proofs.Faults.{first_fault}
use Rattle.git_client.proofs.AskedInTurn.{asked_in_turn, has_asked, received_in_turn, none_in_turn}

-- ---- what was read and written

-- some of the waiting and the newly read bytes were used
pub read_on : (before held after : Option (List ℕ)) (used waiting came more unused : List ℕ) → Consumes before held (used ++ waiting)
    → Consumes held after came → waiting ++ came ≡ more ++ unused → Consumes before after ((used ++ more) ++ unused)
read_on before held after used waiting came more unused first second parts =
    subst (Consumes before after) (append_assoc used waiting came ∙ ap (λ (l : List ℕ). used ++ l) parts ∙ sym (append_assoc used more unused))
    (Consumes-trans before held after (used ++ waiting) came first second)

-- the first of the bytes that waited, and of those that were left to read, were used
read_first : (before held after : Option (List ℕ)) (used waiting more unused : List ℕ) → Consumes before held (used ++ waiting)
    → Consumes (prepend_known waiting held) (prepend_known unused after) more → Consumes before after ((used ++ more) ++ unused)
read_first None held after used waiting more unused first second = tt
read_first (Some all) None after used waiting more unused first second = absurd first
read_first (Some all) (Some rest) None used waiting more unused first second = absurd second
read_first (Some all) (Some rest) (Some left) used waiting more unused first second =
    first ∙ append_assoc used waiting rest ∙ ap (λ (l : List ℕ). used ++ l) second ∙ sym (append_assoc used more (unused ++ left))
    ∙ sym (append_assoc (used ++ more) unused left)

-- if nothing more is asked or received, the lines so far are the whole transcript
all_lines : (ready : Bool) (h : History) (lines : List ℕ) (counts : Counts) → IsAnnounced ready h lines counts
    → transcript_of (h.asked ++ []) (h.events ++ []) ≡ lines
all_lines true h lines counts announced = announced [] [] ∙ append-nil (lines ++ []) ∙ append-nil lines
all_lines false h lines counts announced = announced [] [] ∙ append-nil lines

all_announced : (ready : Bool) (h : History) (lines : List ℕ) (counts : Counts) → IsAnnounced ready h lines counts → lines ≡ transcript_of h.asked h.events
all_announced ready h lines counts announced =
    sym (all_lines ready h lines counts announced) ∙ ap (λ (asked : List Asked). transcript_of asked (h.events ++ [])) (append-nil h.asked)
    ∙ ap (λ (events : List EventValue). transcript_of h.asked events) (append-nil h.events)

-- ---- which streams failed

-- a stream without a failure does not change which ones failed
pub sound_last : (a b c : Bool) → c ≡ false → (a || b) ≡ (a || (b || c))
sound_last a b c sound = ap (λ (x : Bool). a || x) (sym (or-false b) ∙ ap (λ (x : Bool). b || x) (sym sound))

pub sound_first : (a b : Bool) → a ≡ false → b ≡ (a || b)
sound_first a b sound = ap (λ (x : Bool). x || b) (sym sound)

-- the error that `?` returns is reported like the one that occurred
pub fails_at : (r : Result (Unit {0}) RunFault) (fault : RunFault) (read reads written writes : Bool) → IsErrAnd r (λ e. e ≡ fault) → read ≡ reads
    → written ≡ writes → FailsAs {T = Unit {0}} (Err fault) read written → FailsAs r reads writes
fails_at r fault read reads written writes met same others announced =
    let (e, is, named) = err_from_is_err_and r met in
    subst (λ (x : Result (Unit {0}) RunFault). FailsAs x reads writes) (sym (is ∙ ap Err named))
    (subst (λ (b : Bool). FailsAs {T = Unit {0}} (Err fault) b writes) same (subst (FailsAs {T = Unit {0}} (Err fault) read) others announced))

shown_by : (fault : RunFault) (R S : Type 0) (written writes : Bool) {Read Spent : Type 0} → (Read → R) → (Spent → S) → written ≡ writes
    → IsShownBy Read (IsTrue written) Spent fault → IsShownBy R (IsTrue writes) S fault
shown_by ReadFault R S written writes reads spends others shown = reads shown
shown_by WriteFault R S written writes reads spends others shown = subst IsTrue others shown
shown_by ReadLimit R S written writes reads spends others shown = spends shown
shown_by (Refused f) R S written writes reads spends others shown = tt

pub shown_at : (r : Result (Unit {0}) RunFault) (fault : RunFault) (R S : Type 0) (written writes : Bool) {Read Spent : Type 0}
    → IsErrAnd r (λ e. e ≡ fault) → (Read → R) → (Spent → S) → written ≡ writes → IsShownBy Read (IsTrue written) Spent fault
    → IfErr r (IsShownBy R (IsTrue writes) S)
shown_at r fault R S written writes met reads spends others shown =
    holds_at_fault r fault (λ _. Unit {0}) (IsShownBy R (IsTrue writes) S) met (shown_by fault R S written writes reads spends others shown)

-- the last flush fails or not, and nothing failed before it
module _ (before after others : Bool) (sound : before ≡ false) where
  pub flush_fails : (r : Result (Unit {0}) RunFault) (read : Bool) → read ≡ false → others ≡ false → after ≡ (before || is_err r)
      → IfErr r (λ fault. fault ≡ WriteFault) → FailsAs r read (after || others)
  flush_fails (Ok done) read reads writes failed named = (reads, or_from after others (failed ∙ ap (λ (b : Bool). b || false) sound) writes)
  flush_fails (Err fault) read reads writes failed named =
      subst (λ (f : RunFault). FailsAs {T = Unit {0}} (Err f) read (after || others)) (sym named)
      (reads, or_left after others (failed ∙ ap (λ (b : Bool). b || true) sound))

  pub flush_shows : (r : Result (Unit {0}) RunFault) (R S : Type 0) → after ≡ (before || is_err r) → IfErr r (λ fault. fault ≡ WriteFault)
      → IfErr r (IsShownBy R (IsTrue (after || others)) S)
  flush_shows (Ok done) R S failed named = tt
  flush_shows (Err fault) R S failed named =
      subst (IsShownBy R (IsTrue (after || others)) S) (sym named) (or_left after others (failed ∙ ap (λ (b : Bool). b || true) sound))

module _ {A : Type 0} where
  -- ---- a run so far

  -- the same for a run that ends here
  pub record Ran (broken : Bool) (t : Terms) (h : History) (front : List (Request A)) (client : Client A) (unused : List ℕ)
      (reader writer out pack progress : Flow) : Type 0 where
    pub stands : Converses t h client
    pub in_turn : AskedInTurn t h.asked h.used h.events front
    pub read : Consumes reader.before reader.after (h.used ++ unused)
    pub content : WrittenAs broken writer h.given
    pub announced : WrittenAs broken out (transcript_of h.asked h.events)
    pub sent : WrittenAs broken pack (pack_bytes h.events)
    pub reported : WrittenAs broken progress (progress_bytes h.events)

  -- a run may end at any point
  pub ran : {broken : Bool} {t : Terms} {h : History} {front : List (Request A)} {client : Client A} {counts : Counts} {unused : List ℕ}
      {reader writer out pack progress : Flow} → Running broken t h front client counts unused reader writer out pack progress
      → Ran broken t h front client unused reader writer out pack progress
  ran {broken} {t} {h} {front} {client} {counts} {unused} {reader} {writer} {out} {pack} {progress} r = record {
    stands = r.along.stands;
    in_turn = r.in_turn;
    read = r.read;
    content = r.content;
    announced = subst (WrittenAs broken out) (all_announced (can_ask client) h r.lines counts r.along.announced) r.announced;
    sent = subst (WrittenAs broken pack) r.along.pack_is r.sent;
    reported = r.reported;
  }

  -- the same run over streams that moved in another way to the same contents
  pub ran_as : {broken again : Bool} {t : Terms} {h : History} {front : List (Request A)} {client : Client A} {unused more : List ℕ}
      {reader writer out pack progress reader_now writer_now out_now pack_now progress_now : Flow}
      → Ran broken t h front client unused reader writer out pack progress → Consumes reader_now.before reader_now.after (h.used ++ more)
      → WrittenAs again writer_now h.given → WrittenAs again out_now (transcript_of h.asked h.events) → WrittenAs again pack_now (pack_bytes h.events)
      → WrittenAs again progress_now (progress_bytes h.events) → Ran again t h front client more reader_now writer_now out_now pack_now progress_now
  ran_as r read content announced sent reported =
      record { stands = r.stands; in_turn = r.in_turn; read = read; content = content; announced = announced; sent = sent; reported = reported }

  -- ---- the steps of a run

  module _ (t : Terms) where
    -- before the first byte: the writer was flushed, or the flush failed
    pub begins : (client : Client A) (reader writer flushed out pack progress : Option (List ℕ)) → wants_input client ≡ true → Converses t nothing_yet client
        → Keeps writer flushed → Running false t nothing_yet [] client no_counts [] (flow reader reader) (flow writer flushed) (flow out out)
        (flow pack pack) (flow progress progress)
    begins client reader writer flushed out pack progress expected stands kept = record {
      lines = [];
      packed = [];
      along = along_begun t client expected stands;
      stays = refl;
      in_turn = none_in_turn t;
      read = Consumes-nil reader;
      content = Appends-kept writer writer flushed [] (written_nothing writer) kept;
      announced = written_nothing out;
      sent = written_nothing pack;
      reported = written_nothing progress;
    }

    -- a request was asked, or a write failed meanwhile
    pub asks_on : (broken : Bool) {h : History} (front : List (Request A)) (old new : Client A) (request : Request A) (counts : Counts)
        (unused : List ℕ) {reader pack progress : Flow} {writer_before writer_held writer_after out_before out_held out_after : Option (List ℕ)}
        → Running false t h front old counts unused reader (flow writer_before writer_held) (flow out_before out_held) pack progress
        → can_ask old ≡ true → (step : AsksNext broken old new request (flow writer_held writer_after) (flow out_held out_after))
        → Running broken t (record h { asked = h.asked ++ asked_of request ∷ []; given = h.given ++ step.given }) (front ++ request ∷ []) new no_counts
        unused reader (flow writer_before writer_after) (flow out_before out_after) pack progress
    asks_on broken {h} front old new request counts unused {reader} {pack} {progress} {writer_before = w0} {writer_held = w1} {writer_after = w2}
        {out_before = o0} {out_held = o1} {out_after = o2} r ready step = record {
          lines = _;
          packed = r.packed;
          along = along_asked r.along ready step;
          stays = r.stays;
          in_turn = asked_in_turn t h old front request r.along.stands ready step.passes r.in_turn;
          read = r.read;
          content = written_then broken w0 w1 w2 h.given step.given r.content step.content;
          announced = written_then broken o0 o1 o2 r.lines _ r.announced step.announced;
          sent = written_whole broken pack r.packed r.sent;
          reported = written_whole broken progress (progress_bytes h.events) r.reported;
        }

    -- bytes were received, or a write failed meanwhile
    received_more : (broken : Bool) {h : History} (front : List (Request A)) (old new : Client A) (waiting used unused : List ℕ) (counts : Counts)
        {writer : Flow} {left_before left left_after out_before out_held out_after pack_before pack_held pack_after : Option (List ℕ)}
        {progress_before progress_held progress_after : Option (List ℕ)}
        → Running false t h front old no_counts waiting (flow left_before left) writer (flow out_before out_held) (flow pack_before pack_held)
        (flow progress_before progress_held) → wants_input old ≡ true → Consumes left_before left_after ((h.used ++ used) ++ unused)
        → (arrived : ReceivesBytes broken old new no_counts counts used (flow out_held out_after) (flow pack_held pack_after)
        (flow progress_held progress_after))
        → Running broken t (record h { used = h.used ++ used; events = h.events ++ arrived.events }) front new counts unused
        (flow left_before left_after) writer (flow out_before out_after) (flow pack_before pack_after) (flow progress_before progress_after)
    received_more broken {h} front old new waiting used unused counts {writer} {out_before = o0} {out_held = o1} {out_after = o2} {pack_before = p0}
        {pack_held = p1} {pack_after = p2} {progress_before = q0} {progress_held = q1} {progress_after = q2} r waits read arrived =
        let lines = transcript_from [] 0 0 arrived.events in
        record {
          lines = r.lines ++ lines;
          packed = r.packed ++ pack_bytes arrived.events;
          along = along_received r.along waits arrived;
          stays = r.stays;
          in_turn = received_in_turn t h.asked h.used used h.events arrived.events front r.in_turn;
          read = read;
          content = written_whole broken writer h.given r.content;
          announced = written_then broken o0 o1 o2 r.lines lines r.announced (arrived.announced (counts_on r.along arrived.arrives));
          sent = written_then broken p0 p1 p2 r.packed (pack_bytes arrived.events) r.sent arrived.sent;
          reported = subst (WrittenAs broken (flow q0 q2)) (sym (progress_bytes-append h.events arrived.events))
              (written_then broken q0 q1 q2 (progress_bytes h.events) (progress_bytes arrived.events) r.reported arrived.reported);
        }

    -- they are some of the waiting and the newly read bytes
    pub receives_on : (broken : Bool) {h : History} (front : List (Request A)) (old new : Client A) (waiting unused : List ℕ)
        {writer : Flow} {left_before left left_after out_before out_held out_after pack_before pack_held pack_after : Option (List ℕ)}
        {progress_before progress_held progress_after : Option (List ℕ)}
        → Running false t h front old no_counts waiting (flow left_before left) writer (flow out_before out_held) (flow pack_before pack_held)
        (flow progress_before progress_held) → wants_input old ≡ true
        → (step : ReceivesFrom broken old new waiting unused (flow left left_after) (flow out_held out_after) (flow pack_held pack_after)
        (flow progress_held progress_after))
        → Running broken t (record h { used = h.used ++ step.used; events = h.events ++ step.bytes.events }) front new step.counts unused
        (flow left_before left_after) writer (flow out_before out_after) (flow pack_before pack_after) (flow progress_before progress_after)
    receives_on broken {h} front old new waiting unused {left_before = r0} {left = r1} {left_after = r2} r waits step =
        received_more broken front old new waiting step.used unused step.counts r waits
        (read_on r0 r1 r2 h.used waiting step.came step.used unused r.read step.read step.parts) step.bytes

    -- they are the first of those that waited and of those that were left to read
    pub receives_first : (broken : Bool) {h : History} (front : List (Request A)) (old new : Client A) (waiting unused : List ℕ)
        {writer : Flow} {left_before left left_after out_before out_held out_after pack_before pack_held pack_after : Option (List ℕ)}
        {progress_before progress_held progress_after : Option (List ℕ)}
        → Running false t h front old no_counts waiting (flow left_before left) writer (flow out_before out_held) (flow pack_before pack_held)
        (flow progress_before progress_held) → wants_input old ≡ true
        → (step : ReceivesFirst broken old new waiting unused (flow left left_after) (flow out_held out_after) (flow pack_held pack_after)
        (flow progress_held progress_after))
        → Running broken t (record h { used = h.used ++ step.used; events = h.events ++ step.bytes.events }) front new step.counts unused
        (flow left_before left_after) writer (flow out_before out_after) (flow pack_before pack_after) (flow progress_before progress_after)
    receives_first broken {h} front old new waiting unused {left_before = r0} {left = r1} {left_after = r2} r waits step =
        received_more broken front old new waiting step.used unused step.counts r waits
        (read_first r0 r1 r2 h.used waiting step.used unused r.read step.read) step.bytes

    -- an input in which no bytes wait
    pub over_empty : {h : History} {front : List (Request A)} {client : Client A} {counts : Counts} {unused : List ℕ} {reader writer out pack progress : Flow}
        → unused ≡ [] → Running false t h front client counts [] reader writer out pack progress
        → Running false t h front client counts unused reader writer out pack progress
    over_empty {h} {front} {client} {counts} {reader = reader} {writer} {out} {pack} {progress} none r =
        subst (λ (l : List ℕ). Running false t h front client counts l reader writer out pack progress) (sym none) r

    -- a client that can ask counts the next response from zero
    pub anew : {h : History} {front : List (Request A)} {client : Client A} {counts : Counts} {unused : List ℕ} {reader writer out pack progress : Flow}
        → can_ask client ≡ true → Running false t h front client counts unused reader writer out pack progress
        → Running false t h front client no_counts unused reader writer out pack progress
    anew ready r = record {
      lines = r.lines;
      packed = r.packed;
      along = along_anew r.along ready;
      stays = r.stays;
      in_turn = r.in_turn;
      read = r.read;
      content = r.content;
      announced = r.announced;
      sent = r.sent;
      reported = r.reported;
    }

    -- a message was received whole
    pub receives_whole : {h : History} (front : List (Request A)) (old new : Client A) (waiting unused : List ℕ)
        {writer : Flow} {left_before left left_after out_before out_held out_after pack_before pack_held pack_after : Option (List ℕ)}
        {progress_before progress_held progress_after : Option (List ℕ)}
        → Running false t h front old no_counts waiting (flow left_before left) writer (flow out_before out_held) (flow pack_before pack_held)
        (flow progress_before progress_held) → wants_input old ≡ true
        → (step : ReceivesWholeMessage old new waiting unused (flow left left_after) (flow out_held out_after) (flow pack_held pack_after)
        (flow progress_held progress_after))
        → Running false t (record h { used = h.used ++ step.arrives.used; events = h.events ++ step.arrives.bytes.events }) front new no_counts
        unused (flow left_before left_after) writer (flow out_before out_after) (flow pack_before pack_after) (flow progress_before progress_after)
    receives_whole front old new waiting unused r waits step =
        anew step.can_ask_on (receives_first false front old new waiting unused r waits step.arrives)

    -- the client left, or a write failed meanwhile
    pub leaves_on : (broken : Bool) {h : History} (front : List (Request A)) (old mid new : Client A) (counts : Counts) (unused : List ℕ)
        {reader out pack progress : Flow} {before held after : Option (List ℕ)}
        → Running false t h front old counts unused reader (flow before held) out pack progress → Leaves old mid
        → (step : SendsPackets broken mid new (flow held after))
        → Ran broken t (record h { left = true; given = h.given ++ step.given }) front new unused reader (flow before after) out pack progress
    leaves_on broken {h} front old mid new counts unused {reader} {out} {pack} {progress} {before} {held} {after} r leaving step =
        let at = ran r in
        record {
          stands = step.conveys t (record h { left = true }) (leaving.leaves t h at.stands);
          in_turn = at.in_turn;
          read = at.read;
          content = written_then broken before held after h.given step.given at.content step.written;
          announced = written_whole broken out (transcript_of h.asked h.events) at.announced;
          sent = written_whole broken pack (pack_bytes h.events) at.sent;
          reported = written_whole broken progress (progress_bytes h.events) at.reported;
        }

    -- the writer was flushed, or the flush failed
    ran_flushed : {h : History} {front : List (Request A)} {client : Client A} {unused : List ℕ} {reader out pack progress : Flow}
        {before held after : Option (List ℕ)}
        → Ran false t h front client unused reader (flow before held) out pack progress → Keeps held after
        → Ran false t h front client unused reader (flow before after) out pack progress
    ran_flushed {h} {before} {held} {after} r kept = ran_as r r.read (Appends-kept before held after h.given r.content kept) r.announced r.sent r.reported

    -- if only a flush failed, all bytes were written
    ran_in_part : {h : History} {front : List (Request A)} {client : Client A} {unused : List ℕ} {reader writer out pack progress : Flow}
        → Ran false t h front client unused reader writer out pack progress → Ran true t h front client unused reader writer out pack progress
    ran_in_part {h} {writer} {out} {pack} {progress} r =
        ran_as r r.read (written_whole true writer h.given r.content) (written_whole true out (transcript_of h.asked h.events) r.announced)
        (written_whole true pack (pack_bytes h.events) r.sent) (written_whole true progress (progress_bytes h.events) r.reported)

-- ---- the ends of a run

-- a client leaves only if responses end with a flush alone
stays_last : (ending : Ending) → (ending ≡ FlushOnly → ⊥) → leaves_last ending ≡ false
stays_last FlushOnly other = absurd (other refl)
stays_last ResponseEnd other = refl

module _ {A : Type 0} (t : Terms) where
  -- a client with no packet left to send has sent all that it had to
  pub has_stated : (h : History) (client : Client A) → Converses t h client → left_to_send client ≡ [] → HasSent t h
  has_stated h client stands nothing =
      record { caps = caps_of client; noted = has_noted t h client stands; content = all_is_sent t h client stands nothing }

  pub quietly_stated : (h : History) (client : Client A) → Converses t h client → is_quiet (phase_of client) ≡ true → HasSent t h
  quietly_stated h client stands quiet = has_stated h client stands (nothing_unsent (phase_of client) (request_of client) quiet)

  pub stayed : (h : History) (client : Client A) → Converses t h client → is_quiet (phase_of client) ≡ true → h.left ≡ false
  stayed h client stands quiet = stands.left ∙ not_left (phase_of client) quiet

  -- a run that ends while the server's bytes are expected was interrupted
  interrupted : (h : History) (client : Client A) (unused : List ℕ) → Converses t h client → unused ≡ [] → wants_input client ≡ true
      → IsInterrupted t unused h
  interrupted h client unused stands all expected =
      let quiet = quiet_where_expected (phase_of client) expected in
      record {
        all = all;
        goes_on = awaits_more t h client stands expected;
        stays = stayed h client stands quiet;
        content = quietly_stated h client stands quiet;
      }

  -- the next request was refused
  pub refused_next : (h : History) (later : List (Request A)) (request : Request A) (old new : Client A) (fault : Fault) {writer out : Flow}
      → Converses t h old → can_ask old ≡ true → AsksNot fault old new request writer out → IsRefusedRequest t (request ∷ later) h fault
  refused_next h later request old new fault stands ready step = record {
    request = request;
    later = later;
    caps = caps_of old;
    next = refl;
    whole = is_whole t h old stands ready;
    noted = has_noted t h old stands;
    refused = subst (λ (format : Format). RefusesBy (ask_checks format (caps_of old) request) fault.kind) stands.format_is step.refused;
    at = step.at ∙ position_is t h old stands;
  }

  -- it was not asked, and nothing was written
  pub ran_unasked : {h : History} {front : List (Request A)} {request : Request A} {old new : Client A} {fault : Fault} {counts : Counts} {unused : List ℕ}
      {reader pack progress : Flow} {w0 w1 w2 o0 o1 o2 : Option (List ℕ)}
      → Running false t h front old counts unused reader (flow w0 w1) (flow o0 o1) pack progress
      → AsksNot fault old new request (flow w1 w2) (flow o1 o2) → Ran false t h front old unused reader (flow w0 w2) (flow o0 o2) pack progress
  ran_unasked {h} {w0 = w0} {w1 = w1} {w2 = w2} {o0 = o0} {o1 = o1} {o2 = o2} r step =
      let at = ran r in
      let announced = transcript_of h.asked h.events in
      ran_as at at.read (subst (WrittenAs false (flow w0 w2)) (append-nil h.given) (written_then false w0 w1 w2 h.given [] at.content step.content))
      (subst (WrittenAs false (flow o0 o2)) (append-nil announced) (written_then false o0 o1 o2 announced [] at.announced step.announced)) at.sent at.reported

  -- a client that waits for bytes has no error
  expected_in_time : (ended : Bool) (client : Client A) (unused : List ℕ) → wants_input client ≡ true → FaultsInTime client ended unused
  expected_in_time ended client unused expected = in_time_where_sound client ended unused (sound_where_expected (phase_of client) expected)

  module _ (requests : List (Request A)) where
    -- how a run with this result moved its streams
    abbrev pub RunEnds : Result (Unit {0}) RunFault → Bool → Client A → Flow → Flow → Flow → Flow → Flow → Type 0
    RunEnds result ended client reader writer out pack progress =
        Moves (is_broken result) (Conversed t requests result ended client) (reader ∷ []) (writer ∷ out ∷ pack ∷ progress ∷ [])

    -- what `?` returns is the error that occurred
    pub ends_at : (result : Result (Unit {0}) RunFault) (fault : RunFault) (ended : Bool) (client : Client A) (reader writer out pack progress : Flow)
        → IsErrAnd result (λ e. e ≡ fault) → RunEnds (Err fault) ended client reader writer out pack progress
        → RunEnds result ended client reader writer out pack progress
    ends_at result fault ended client reader writer out pack progress met ends =
        let (e, is, same) = err_from_is_err_and result met in
        subst (λ (x : Result (Unit {0}) RunFault). RunEnds x ended client reader writer out pack progress) (sym (is ∙ ap Err same)) ends

    -- a write failed in the call before `?`
    pub ends_at_write : (result : Result (Unit {0}) RunFault) (fault : RunFault) (ended : Bool) (client : Client A) (reader writer out pack progress : Flow)
        → IsErrAnd result (λ e. e ≡ fault) → fault ≡ WriteFault → RunEnds (Err WriteFault) ended client reader writer out pack progress
        → RunEnds result ended client reader writer out pack progress
    ends_at_write result fault ended client reader writer out pack progress met named ends =
        ends_at result fault ended client reader writer out pack progress met
        (subst (λ (f : RunFault). RunEnds (Err f) ended client reader writer out pack progress) (sym named) ends)

    module _ (front rest : List (Request A)) (split : requests ≡ front ++ rest) where
      moves : (result : Result (Unit {0}) RunFault) (ended : Bool) (h : History) (client : Client A) (unused : List ℕ) {reader writer out pack progress : Flow}
          → Ran (is_broken result) t h front client unused reader writer out pack progress → EndsAs t result ended unused rest h
          → FaultsInTime client ended unused → RunEnds result ended client reader writer out pack progress
      moves result ended h client unused r ends timely = record {
        used = (h.used ++ unused) ∷ [];
        given = h.given ∷ transcript_of h.asked h.events ∷ pack_bytes h.events ∷ progress_bytes h.events ∷ [];
        read = (r.read, tt);
        written = (r.content, (r.announced, (r.sent, (r.reported, tt))));
        related = record {
          h = h;
          unused = unused;
          rest = rest;
          arrived = refl;
          announced = refl;
          stands = r.stands;
          asked = has_asked t requests front rest h split r.in_turn;
          ends = ends;
          timely = timely;
        };
      }

      -- a client that has not left
      not_gone : (h : History) → h.left ≡ false → IsBrokenRun t rest h
      not_gone h stays = record { left_last = λ left. absurd (cc) }

      -- a write failed
      pub breaks_off : {h : History} (ended : Bool) (client : Client A) (counts : Counts) (unused : List ℕ) {reader writer out pack progress : Flow}
          → FaultsInTime client ended unused → Running true t h front client counts unused reader writer out pack progress
          → RunEnds (Err WriteFault) ended client reader writer out pack progress
      breaks_off {h} ended client counts unused timely r = moves (Err WriteFault) ended h client unused (ran r) (not_gone h r.stays) timely

      -- a flush failed
      pub breaks_unflushed : {h : History} (ended : Bool) (client : Client A) (counts : Counts) (unused : List ℕ) {reader writer out pack progress : Flow}
          → fault_of client ≡ None → Running false t h front client counts unused reader writer out pack progress
          → RunEnds (Err WriteFault) ended client reader writer out pack progress
      breaks_unflushed {h} ended client counts unused sound r =
          moves (Err WriteFault) ended h client unused (ran_in_part t (ran r)) (not_gone h r.stays) (in_time_where_sound client ended unused sound)

      -- a message was not received to its end
      pub receiving_ended : {h : History} (fault : RunFault) (ended : Bool) (old new : Client A) (waiting unused : List ℕ) {writer : Flow}
          {left_before left left_after out_before out_held out_after pack_before pack_held pack_after : Option (List ℕ)}
          {progress_before progress_held progress_after : Option (List ℕ)}
          → Running false t h front old no_counts waiting (flow left_before left) writer (flow out_before out_held) (flow pack_before pack_held)
          (flow progress_before progress_held)
          → wants_input old ≡ true
          → ReceivesMessage (Err fault) ended old new waiting unused (flow left left_after) (flow out_held out_after) (flow pack_held pack_after)
          (flow progress_held progress_after)
          → RunEnds (Err fault) ended new (flow left_before left_after) writer (flow out_before out_after) (flow pack_before pack_after)
          (flow progress_before progress_after)
      receiving_ended ReadFault ended old new waiting unused r waits step =
          let on = receives_first t false front old new waiting unused r waits step.arrives in
          moves (Err ReadFault) ended _ new unused (ran on) (interrupted _ new unused on.along.stands step.all step.expected)
          (expected_in_time ended new unused step.expected)
      receiving_ended WriteFault ended old new waiting unused r waits step =
          breaks_off ended new step.arrives.counts unused step.timely (receives_first t true front old new waiting unused r waits step.arrives)
      receiving_ended ReadLimit ended old new waiting unused r waits step =
          let on = receives_first t false front old new waiting unused r waits step.arrives in
          moves (Err ReadLimit) ended _ new unused (ran on) (interrupted _ new unused on.along.stands step.all step.expected)
          (expected_in_time ended new unused step.expected)
      receiving_ended (Refused fault) ended old new waiting unused r waits step =
          let on = receives_first t false front old new waiting unused r waits step.arrives in
          let quiet = quiet_where_failed (phase_of new) fault step.announced in
          moves (Err (Refused fault)) ended _ new unused (ran on) (
            inl (record { first = first_fault t _ new fault on.along.stands step.announced; timely = step.timely }),
            on.stays,
            quietly_stated _ new on.along.stands quiet,
          ) (in_time_where_announced new fault ended unused step.announced step.timely)

    -- a request was not asked, or a write failed meanwhile
    pub asking_stopped : {h : History} (fault : RunFault) (ended : Bool) (front later : List (Request A)) (request : Request A) (old new : Client A)
        (counts : Counts) (unused : List ℕ) {reader pack progress : Flow}
        {writer_before writer_held writer_after out_before out_held out_after : Option (List ℕ)} → requests ≡ front ++ request ∷ later
        → can_ask old ≡ true → Running false t h front old counts unused reader (flow writer_before writer_held) (flow out_before out_held) pack progress
        → AsksTo (Err fault) old new request (flow writer_held writer_after) (flow out_held out_after)
        → RunEnds (Err fault) ended new reader (flow writer_before writer_after) (flow out_before out_after) pack progress
    asking_stopped ReadFault ended front later request old new counts unused split ready r step = absurd step
    asking_stopped WriteFault ended front later request old new counts unused split ready r step =
        breaks_off (front ++ request ∷ []) later (split ∙ sym (append_assoc front (request ∷ []) later)) ended new no_counts unused
        (in_time_where_sound new ended unused step.sound) (asks_on t true front old new request counts unused r ready step)
    asking_stopped ReadLimit ended front later request old new counts unused split ready r step = absurd step
    asking_stopped {h} (Refused fault) ended front later request old new counts unused {reader} {pack} {progress} {writer_before = w0}
        {writer_after = w2} {out_before = o0} {out_after = o2} split ready r step =
        let stands = r.along.stands in
        subst (λ (client : Client A). RunEnds (Err (Refused fault)) ended client reader (flow w0 w2) (flow o0 o2) pack progress) (sym step.stays)
        (moves front (request ∷ later) split (Err (Refused fault)) ended h old unused (ran_unasked r step) (
          inr (refused_next h later request old new fault stands ready step),
          r.stays,
          quietly_stated h old stands (quiet_where_ready (phase_of old) ready),
        ) (in_time_where_sound old ended unused (sound_where_ready (phase_of old) ready)))

    -- ---- all requests were asked, and all responses are whole

    module _ (front : List (Request A)) (split : requests ≡ front ++ []) where
      -- the last flush of the writer, by its result
      finishes : (result : Result (Unit {0}) RunFault) (ended : Bool) (h : History) (client : Client A) (unused : List ℕ) {reader out pack progress : Flow}
          {before held after : Option (List ℕ)} → IfErr result (λ fault. fault ≡ WriteFault)
          → Ran false t h front client unused reader (flow before held) out pack progress → Keeps held after → IsWholeRun {A = A} t [] h
          → fault_of client ≡ None → RunEnds result ended client reader (flow before after) out pack progress
      finishes (Ok done) ended h client unused named r kept whole sound =
          moves front [] split (Ok done) ended h client unused (ran_flushed t r kept) whole (in_time_where_sound client ended unused sound)
      finishes (Err fault) ended h client unused {reader} {out} {pack} {progress} {before} {held} {after} named r kept whole sound =
          subst (λ (f : RunFault). RunEnds (Err f) ended client reader (flow before after) out pack progress) (sym named)
          (moves front [] split (Err WriteFault) ended h client unused (ran_in_part t (ran_flushed t r kept))
          (record { left_last = λ left. (refl, whole.whole, sym whole.leaves ∙ left) })
          (in_time_where_sound client ended unused sound))

      -- each request has a connection of its own, and the client does not leave
      pub stays_to_the_end : {h : History} (result : Result (Unit {0}) RunFault) (ended : Bool) (client : Client A) (counts : Counts) (unused : List ℕ)
          {reader out pack progress : Flow} {before held after : Option (List ℕ)} → IfErr result (λ fault. fault ≡ WriteFault) → can_ask client ≡ true
          → (ending_of client ≡ FlushOnly → ⊥) → Running false t h front client counts unused reader (flow before held) out pack progress → Keeps held after
          → RunEnds result ended client reader (flow before after) out pack progress
      stays_to_the_end {h} result ended client counts unused named ready other r kept =
          let stands = r.along.stands in
          finishes result ended h client unused named (ran r) kept (record {
            all = refl;
            whole = is_whole t h client stands ready;
            leaves = r.stays ∙ sym (stays_last t.ending (λ last. other (stands.ending_is ∙ last)));
            content = quietly_stated h client stands (quiet_where_ready (phase_of client) ready);
          }) (sound_where_ready (phase_of client) ready)

      module _ (old mid new : Client A) (counts : Counts) (unused : List ℕ) (ready : can_ask old ≡ true) (leaving : Leaves old mid) where
        -- the client left, but a write failed
        pub leaving_stopped : {h : History} (ended : Bool) {reader out pack progress : Flow} {before held after : Option (List ℕ)} → ending_of old ≡ FlushOnly
            → Running false t h front old counts unused reader (flow before held) out pack progress → SendsPackets true mid new (flow held after)
            → RunEnds (Err WriteFault) ended new reader (flow before after) out pack progress
        leaving_stopped {h} ended last r step =
            let stands = r.along.stands in
            moves front [] split (Err WriteFault) ended _ new unused (leaves_on t true front old mid new counts unused r leaving step)
            (record { left_last = λ left. (refl, is_whole t h old stands ready, sym (ap leaves_last (sym last ∙ stands.ending_is))) })
            (in_time_where_sound new ended unused step.sound)

        -- the client left, and sent its flush
        pub leaves_at_the_end : {h : History} (result : Result (Unit {0}) RunFault) (ended : Bool) {reader out pack progress : Flow}
            {before held flushed after : Option (List ℕ)}
            → IfErr result (λ fault. fault ≡ WriteFault) → ending_of old ≡ FlushOnly
            → Running false t h front old counts unused reader (flow before held) out pack progress → SendsPackets false mid new (flow held flushed)
            → Keeps flushed after
            → RunEnds result ended new reader (flow before after) out pack progress
        leaves_at_the_end {h} result ended named last r step kept =
            let at = leaves_on t false front old mid new counts unused r leaving step in
            let stands = r.along.stands in
            finishes result ended _ new unused named at kept (record {
              all = refl;
              whole = is_whole t h old stands ready;
              leaves = ap leaves_last (sym last ∙ stands.ending_is);
              content = has_stated _ new at.stands (step.all refl);
            }) step.sound
