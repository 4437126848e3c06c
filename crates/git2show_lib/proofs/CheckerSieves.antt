-- A machine that judges a conversation in a response that is sieved: it takes packets, and has the client receive what they are passed on as.
use Rattle.std.proofs.Common.{arith, ◌≡◌, ◌≢◌, inl, inr, ◌⊎◌, ℕ, ◌+◌, ◌-◌, ◌<◌, ◌≤◌, ◌==◌, Bool, true, false, List, [], ◌∷◌, ◌++◌, length, take, drop}
use Rattle.std.proofs.Common.{Option, None, Some}
use Rattle.std.proofs.Common.{Ok, Err, refl, sym, subst, ap, ◌∙◌, append_assoc, append-nil, length-append, length-take-le, take-append-drop}
use Rattle.std.proofs.lemmas.Bool.{eqb-false, eqb-true}
use Rattle.std.proofs.lemmas.Grind.{flat_map-append}
use Rattle.std.proofs.lemmas.List.{drop-drop, drop_all}
use Rattle.git_pkt.specs.Packets.{Pkt, body_of, longest_payload, spelling_of}
use Rattle.git_pkt.specs.Splits.{Given, Splits}
use Rattle.git_pkt.specs.Machine.PacketReader.{Reads, ReadsOn, fault_of as reader_fault_of, is_open, passes_of, position_of}
use Rattle.git_pkt.specs.declared.fault.Fault.{Fault}
use Rattle.git_pkt.specs.declared.fault.Kind.{Kind}
use Rattle.git_pkt.specs.declared.fault.Kind.TheVariants.{Truncated}
use Rattle.git_pkt.specs.declared.reader.PacketReader.{PacketReader}
use Rattle.git_pkt.proofs.Chunks.{left_of}
use Rattle.git_pkt.proofs.EngineLemmas.{timely}
use Rattle.git_pkt.proofs.Spelling.{no_bytes}
use Rattle.git_msg.proofs.StreamSteps.{rest_behind, stopped_by}
use Rattle.git_client.specs.Parts.{Terms}
use Rattle.git_client.specs.Machine.Client.{Converses, History, bytes_used, can_ask, fault_of, phase_of, spelled, wants_input}
use Rattle.git_client.specs.Machine.Gathered.{dropped, gathered}
use Rattle.git_client.specs.Machine.RunSteps.{ReceivesBytes, no_counts}
use Rattle.git_client.specs.declared.client.Client.{Client}
use Rattle.git_client.specs.declared.receiving.Counts.{Counts}
use Rattle.git_client.proofs.EventsReceived.{awaits_more, is_whole, position_is}
use Rattle.git_client.proofs.Faults.{first_fault}
use Rattle.git_client.proofs.Phases.{not_ready_where_expected}
use Rattle.git_client.proofs.ReceivedBytes.{received_then}
use Rattle.git2show_lib.specs.Sieve.{ArePassed, received_as, sieved, sieved_from, sieved_packet, spot_after}
use Rattle.git2show_lib.specs.Machine.CheckedStreams.{Checked, IsSieved, ReceivesAll, SieveBreaksOff, SieveRefuses, SieveRefusesLater, moved, place_after}
use Rattle.git2show_lib.specs.Machine.Checker.{AreFitting, IsAsked, IsOver, IsPartOfLast, IsReading, IsSieving, form_of, unfailed}
use Rattle.git2show_lib.specs.Machine.Checking.{Checking, counted}
use Rattle.git2show_lib.specs.Machine.OtherAnswers.{ClosesAnswer}
use Rattle.git2show_lib.specs.declared.checking.CheckFault.TheVariants.{Responses}
use Rattle.git2show_lib.specs.declared.judged_requests.JudgedRequests.{JudgedRequests}
use Rattle.git2show_lib.specs.declared.sieve.Form.{Form}
use Rattle.git2show_lib.specs.declared.sieve.Sieve.{Sieve}
use Rattle.git2show_lib.specs.declared.sieve.Spot.{Spot}
use Rattle.git2show_lib.specs.declared.sieve.Spot.TheVariants.{Header}
use Rattle.git2show_lib.proofs.CheckBroken.{ends_so}
use Rattle.git2show_lib.proofs.CheckRuns.{counted_asked, place_asked, response_received, runs_asked, runs_of, turn_of}
use Rattle.git2show_lib.proofs.CheckerCut.{receives_sieved, response_within}
use Rattle.git2show_lib.proofs.CheckerEnds.{AreShown, checked_behind}
use Rattle.git2show_lib.proofs.CheckerSteps.{asked_further, nothing_gathered}
use Rattle.git2show_lib.proofs.SievedLists.{passed_then, sieved_then, spot_then}
use Rattle.git2show_lib.proofs.Turns.{moved_by_count}
use Rattle.git2show_lib.proofs.SievedPackets.{ArePackets, fitting_then, packets_more, ready_splits, rest_of_front}

-- the first of two lists of packets that fit, and the second
fitting_front : (ps qs : List Pkt) → AreFitting (ps ++ qs) → AreFitting ps
fitting_front [] qs fits = tt
fitting_front (p ∷ ps) qs fits = (fits.0, fitting_front ps qs fits.1)

fitting_behind : (ps qs : List Pkt) → AreFitting (ps ++ qs) → AreFitting qs
fitting_behind [] qs fits = fits
fitting_behind (p ∷ ps) qs fits = fitting_behind ps qs fits.1

module _ (form : Form) (spot : Spot) (g : Given) where
  -- what one packet is passed on as
  sieved_as : (passed_as : Option Pkt) → sieved_packet form spot g.packet ≡ Ok passed_as
      → sieved_from form spot (g ∷ []) ≡ received_as (Ok passed_as)
  sieved_as passed_as is = append-nil _ ∙ ap received_as is

  spelled_none : sieved_packet form spot g.packet ≡ Ok None → spelled (sieved_from form spot (g ∷ [])) ≡ []
  spelled_none is = ap spelled (sieved_as None is)

  spelled_one : (p : Pkt) → sieved_packet form spot g.packet ≡ Ok (Some p) → spelled (sieved_from form spot (g ∷ [])) ≡ spelling_of p
  spelled_one p is = ap spelled (sieved_as (Some p) is) ∙ append-nil (spelling_of p)

-- a client that can ask expects nothing
asks_alone : {A : Type 0} (client : Client A) → can_ask client ≡ true → wants_input client ≡ false
asks_alone client ready = at (wants_input client) refl where
  at : (waits : Bool) → wants_input client ≡ waits → waits ≡ false
  at false is = refl
  at true is = let none = not_ready_where_expected (phase_of client) is in absurd (cc)

-- ---- the packet that is held

-- what is left of it, as a slice shows it
pub slice_left : (all hold : List ℕ) (received : ℕ) → all ≡ hold → received ≤ length hold
    → take (length all - received) (drop received all) ≡ drop received hold
slice_left all hold received is within =
    subst (λ (l : List ℕ). take (length l - received) (drop received l) ≡ drop received hold) (sym is) (left_of hold received within)

-- nothing is left of a slice that is empty, and something of another
pub none_left : (chunk left : List ℕ) (empty : Bool) → empty ≡ (length chunk == 0) → chunk ≡ left → empty ≡ true → left ≡ []
none_left chunk left empty is same holds = sym same ∙ no_bytes chunk (eqb-true (length chunk) 0 (sym is ∙ holds))

pub some_left : (chunk left : List ℕ) (empty : Bool) → empty ≡ (length chunk == 0) → chunk ≡ left → empty ≡ false → 0 < length left
some_left chunk left empty is same fails =
    let some : length chunk ≢ 0 = eqb-false (length chunk) 0 (sym is ∙ fails) in
    omega (arith, ap length same)

-- nothing is left, if no line waits behind what was used of it
pub nothing_held : (chunk hold lines others : List ℕ) (received used most : ℕ) → chunk ≡ drop received hold
    → (used ≡ length chunk) ⊎ (most < length lines) → lines ++ others ≡ [] → drop (received + used) hold ≡ []
nothing_held chunk hold lines others received used most is (inl all) quiet =
    sym (drop-drop used received hold) ∙ drop_all used (drop received hold) (omega (arith, all, ap length is))
nothing_held chunk hold lines others received used most is (inr long) quiet =
    absurd (omega (arith, long, ap length (nothing_gathered lines others quiet)))

-- ---- a fault

-- the check ends with a fault of a response that is sieved
module _ {A : Type 0} {t : Terms} {limit : ℕ} {requests responses lines used : List ℕ} {middle : Client A} {stream : JudgedRequests A} {passed : ℕ}
    (a : IsAsked t limit requests responses lines used middle stream passed) {form : Form} (is : form_of t limit a ≡ Some form) where
  response_ended : (ended : Bool) {new : Client A} {counts : Counts} {received after : List ℕ} (start : ℕ) → start ≡ bytes_used middle
      → (sieves : IsSieved form used received) → ReceivesBytes false middle new no_counts counts received (gathered lines after) dropped dropped
      → (fault : Fault) (requests_ended : Bool) (more_requests more_responses : List ℕ)
      → ((h : History) → Converses t h new → SieveBreaksOff t h ended more_responses used sieves fault
      ⊎ (SieveRefuses t h sieves fault ⊎ SieveRefusesLater t h sieves fault))
      → Checked A t limit (Err (Responses (moved (counted (start + passed)) fault))) (unfailed requests_ended) (unfailed ended)
      ((requests ++ more_requests) ∷ (responses ++ more_responses) ∷ []) (after ∷ [])
  response_ended ended {received = received} start start_is sieves b fault requests_ended more_requests more_responses why =
      let w = response_within more_requests a b (receives_sieved (form_of t limit a) form used received is sieves) in
      ends_so (w.finds more_responses) (inr (inr (
        a.checking.r.turns,
        record {
          own = fault;
          is = record {
            all_asked = w.all_asked;
            last = turn_of a b;
            turns_are = refl;
            form = form;
            form_is = is;
            s = sieves;
            why = why w.h w.stands;
          };
          reported = moved_by_count (counted (start + passed)) (place_after a.checking.r.opening a.checking.r.turns) fault
              (counted_asked a start start_is);
        },
      )))

module _ {A : Type 0} {t : Terms} {limit : ℕ} {requests responses lines left : List ℕ} {client : Client A} {counts : Counts} {stream : JudgedRequests A}
    {passed start : ℕ} {sieve : Sieve} {packets : PacketReader} {offset : ℕ}
    (s : IsSieving t limit requests responses lines left client counts stream passed start sieve packets offset) where
  -- ---- the client receives of what is left for it

  -- what the client received a part of
  abbrev last_part : 0 < length left → IsPartOfLast sieve.form s.sieves.given s.sieves.rest s.received left offset
  last_part some = elim s.last [
    | inl none ↦ absurd (omega (arith, some, ap length none))
    | inr l ↦ l
  ]

  module _ {new : Client A} {now : Counts} {after chunk : List ℕ} (n : ℕ) (same : chunk ≡ left)
      (arrives : ReceivesBytes false client new counts now (take n chunk) (gathered lines after) dropped dropped) where
    -- what the client received of the response, with these bytes
    sieves_part : IsSieved sieve.form s.used (s.received ++ take n left)
    sieves_part = record {
      given = s.sieves.given;
      bad = s.sieves.bad;
      rest = s.sieves.rest;
      splits = s.sieves.splits;
      passed = s.sieves.passed;
      beyond = drop n left;
      cut = s.sieves.cut ∙ ap (λ (l : List ℕ). s.received ++ l) (s.left_is ∙ sym (take-append-drop n left))
          ∙ sym (append_assoc s.received (take n left) (drop n left));
    }

    bytes_part : ReceivesBytes false s.middle new no_counts now (s.received ++ take n left) (gathered s.before after) dropped dropped
    bytes_part =
        received_then (not_ready_where_expected (phase_of client) s.waits) s.bytes
        (subst (λ (l : List ℕ). ReceivesBytes false client new counts now (take n l) (gathered lines after) dropped dropped) same arrives)

    -- and how that lies in the last packet
    part_with : IsPartOfLast sieve.form s.sieves.given s.sieves.rest s.received left offset
        → IsPartOfLast sieve.form s.sieves.given s.sieves.rest (s.received ++ take n left) (drop n left) offset
    part_with l = record {
      front = l.front;
      packet = l.packet;
      given_is = l.given_is;
      at = l.at;
      passed_as = l.passed_as;
      passed_is = l.passed_is;
      no_rest = l.no_rest;
      part = l.part ++ take n left;
      received_is = ap (λ (r : List ℕ). r ++ take n left) l.received_is ∙ append_assoc (spelled (sieved sieve.form l.front)) l.part (take n left);
      part_is = l.part_is ∙ ap (λ (r : List ℕ). l.part ++ r) (sym (take-append-drop n left)) ∙ sym (append_assoc l.part (take n left) (drop n left));
    }

    -- some of it was received, and more of it or of the response is expected
    pub passes_further : wants_input new ≡ true → 0 < length left
        → IsSieving t limit requests responses after (drop n left) new now stream passed start sieve packets offset
    unfolding sieves_part
    passes_further waits some = record {
      middle = s.middle;
      used = s.used;
      before = s.before;
      asked = s.asked;
      form_is = s.form_is;
      received = s.received ++ take n left;
      sieves = sieves_part;
      bytes = bytes_part;
      none_bad = s.none_bad;
      left_is = refl;
      last = inr (part_with (last_part some));
      fits = s.fits;
      spot_is = s.spot_is;
      reads = s.reads;
      sound = s.sound;
      gathers = s.gathers;
      waits = waits;
      start_is = s.start_is;
    }

    module _ (some : 0 < length left) where
      abbrev l : IsPartOfLast sieve.form s.sieves.given s.sieves.rest s.received left offset
      l = last_part some

      -- the client refuses what it received
      pub passing_refused : (fault : Fault) → fault_of new ≡ Some fault → fault.kind ≢ Truncated → (opened requests_ended : Bool)
          → IsOver A t limit (Err (Responses (moved (counted (start + passed)) (record { kind = fault.kind; offset = offset })))) opened requests_ended false
          requests responses after
      unfolding sieves_part
      passing_refused fault failed other opened requests_ended more_requests more_responses follow =
          let last = part_with l in
          response_ended s.asked s.form_is false start s.start_is sieves_part bytes_part (record { kind = fault.kind; offset = offset })
          requests_ended more_requests
          more_responses (λ h stands. inr (inr (record {
            front = last.front;
            packet = last.packet;
            given_is = last.given_is;
            none_bad = s.none_bad;
            no_rest = last.no_rest;
            passed_as = last.passed_as;
            passed_is = last.passed_is;
            part = last.part;
            received_is = last.received_is;
            part_is = last.part_is;
            own = fault;
            first = first_fault t h new fault stands failed;
            kind_is = refl;
            not_the_end = other;
            at = sym last.at;
          })))

      -- the last packet, and those before it
      fitting_parts : AreFitting (sieved sieve.form l.front ++ (l.passed_as ∷ []))
      fitting_parts =
          let last = sieved_as sieve.form (spot_after sieve.form Header l.front) l.packet (Some l.passed_as) l.passed_is in
          subst AreFitting
          (ap (λ (gs : List Given). sieved sieve.form gs) l.given_is ∙ sieved_then sieve.form Header l.front (l.packet ∷ [])
          ∙ ap (λ (ps : List Pkt). sieved sieve.form l.front ++ ps) last) s.fits

      -- a client that can ask received all of it, if no packet was begun before the response
      receives_all : 0 < n → n ≤ length left → fault_of new ≡ None → wants_input new ≡ false → (h : History)
          → Converses t h s.middle → ArePackets h.used → drop n left ≡ []
      unfolding sieves_part part_with
      receives_all used within sound ready h stands before = none_of (drop n left) refl where
        front : List ℕ
        front = spelled (sieved sieve.form l.front)

        part : List ℕ
        part = l.part ++ take n left

        none_of : (rest : List ℕ) → drop n left ≡ rest → rest ≡ []
        none_of [] is = refl
        none_of (byte ∷ rest) is =
            let (given, splits) = ready_splits t _ new (bytes_part.arrives t h stands) sound ready in
            let parts : h.used ++ (s.received ++ take n left) ≡ (h.used ++ front) ++ part =
            ap (λ (r : List ℕ). h.used ++ (r ++ take n left)) l.received_is
            ∙ ap (λ (r : List ℕ). h.used ++ r) (append_assoc front l.part (take n left)) ∙ sym (append_assoc h.used front part) in
            let none = rest_of_front (h.used ++ front) part (drop n left) l.passed_as given
            (fitting_behind (sieved sieve.form l.front) (l.passed_as ∷ []) fitting_parts).0 (part_with l).part_is (omega (arith, ap length is))
            (packets_more h.used (sieved sieve.form l.front) (fitting_front (sieved sieve.form l.front) (l.passed_as ∷ []) fitting_parts) before)
            (subst (λ (r : List ℕ). Splits 0 r given []) parts splits) in
            absurd (omega (arith, used, within, ap length none, length-append l.part (take n left), length-take-le n left within))

      -- the response is whole
      pub passes_all : can_ask new ≡ true → 0 < n → n ≤ length chunk → fault_of new ≡ None → (after_passed : ℕ)
          → after_passed ≡ counted (passed + (position_of packets - (bytes_used new - start)))
          → IsReading t limit requests responses after new stream after_passed
      unfolding sieves_part
      passes_all ready used within sound after_passed is =
          let a = s.asked in
          let received = s.received ++ take n left in
          let runs = runs_of a bytes_part in
          let conversation = is_whole t a.checking.h a.old a.checking.runs.along.stands a.checking.ready in
          let none : sieves_part.beyond ≡ [] =
          receives_all used (omega (arith, within, ap length same)) sound (asks_alone new ready) _ (runs_asked a).along.stands
          (conversation.given, conversation.splits) in
          let splits : Splits 0 s.used s.sieves.given [] =
          subst (λ (rest : List ℕ). Splits 0 s.used s.sieves.given rest) l.no_rest
          (subst (λ (gs : List Given). Splits 0 s.used gs s.sieves.rest)
          (ap (λ (gs : List Given). s.sieves.given ++ gs) s.none_bad ∙ append-nil s.sieves.given) s.sieves.splits) in
          let cut : spelled (sieved sieve.form s.sieves.given) ≡ received =
          sieves_part.cut ∙ ap (λ (r : List ℕ). received ++ r) none ∙ append-nil received in
          let count : position_of packets - (bytes_used new - start) ≡ length s.used - length received =
          omega (
            arith,
            s.reads.position,
            s.start_is,
            place_asked a,
            position_is t _ new runs.along.stands,
            length-append a.checking.h.used received,
          ) in
          record {
            checking = subst (λ (m : ℕ). Checking t limit new stream m [] requests responses after)
                (sym (is ∙ ap (λ (m : ℕ). counted (passed + m)) count))
                (response_received a bytes_part ready
                (subst (λ (form : Option Form). ReceivesAll form s.used received) (sym s.form_is) (s.sieves.given, splits, s.sieves.passed, cut)));
            ready = a.read.onward;
          }

  -- ---- nothing is left for the client, and more bytes come

  module _ (none : left ≡ []) where
    -- it received all that was passed on to it
    received_so_far : spelled (sieved sieve.form s.sieves.given) ≡ s.received
    received_so_far = s.sieves.cut ∙ ap (λ (l : List ℕ). s.received ++ l) (s.left_is ∙ none) ∙ append-nil s.received

    -- the responses end
    pub sieving_closed : (fault : Fault) → ClosesAnswer fault packets → (opened requests_ended : Bool)
        → IsOver A t limit (Err (Responses (moved (counted (start + passed)) fault))) opened requests_ended true requests responses lines
    sieving_closed fault (kind, cut) opened requests_ended more_requests more_responses follow =
        response_ended s.asked s.form_is true start s.start_is s.sieves s.bytes fault requests_ended more_requests more_responses (λ h stands. inl (record {
          none_bad = s.none_bad;
          all = s.left_is ∙ none;
          goes_on = awaits_more t h client stands s.waits;
          breaks = inr (cut s.used s.sieves.given s.sieves.rest s.reads);
          timely = rw kind (follow.responses_end refl, refl);
        }))

    module _ {new : PacketReader} {more : List ℕ} {gs : List Given} (reads : ReadsOn packets more gs new) where
      -- these packets are all that was read
      abbrev read_all : (rest : List ℕ) × Reads new 0 (s.used ++ more) (s.sieves.given ++ gs) rest
      read_all = reads 0 s.used s.sieves.given s.sieves.rest s.reads

      -- some were passed on, and the client has yet to receive these bytes
      fed : ArePassed sieve.form sieve.spot gs → (after_left : List ℕ) → spelled (sieved_from sieve.form sieve.spot gs) ≡ after_left
          → IsSieved sieve.form (s.used ++ more) s.received
      fed are after_left is = record {
        given = s.sieves.given ++ gs;
        bad = [];
        rest = read_all.0;
        splits = subst (λ (l : List Given). Splits 0 (s.used ++ more) l read_all.0) (sym (append-nil (s.sieves.given ++ gs))) read_all.1.splits;
        passed = passed_then sieve.form Header s.sieves.given gs s.sieves.passed (subst (λ (spot : Spot). ArePassed sieve.form spot gs) s.spot_is are);
        beyond = after_left;
        cut = ap spelled (sieved_then sieve.form Header s.sieves.given gs)
            ∙ flat_map-append spelling_of (sieved sieve.form s.sieves.given) (sieved_from sieve.form (spot_after sieve.form Header s.sieves.given) gs)
            ∙ ap (λ (l : List ℕ). l ++ spelled (sieved_from sieve.form (spot_after sieve.form Header s.sieves.given) gs)) received_so_far
            ∙ ap (λ (spot : Spot). s.received ++ spelled (sieved_from sieve.form spot gs)) (sym s.spot_is)
            ∙ ap (λ (l : List ℕ). s.received ++ l) is;
      }

      -- the response goes on
      fed_further : (next : Sieve) (after_left : List ℕ) (after_offset : ℕ) → next.form ≡ sieve.form
          → next.spot ≡ spot_after sieve.form sieve.spot gs → ArePassed sieve.form sieve.spot gs → AreFitting (sieved_from sieve.form sieve.spot gs)
          → spelled (sieved_from sieve.form sieve.spot gs) ≡ after_left → reader_fault_of new ≡ None → passes_of new ≡ false
          → (after_left ≡ []) ⊎ IsPartOfLast sieve.form (s.sieves.given ++ gs) read_all.0 s.received after_left after_offset
          → IsSieving t limit requests (responses ++ more) lines after_left client counts stream passed start next new after_offset
      unfolding fed
      fed_further next after_left after_offset same spot_is are fits is sound gathers last =
          subst (λ (form : Form). IsSieving t limit requests (responses ++ more) lines after_left client counts stream passed start
          (record { form = form; spot = next.spot }) new after_offset) (sym same) (record {
            middle = s.middle;
            used = s.used ++ more;
            before = s.before;
            asked = asked_further more s.asked;
            form_is = s.form_is;
            received = s.received;
            sieves = fed are after_left is;
            bytes = s.bytes;
            none_bad = refl;
            left_is = refl;
            last = last;
            fits = subst AreFitting (sym (sieved_then sieve.form Header s.sieves.given gs))
                (fitting_then (sieved sieve.form s.sieves.given) (sieved_from sieve.form (spot_after sieve.form Header s.sieves.given) gs) s.fits
                (subst (λ (spot : Spot). AreFitting (sieved_from sieve.form spot gs)) s.spot_is fits));
            spot_is = spot_is ∙ ap (λ (spot : Spot). spot_after sieve.form spot gs) s.spot_is
                ∙ sym (spot_then sieve.form Header s.sieves.given gs);
            reads = read_all.1;
            sound = sound;
            gathers = gathers;
            waits = s.waits;
            start_is = s.start_is;
          })

    -- no packet ends in them
    pub fed_bytes : {new : PacketReader} {more : List ℕ} → ReadsOn packets more [] new → reader_fault_of new ≡ None → passes_of new ≡ false
        → IsSieving t limit requests (responses ++ more) lines left client counts stream passed start sieve new offset
    fed_bytes reads sound gathers =
        fed_further reads sieve left offset refl refl tt tt (sym none) sound gathers (inl none)

    -- they are no packet
    pub fed_broken : {new : PacketReader} {more shown : List ℕ} → ReadsOn packets more [] new → (fault : Fault) → reader_fault_of new ≡ Some fault
        → fault.kind ≢ Truncated → AreShown fault.kind more shown → (opened requests_ended : Bool)
        → IsOver A t limit (Err (Responses (moved (counted (start + passed)) fault))) opened requests_ended false requests (responses ++ shown) lines
    unfolding fed
    fed_broken {new} {more} reads fault failed other shown opened requests_ended more_requests more_responses follow =
        let (rest, all) = read_all reads in
        checked_behind {result = Err (Responses (moved (counted (start + passed)) fault))} responses more_responses shown
        (λ behind in_time.
        response_ended (asked_further more s.asked) s.form_is false start s.start_is (fed reads tt [] refl) s.bytes fault requests_ended more_requests behind
        (λ h stands. inl (record {
          none_bad = refl;
          all = refl;
          goes_on = awaits_more t h client stands s.waits;
          breaks = inl (record { stops = stopped_by new (s.used ++ more) (s.sieves.given ++ []) rest fault failed all; not_the_end = other });
          timely = in_time;
        }))) other

    module _ {new : PacketReader} {more : List ℕ} {g : Given} (reads : ReadsOn packets more (g ∷ []) new) (sound : reader_fault_of new ≡ None)
        (shut : is_open new ≡ false) where
      -- a packet ends there, and nothing comes after it
      nothing_after : (read_all reads).0 ≡ []
      nothing_after = let (rest, all) = read_all reads in rest_behind new (s.used ++ more) (s.sieves.given ++ g ∷ []) rest sound shut all

      module _ (gathers : passes_of new ≡ false) (next : Sieve) (same : next.form ≡ sieve.form)
          (spot_is : next.spot ≡ spot_after sieve.form sieve.spot (g ∷ [])) where
        -- which the client does not receive
        pub fed_packet : sieved_packet sieve.form sieve.spot g.packet ≡ Ok None
            → IsSieving t limit requests (responses ++ more) lines left client counts stream passed start next new offset
        fed_packet is =
            fed_further reads next left offset same spot_is (record { passed_as = None; is = is }, tt)
            (subst AreFitting (sym (sieved_as sieve.form sieve.spot g None is)) tt) (spelled_none sieve.form sieve.spot g is ∙ sym none) sound gathers
            (inl none)

        -- or it has yet to receive it
        pub fed_passed : (p : Pkt) → sieved_packet sieve.form sieve.spot g.packet ≡ Ok (Some p) → length (body_of p) ≤ longest_payload
            → IsSieving t limit requests (responses ++ more) lines (spelling_of p) client counts stream passed start next new g.offset
        fed_passed p is fits =
            fed_further reads next (spelling_of p) g.offset same spot_is (record { passed_as = Some p; is = is }, tt)
            (subst AreFitting (sym (sieved_as sieve.form sieve.spot g (Some p) is)) (fits, tt)) (spelled_one sieve.form sieve.spot g p is) sound gathers
            (inr (record {
              front = s.sieves.given;
              packet = g;
              given_is = refl;
              at = refl;
              passed_as = p;
              passed_is = subst (λ (spot : Spot). sieved_packet sieve.form spot g.packet ≡ Ok (Some p)) s.spot_is is;
              no_rest = nothing_after;
              part = [];
              received_is = sym received_so_far ∙ sym (append-nil _);
              part_is = refl;
            }))

      -- or it is refused
      fed_bad : IsSieved sieve.form (s.used ++ more) s.received
      fed_bad = record {
        given = s.sieves.given;
        bad = g ∷ [];
        rest = [];
        splits = subst (λ (l : List ℕ). Splits 0 (s.used ++ more) (s.sieves.given ++ g ∷ []) l) nothing_after (read_all reads).1.splits;
        passed = s.sieves.passed;
        beyond = [];
        cut = received_so_far ∙ sym (append-nil s.received);
      }

      pub fed_refused : (kind : Kind) → sieved_packet sieve.form sieve.spot g.packet ≡ Err kind → (opened requests_ended : Bool)
          → IsOver A t limit (Err (Responses (moved (counted (start + passed)) (record { kind = kind; offset = g.offset })))) opened requests_ended false
          requests (responses ++ more) lines
      unfolding fed_bad
      fed_refused kind refused opened requests_ended more_requests more_responses follow =
          response_ended (asked_further more s.asked) s.form_is false start s.start_is fed_bad s.bytes
          (record { kind = kind; offset = g.offset }) requests_ended
          more_requests more_responses (λ h stands. inr (inl (record {
            packet = g;
            bad_is = refl;
            no_rest = refl;
            all = refl;
            goes_on = awaits_more t h client stands s.waits;
            refused = subst (λ (spot : Spot). sieved_packet sieve.form spot g.packet ≡ Err kind) s.spot_is refused;
            at = refl;
          })))
