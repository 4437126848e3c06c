-- A reader of requests of another client, a packet at a time.
use Rattle.std.proofs.Common.{◌≡◌, ◌≢◌, ◌⊎◌, ℕ, ◌+◌, ◌<◌, ◌≤◌, min, true, false, List, [], ◌∷◌, ◌++◌, length, take, Option, Some, None}
use Rattle.std.proofs.Common.{refl, sym, ap, ◌∙◌, subst, append-nil, inl, inr, arith}
use Rattle.std.proofs.Props.{props}
use Rattle.std.proofs.Math.Logic.{∥∥₁_elim, ∥∥₁_prop}
use Rattle.git_pkt.specs.Packets.{Pkt, flush, delim, resp_end, payload}
use Rattle.git_pkt.specs.Splits.{Given, SpellsAll}
use Rattle.git_pkt.specs.Machine.PacketReader.{Reads, ReadsOn, ShownByFeed, fault_of as packet_fault, is_open, passes_of, position_of}
use Rattle.git_pkt.specs.declared.fault.Fault.{Fault}
use Rattle.git_pkt.specs.declared.fault.Kind.{Kind}
use Rattle.git_pkt.specs.declared.fault.Kind.TheVariants.{OutOfMemory, StreamTooLong, Truncated}
use Rattle.git_pkt.proofs.KnownRest.{sound_rest}
use Rattle.git_pkt.proofs.Chunks.{joined}
use Rattle.git_pkt.proofs.Streams.{one_split}
use Rattle.git_msg.specs.Admission.{nothing_barred}
use Rattle.git_msg.specs.Machine.HeldRequest.{asked_of, kept_of}
use Rattle.git_msg.specs.Machine.RequestReader.{Brings, IsBrought, Takes, fault_of as reader_fault, limit_in, offer_of as offer_in}
use Rattle.git_msg.specs.Machine.StreamStages.{HasTaken}
use Rattle.git_msg.specs.Requests.{AreBegun}
use Rattle.git_msg.specs.declared.offers.Offer.{Offer}
use Rattle.git_msg.specs.declared.reader.RequestReader.{RequestReader}
use Rattle.git_msg.specs.declared.reader.ReadGot.{ReadGot}
use Rattle.git_msg.specs.declared.reader.ReadGot.TheVariants.{More, Request, Stop, Failed}
use Rattle.git_msg.proofs.Admission.{announced_by_none}
use Rattle.git_msg.proofs.PacketFaults.{announced_of_packets}
use Rattle.git_msg.proofs.StreamSteps.{rest_behind, stopped_by}
use Rattle.git2show_lib.specs.Others.{Advertised, AreCutOff, AreNoPacket, BeginWithOther, IsOtherBegun, NoneNames, first_place, given_as}
use Rattle.git2show_lib.specs.Others.{judged_of}
use Rattle.git2show_lib.specs.Others.{judged_packet, names_other, place_after, place_next}
use Rattle.git2show_lib.specs.Machine.JudgedRequests.{AreQuestions, HasRead, IsLeft, IsJudging, IsOnward, IsReady}
use Rattle.git2show_lib.specs.Machine.JudgedRequests.{Leaves, ReadsBy, StepLeaves, advertised_by, asked_by, fault_in, got_as, got_passed}
use Rattle.git2show_lib.specs.Machine.JudgedRequests.{limit_of, place_brought, place_for, stage_brought, stage_is_between, stage_passed, taken_in}
use Rattle.git2show_lib.specs.Machine.JudgedRequests.{takes_bytes, text_of, wants_input}
use Rattle.git2show_lib.specs.declared.judged_requests.JudgedGot.{JudgedGot}
use Rattle.git2show_lib.specs.declared.judged_requests.JudgedGot.TheVariants as Got
use Rattle.git2show_lib.specs.declared.judged_requests.JudgedRead.{JudgedRead}
use Rattle.git2show_lib.specs.declared.judged_requests.JudgedRequests.{JudgedRequests}
use Rattle.git2show_lib.specs.declared.judged_requests.Stage.{Stage}
use Rattle.git2show_lib.specs.declared.judged_requests.Stage.TheVariants.{Between, Within, Passing, Stopped, Failed as FailedStage}
use Rattle.git2show_lib.specs.declared.other_lines.OtherLines.{OtherLines}
use Rattle.git2show_lib.specs.declared.others.Place.{Place}
use Rattle.git2show_lib.specs.OtherLines.{Noted, Question, known, other as another, asks_nothing, name_shown, named_by, nothing_noted, noted_of}
use Rattle.git2show_lib.specs.OtherLines.{noted_with, shown_at}
use Rattle.git2show_lib.specs.Machine.KeptLines.{IsNotKept, KeepsWithin, noted_in}
use Rattle.git2show_lib.specs.Others.{counted_at, counted_of}
use Rattle.git2show_lib.specs.Machine.JudgedRequests.{counted_for, kept_brought, limited_got, noted_brought, noted_for, noted_passed}
use Rattle.git2show_lib.specs.declared.other_lines.Asks.{Asks}
use Rattle.git2show_lib.proofs.ChunkParts.{left_bytes, shown_further}
use Rattle.git2show_lib.proofs.NamedCommands.{asked_none, begins_on, begun_no_flush, named_as, named_no_flush, named_snoc, names_snoc}
use Rattle.git2show_lib.proofs.OtherLines.{counted_snoc, judged_snoc, none_snoc, noted_snoc, place_snoc}
use Rattle.git2show_lib.proofs.JudgedStages.{IsAllTaken, all_taken, left_cut, left_lines, left_on, left_passed, left_refused, left_unnamed}
use Rattle.git2show_lib.proofs.JudgedStages.{one_more_question, questions_more}

some_left : (left : List Given) (g : Given) → left ++ g ∷ [] ≢ []
some_left [] g e = cc
some_left (x ∷ left) g e = cc

-- ---- how what was read goes on

module _ {A : Type 0} (old new : JudgedRequests A) (u : List ℕ) (wants : wants_input old ≡ true)
    (by : advertised_by new ≡ advertised_by old) (limit : limit_of new ≡ limit_of old)
    (used : List ℕ) (asked : List Question) (h : HasRead used asked old) where
  -- the requests so far are requests by what the new reader has of the advertisement
  earlier_requests : AreQuestions (advertised_by new) (limit_of new) h.packets asked h.left
  earlier_requests =
      subst (λ (b : Advertised). AreQuestions b (limit_of new) h.packets asked h.left) (sym by)
      (subst (λ (n : ℕ). AreQuestions (advertised_by old) n h.packets asked h.left) (sym limit) h.requests)

  -- and what is left of the packets is what it was
  left_before : IsLeft old.judge.stage (advertised_by new) (limit_of new) h.left h.rest (length used)
  left_before =
      subst (λ (b : Advertised). IsLeft old.judge.stage b (limit_of new) h.left h.rest (length used)) (sym by)
      (subst (λ (n : ℕ). IsLeft old.judge.stage (advertised_by old) n h.left h.rest (length used)) (sym limit) h.left_is)

  left_still : (rest : List ℕ) → IsLeft old.judge.stage (advertised_by new) (limit_of new) h.left rest (length (used ++ u))
  left_still rest = left_on (advertised_by new) (limit_of new) h.left h.rest rest (length used) (length (used ++ u)) old.judge.stage wants left_before

  -- the reader inside has taken it
  taken_before : Takes (taken_in old.judge.stage (text_of new) h.left) old.judge.requests
  taken_before = subst (λ (b : Advertised). Takes (taken_in old.judge.stage b.text h.left) old.judge.requests) (sym by) (h.onward wants)

  taken_still : new.judge.requests ≡ old.judge.requests → Takes (taken_in old.judge.stage (text_of new) h.left) new.judge.requests
  taken_still same = subst (λ (r : RequestReader A). Takes (taken_in old.judge.stage (text_of new) h.left) r) (sym same) taken_before

  -- it has counted so much as kept
  kept_before : old.judge.kept ≡ counted_for old.judge.stage (text_of new) h.left
  kept_before = subst (λ (b : Advertised). old.judge.kept ≡ counted_for old.judge.stage b.text h.left) (sym by) (h.kept_is wants)

  -- it has noted this
  noted_before : noted_in old.judge.others ≡ noted_for old.judge.stage (text_of new) h.left
  noted_before = subst (λ (b : Advertised). noted_in old.judge.others ≡ noted_for old.judge.stage b.text h.left) (sym by) (h.noted_is wants)

  -- all that was read, in the stage that was reached
  has_read : (packets left : List Given) (rest : List ℕ) (now : List Question) (stage : Stage) → new.judge.stage ≡ stage
      → Reads new.packets 0 (used ++ u) packets rest → AreQuestions (advertised_by new) (limit_of new) packets now left
      → IsLeft stage (advertised_by new) (limit_of new) left rest (length (used ++ u))
      → (takes_bytes stage ≡ true → new.judge.place ≡ place_for stage left)
      → (takes_bytes stage ≡ true → new.judge.kept ≡ counted_for stage (text_of new) left)
      → (takes_bytes stage ≡ true → noted_in new.judge.others ≡ noted_for stage (text_of new) left)
      → (takes_bytes stage ≡ true → Takes (taken_in stage (text_of new) left) new.judge.requests) → HasRead (used ++ u) now new
  has_read packets left rest now stage is stream requests left_is place kept noted takes = record {
    packets = packets;
    left = left;
    rest = rest;
    reads = stream;
    requests = requests;
    left_is = subst (λ (s : Stage). IsLeft s (advertised_by new) (limit_of new) left rest (length (used ++ u))) (sym is) left_is;
    place_is = λ on. place (sym (ap takes_bytes is) ∙ on) ∙ ap (λ (s : Stage). place_for s left) (sym is);
    kept_is = λ on. kept (sym (ap takes_bytes is) ∙ on) ∙ ap (λ (s : Stage). counted_for s (text_of new) left) (sym is);
    noted_is = λ on. noted (sym (ap takes_bytes is) ∙ on) ∙ ap (λ (s : Stage). noted_for s (text_of new) left) (sym is);
    onward = λ on.
        subst (λ (s : Stage). Takes (taken_in s (text_of new) left) new.judge.requests) (sym is) (takes (sym (ap takes_bytes is) ∙ on));
  }

  none_more : (now : List Question) → HasRead (used ++ u) now new → HasRead (used ++ u) (now ++ []) new
  none_more now read = subst (λ (qs : List Question). HasRead (used ++ u) qs new) (sym (append-nil now)) read

  -- with no packet more
  bytes_read : (rest : List ℕ) (stage : Stage) → new.judge.stage ≡ stage → Reads new.packets 0 (used ++ u) (h.packets ++ []) rest
      → IsLeft stage (advertised_by new) (limit_of new) h.left rest (length (used ++ u))
      → (takes_bytes stage ≡ true → new.judge.place ≡ place_for stage h.left)
      → (takes_bytes stage ≡ true → new.judge.kept ≡ counted_for stage (text_of new) h.left)
      → (takes_bytes stage ≡ true → noted_in new.judge.others ≡ noted_for stage (text_of new) h.left)
      → (takes_bytes stage ≡ true → Takes (taken_in stage (text_of new) h.left) new.judge.requests) → HasRead (used ++ u) (asked ++ []) new
  bytes_read rest stage is stream left_is place kept noted takes =
      none_more asked (has_read h.packets h.left rest asked stage is
      (subst (λ (gs : List Given). Reads new.packets 0 (used ++ u) gs rest) (append-nil h.packets) stream) earlier_requests left_is place kept noted
      takes)

  -- the bytes end no packet
  pub open_read : new.judge.requests ≡ old.judge.requests → new.judge.stage ≡ old.judge.stage → new.judge.place ≡ old.judge.place
      → new.judge.kept ≡ old.judge.kept
      → noted_in new.judge.others ≡ noted_in old.judge.others → ReadsOn old.packets u [] new.packets → HasRead (used ++ u) (asked ++ []) new
  open_read same is place kept noted reads =
      let (rest, stream) = reads 0 used h.packets h.rest h.reads in
      bytes_read rest old.judge.stage is stream (left_still rest) (λ on. place ∙ h.place_is wants) (λ on. kept ∙ kept_before) (λ on. noted ∙ noted_before)
      (λ on. taken_still same)

  -- they are refused
  pub refused_read : (fault : Fault) → new.judge.stage ≡ FailedStage fault → packet_fault new.packets ≡ Some fault → fault.kind ≢ Truncated
      → ReadsOn old.packets u [] new.packets → HasRead (used ++ u) (asked ++ []) new
  refused_read fault is announced other reads =
      let (rest, stream) = reads 0 used h.packets h.rest h.reads in
      let no_packet : AreNoPacket rest (length (used ++ u)) fault =
      record { stops = stopped_by new.packets (used ++ u) (h.packets ++ []) rest fault announced stream; not_the_end = other } in
      bytes_read rest (FailedStage fault) is stream
      (left_refused (advertised_by new) (limit_of new) h.left rest h.rest (length (used ++ u)) (length used) fault old.judge.stage wants left_before no_packet)
      (λ on. absurd (cc)) (λ on. absurd (cc)) (λ on. absurd (cc)) (λ on. absurd (cc))

  -- there are none, and the input ends
  pub cut_read : (fault : Fault) → new.judge.stage ≡ FailedStage fault → fault.kind ≡ Truncated → packet_fault old.packets ≡ None
      → fault.offset + length h.rest ≡ position_of old.packets → (stage_is_between old.judge.stage ≡ false) ⊎ (h.rest ≢ []) → u ≡ []
      → ReadsOn old.packets u [] new.packets → HasRead (used ++ u) (asked ++ []) new
  cut_read fault is name sound at inside none reads =
      let (rest, stream) = reads 0 used h.packets h.rest h.reads in
      let all : used ++ u ≡ used = ap (λ (l : List ℕ). used ++ l) none ∙ append-nil used in
      let same = one_split 0 used (h.packets ++ []) h.packets rest h.rest
      (subst (λ (l : List ℕ). SpellsAll 0 l (h.packets ++ []) rest) all stream.splits.spelled) h.reads.splits.spelled
      stream.splits.ends h.reads.splits.ends in
      let cut : AreCutOff h.rest (length (used ++ u)) fault =
      record {
        still_open = (sound_rest old.packets 0 used h.packets h.rest sound h.reads).1;
        kind = name;
        at = omega (arith, at, h.reads.position, ap length all);
      } in
      bytes_read h.rest (FailedStage fault) is
      (subst (λ (l : List ℕ). Reads new.packets 0 (used ++ u) (h.packets ++ []) l) same.rest_is stream)
      (left_cut (advertised_by new) (limit_of new) h.left h.rest h.rest (length (used ++ u)) (length used) fault old.judge.stage wants left_before cut inside)
      (λ on. absurd (cc)) (λ on. absurd (cc)) (λ on. absurd (cc)) (λ on. absurd (cc))

  -- of a request that passes it has noted the line
  noted_named : old.judge.stage ≡ Passing → noted_in old.judge.others ≡ record { lines = named_by (text_of new) h.left; asks = asks_nothing }
  noted_named was = noted_before ∙ ap (λ (s : Stage). noted_for s (text_of new) h.left) was

  module _ (g : Given) (reads : ReadsOn old.packets u (g ∷ []) new.packets) where
    requests_with : AreQuestions (advertised_by new) (limit_of new) (h.packets ++ g ∷ []) asked (h.left ++ g ∷ [])
    requests_with = questions_more (advertised_by new) (limit_of new) h.packets (g ∷ []) asked h.left earlier_requests

    -- they end a further packet of a request that passes
    going_read : old.judge.stage ≡ Passing → g.packet ≢ flush → new.judge.stage ≡ Passing → new.judge.place ≡ old.judge.place → new.judge.kept ≡ old.judge.kept
        → noted_in new.judge.others ≡ noted_in old.judge.others → new.judge.requests ≡ old.judge.requests → HasRead (used ++ u) (asked ++ []) new
    going_read was other is place kept noted same =
        let (rest, stream) = reads 0 used h.packets h.rest h.reads in
        let begun : IsOtherBegun (advertised_by new) (limit_of new) h.left =
        subst (λ (s : Stage). IsLeft s (advertised_by new) (limit_of new) h.left h.rest (length used)) was left_before in
        none_more asked (has_read (h.packets ++ g ∷ []) (h.left ++ g ∷ []) rest asked Passing is stream requests_with
        (record { begins = begins_on (advertised_by new) (limit_of new) h.left g begun.begins; goes_on = none_snoc flush h.left g begun.goes_on other })
        (λ on. place ∙ h.place_is wants ∙ ap (λ (s : Stage). place_for s h.left) was)
        (λ on. kept ∙ kept_before ∙ ap (λ (s : Stage). counted_for s (text_of new) h.left) was)
        (λ on.
        noted ∙ noted_named was
        ∙ ap (λ (lines : List ℕ). record { lines = lines; asks = asks_nothing }) (sym (named_snoc (advertised_by new) (limit_of new) h.left g begun.begins)))
        (λ on. subst (λ (s : Stage). Takes (taken_in s (text_of new) h.left) new.judge.requests) was (taken_still same)))

    -- or its flush
    ended_read : old.judge.stage ≡ Passing → g.packet ≡ flush → new.judge.stage ≡ Between → new.judge.place ≡ old.judge.place → new.judge.kept ≡ old.judge.kept
        → noted_in new.judge.others ≡ nothing_noted → new.judge.requests ≡ old.judge.requests
        → HasRead (used ++ u) (asked ++ another (noted_in old.judge.others).lines ∷ []) new
    ended_read was end is place kept noted same =
        let (rest, stream) = reads 0 used h.packets h.rest h.reads in
        let begun : IsOtherBegun (advertised_by new) (limit_of new) h.left =
        subst (λ (s : Stage). IsLeft s (advertised_by new) (limit_of new) h.left h.rest (length used)) was left_before in
        let lines = (noted_in old.judge.others).lines in
        has_read (h.packets ++ g ∷ []) [] rest (asked ++ another lines ∷ []) Between is stream
        (one_more_question (advertised_by new) (limit_of new) (h.packets ++ g ∷ []) asked (h.left ++ g ∷ []) (another lines) requests_with (
          record {
            begins = begins_on (advertised_by new) (limit_of new) h.left g begun.begins;
            ends = record { front = h.left; last = g; parts = refl; none_before = begun.goes_on; is_last = end };
          },
          ap (λ (n : Noted). n.lines) (noted_named was) ∙ sym (named_snoc (advertised_by new) (limit_of new) h.left g begun.begins),
        ))
        refl
        (λ on. place ∙ h.place_is wants ∙ ap (λ (s : Stage). place_for s h.left) was)
        (λ on. kept ∙ kept_before ∙ ap (λ (s : Stage). counted_for s (text_of new) h.left) was)
        (λ on. noted)
        (λ on. subst (λ (s : Stage). Takes (taken_in s (text_of new) h.left) new.judge.requests) was (taken_still same))

  -- they end a packet of a request that passes
  pub passing_read : (p : Pkt) (offset : ℕ) → ReadsOn old.packets u (record { packet = p; offset = offset } ∷ []) new.packets → old.judge.stage ≡ Passing
      → new.judge.stage ≡ stage_passed p → new.judge.place ≡ old.judge.place → new.judge.kept ≡ old.judge.kept
      → noted_in new.judge.others ≡ noted_passed p (noted_in old.judge.others)
      → new.judge.requests ≡ old.judge.requests → HasRead (used ++ u) (asked ++ asked_by (got_passed {A = A} p old.judge.others)) new
  passing_read flush offset reads was is place kept noted same =
      ended_read (record { packet = flush; offset = offset }) reads was refl is place kept noted same
  passing_read delim offset reads was is place kept noted same =
      going_read (record { packet = delim; offset = offset }) reads was (λ e. cc) is place kept noted same
  passing_read resp_end offset reads was is place kept noted same =
      going_read (record { packet = resp_end; offset = offset }) reads was (λ e. cc) is place kept noted same
  passing_read (payload bytes) offset reads was is place kept noted same =
      going_read (record { packet = payload bytes; offset = offset }) reads was (λ e. cc) is place kept noted same

  -- ---- a packet of any other request

  module _ (other : old.judge.stage ≡ Passing → ⊥) (g : Given) (reads : ReadsOn old.packets u (g ∷ []) new.packets) where
    all_before : IsAllTaken old.judge.stage (text_of new) h.left
    all_before = all_taken old.judge.stage (text_of new) h.left other

    all_with_it : IsAllTaken old.judge.stage (text_of new) (h.left ++ g ∷ [])
    all_with_it = all_taken old.judge.stage (text_of new) (h.left ++ g ∷ []) other

    place_now : old.judge.place ≡ place_after first_place h.left
    place_now = h.place_is wants ∙ all_before.place

    -- what holds at the place of the reader holds after what is left
    here : {T : Type 0} (fact : Place → T) (value : T) → fact old.judge.place ≡ value → fact (place_after first_place h.left) ≡ value
    here fact value is = ap fact (sym place_now) ∙ is

    placed : new.judge.place ≡ place_next old.judge.place g.packet → new.judge.place ≡ place_after first_place (h.left ++ g ∷ [])
    placed place = place ∙ ap (λ (p : Place). place_next p g.packet) place_now ∙ sym (place_snoc first_place h.left g)

    taken_now : Takes (judged_of (text_of new) h.left) old.judge.requests
    taken_now = subst (λ (gs : List Given). Takes gs old.judge.requests) all_before.taken taken_before

    begun_now : AreBegun (advertised_by new).offer (limit_of new) (judged_of (text_of new) h.left)
    begun_now = left_lines (advertised_by new) (limit_of new) h.left h.rest (length used) old.judge.stage wants other left_before

    -- it names a command that passes
    module _ (names : names_other (text_of new) old.judge.place g.packet ≡ true) (within : old.judge.kept ≤ limit_of new) where
      names_now : names_other (text_of new) (place_after first_place h.left) g.packet ≡ true
      names_now = here (λ (p : Place). names_other (text_of new) p g.packet) true names

      begins_now : BeginWithOther (advertised_by new) (limit_of new) (h.left ++ g ∷ [])
      begins_now = record {
        front = h.left;
        named = g;
        more = [];
        parts = refl;
        begun = begun_now;
        kept = subst (λ (n : ℕ). n ≤ limit_of new) (kept_before ∙ all_before.counted) within;
        names = names_now;
      }

      named_also : ◌≡◌ {A = Noted} (record { lines = (noted_in old.judge.others).lines ++ name_shown g.packet; asks = (noted_in old.judge.others).asks })
          (record { lines = named_by (text_of new) (h.left ++ g ∷ []); asks = asks_nothing })
      unfolding begins_now
      named_also =
          ap (λ (n : Noted). record { lines = n.lines ++ name_shown g.packet; asks = n.asks })
          (noted_before ∙ all_before.noted)
          ∙ ap (λ (asks : Asks). record { lines = (noted_of (text_of new) h.left).lines ++ name_shown g.packet; asks = asks })
          (asked_none (advertised_by new) (limit_of new) h.left g begun_now names_now)
          ∙ ap (λ (lines : List ℕ). record { lines = lines; asks = asks_nothing })
          (sym (named_as (advertised_by new) (limit_of new) (h.left ++ g ∷ []) begins_now))

      pub named_read : new.judge.stage ≡ Passing → new.judge.place ≡ first_place → new.judge.kept ≡ 0
          → noted_in new.judge.others
          ≡ record { lines = (noted_in old.judge.others).lines ++ name_shown g.packet; asks = (noted_in old.judge.others).asks }
          → Takes [] new.judge.requests → HasRead (used ++ u) (asked ++ []) new
      named_read is place kept noted takes =
          let (rest, stream) = reads 0 used h.packets h.rest h.reads in
          none_more asked (has_read (h.packets ++ g ∷ []) (h.left ++ g ∷ []) rest asked Passing is stream (requests_with g reads)
          (record {
            begins = begins_now;
            goes_on = none_snoc flush h.left g (begun_no_flush (advertised_by new) (limit_of new) h.left begun_now)
                (named_no_flush (text_of new) old.judge.place g.packet names);
          }) (λ on. place) (λ on. kept) (λ on. noted ∙ named_also) (λ on. takes))

      -- and there is no memory for its line
      pub unnamed_read : new.judge.stage ≡ FailedStage (record { kind = OutOfMemory; offset = g.offset }) → packet_fault new.packets ≡ None
          → is_open new.packets ≡ false → HasRead (used ++ u) (asked ++ []) new
      unfolding begins_now
      unnamed_read is sound shut =
          let (rest, stream) = reads 0 used h.packets h.rest h.reads in
          none_more asked (has_read (h.packets ++ g ∷ []) (h.left ++ g ∷ []) rest asked (FailedStage (record { kind = OutOfMemory; offset = g.offset }))
          is stream (requests_with g reads) (inr (inr (inr (record {
            begins = begins_now;
            at_name = refl;
            no_rest = rest_behind new.packets (used ++ u) (h.packets ++ g ∷ []) rest sound shut stream;
            fault_is = refl;
          })))) (λ on. absurd (cc)) (λ on. absurd (cc)) (λ on. absurd (cc)) (λ on. absurd (cc)))

    -- it names none
    unnamed_here : names_other (text_of new) old.judge.place g.packet ≡ false → names_other (text_of new) (place_after first_place h.left) g.packet ≡ false
    unnamed_here = here (λ (p : Place). names_other (text_of new) p g.packet) false

    unnamed_now : names_other (text_of new) old.judge.place g.packet ≡ false → NoneNames (text_of new) first_place (h.left ++ g ∷ [])
    unnamed_now unnamed =
        names_snoc (text_of new) first_place h.left g
        (left_unnamed (advertised_by new) (limit_of new) h.left h.rest (length used) old.judge.stage wants other left_before) (unnamed_here unnamed)

    -- what the packets are read as, with one more
    judged_with : (judged : Option Pkt) → judged_packet (text_of new) old.judge.place g.packet ≡ judged
        → judged_of (text_of new) (h.left ++ g ∷ []) ≡ judged_of (text_of new) h.left ++ given_as judged g.offset
    judged_with judged is =
        judged_snoc (text_of new) first_place h.left g
        ∙ ap (λ (o : Option Pkt). judged_of (text_of new) h.left ++ given_as o g.offset)
        (here (λ (p : Place). judged_packet (text_of new) p g.packet) judged is)

    -- so much counts as kept with it
    abbrev pub counts : ℕ
    counts = old.judge.kept + counted_at (text_of new) old.judge.place g.packet

    kept_now : old.judge.kept ≡ counted_of (text_of new) h.left
    kept_now = kept_before ∙ all_before.counted

    counted_now : counted_of (text_of new) (h.left ++ g ∷ []) ≡ counts
    counted_now =
        counted_snoc (text_of new) first_place h.left g
        ∙ ap (λ (n : ℕ). n + counted_at (text_of new) (place_after first_place h.left) g.packet) (sym kept_now)
        ∙ ap (λ (p : Place). old.judge.kept + counted_at (text_of new) p g.packet) (sym place_now)

    noted_now : noted_in old.judge.others ≡ noted_of (text_of new) h.left
    noted_now = noted_before ∙ all_before.noted

    -- what is noted with it
    abbrev pub notes : Noted
    notes = noted_with (text_of new) old.judge.place (noted_in old.judge.others) g.packet

    noted_also : notes ≡ noted_of (text_of new) (h.left ++ g ∷ [])
    noted_also =
        ap (λ (n : Noted). noted_with (text_of new) old.judge.place n g.packet) noted_now
        ∙ ap (λ (p : Place). noted_with (text_of new) p (noted_of (text_of new) h.left) g.packet) place_now
        ∙ sym (noted_snoc (text_of new) first_place nothing_noted h.left g)

    -- its line is not kept
    pub unkept_read : (kind : Kind) → old.judge.kept ≤ limit_of new → IsNotKept kind counts (limit_of new) (shown_at (text_of new) old.judge.place g.packet)
        → new.judge.stage ≡ FailedStage (record { kind = kind; offset = g.offset })
        → packet_fault new.packets ≡ None → is_open new.packets ≡ false → HasRead (used ++ u) (asked ++ []) new
    unkept_read kind within why is sound shut =
        let (rest, stream) = reads 0 used h.packets h.rest h.reads in
        none_more asked (has_read (h.packets ++ g ∷ []) (h.left ++ g ∷ []) rest asked (FailedStage (record { kind = kind; offset = g.offset }))
        is stream (requests_with g reads) (inr (inr (inl (record {
          front = h.left;
          last = g;
          parts = refl;
          begun = begun_now;
          kept = subst (λ (n : ℕ). n ≤ limit_of new) kept_now within;
          why = subst (λ (n : ℕ). IsNotKept kind n (limit_of new) (shown_at (text_of new) (place_after first_place h.left) g.packet)) (sym counted_now)
              (subst (λ (p : Place). IsNotKept kind counts (limit_of new) (shown_at (text_of new) p g.packet)) place_now why);
          no_rest = rest_behind new.packets (used ++ u) (h.packets ++ g ∷ []) rest sound shut stream;
          at = refl;
        })))) (λ on. absurd (cc)) (λ on. absurd (cc)) (λ on. absurd (cc)) (λ on. absurd (cc)))

    -- it is passed over
    pub passed_read : names_other (text_of new) old.judge.place g.packet ≡ false → judged_packet (text_of new) old.judge.place g.packet ≡ None
        → new.judge.place ≡ place_next old.judge.place g.packet → new.judge.kept ≡ counts
        → noted_in new.judge.others ≡ notes → new.judge.requests ≡ old.judge.requests → new.judge.stage ≡ old.judge.stage
        → HasRead (used ++ u) (asked ++ []) new
    passed_read unnamed none place kept noted same is =
        let (rest, stream) = reads 0 used h.packets h.rest h.reads in
        let judged = judged_with None none ∙ append-nil (judged_of (text_of new) h.left) in
        none_more asked (has_read (h.packets ++ g ∷ []) (h.left ++ g ∷ []) rest asked old.judge.stage is stream (requests_with g reads)
        (left_passed (advertised_by new) (limit_of new) h.left g h.rest rest (length used) (length (used ++ u)) old.judge.stage wants other left_before
        (unnamed_here unnamed) (here (λ (p : Place). judged_packet (text_of new) p g.packet) None none) judged)
        (λ on. placed place ∙ sym all_with_it.place) (λ on. kept ∙ sym counted_now ∙ sym all_with_it.counted)
        (λ on. noted ∙ noted_also ∙ sym all_with_it.noted)
        (λ on. subst (λ (gs : List Given). Takes gs new.judge.requests) (all_before.taken ∙ sym judged ∙ sym all_with_it.taken) (taken_still same)))

    -- or read as this
    module _ (unnamed : names_other (text_of new) old.judge.place g.packet ≡ false) (j : Pkt)
        (judged : judged_packet (text_of new) old.judge.place g.packet ≡ Some j) where
      abbrev pub read_as : Given
      read_as = record { packet = j; offset = g.offset }

      abbrev all_judged : List Given
      all_judged = judged_of (text_of new) (h.left ++ g ∷ [])

      parts : all_judged ≡ judged_of (text_of new) h.left ++ read_as ∷ []
      parts = judged_with (Some j) judged

      brought : (got : ReadGot A) → Brings nothing_barred old.judge.requests read_as got new.judge.requests
          → IsBrought nothing_barred all_judged got new.judge.requests
      brought got brings =
          subst (λ (gs : List Given). IsBrought nothing_barred gs got new.judge.requests) (sym parts) (brings.brings (judged_of (text_of new) h.left) taken_now)

      stopped : (rest : List ℕ) → Reads new.packets 0 (used ++ u) (h.packets ++ g ∷ []) rest → rest ≡ []
          → IsBrought nothing_barred all_judged Stop new.judge.requests → new.judge.stage ≡ Stopped → HasRead (used ++ u) (asked ++ []) new
      stopped rest stream none brings is =
          none_more asked (has_read (h.packets ++ g ∷ []) (h.left ++ g ∷ []) rest asked Stopped is stream (requests_with g reads) (brings.1, none)
          (λ on. absurd (cc)) (λ on. absurd (cc)) (λ on. absurd (cc)) (λ on. absurd (cc)))

      refused : (rest : List ℕ) → Reads new.packets 0 (used ++ u) (h.packets ++ g ∷ []) rest → rest ≡ [] → (fault : Fault)
          → IsBrought nothing_barred all_judged (Failed fault) new.judge.requests → new.judge.stage ≡ FailedStage fault → HasRead (used ++ u) (asked ++ []) new
      refused rest stream none fault brings is =
          let announced = announced_by_none (advertised_by new).offer (limit_of new) all_judged fault brings in
          none_more asked (has_read (h.packets ++ g ∷ []) (h.left ++ g ∷ []) rest asked (FailedStage fault) is stream (requests_with g reads)
          (inl (
            unnamed_now unnamed,
            inl (record {
              front = judged_of (text_of new) h.left;
              last = read_as;
              whole = parts;
              begun = begun_now;
              announced = announced;
              no_rest = none;
            }),
          )) (λ on. absurd (cc)) (λ on. absurd (cc)) (λ on. absurd (cc)) (λ on. absurd (cc)))

      brought_read : (rest : List ℕ) → Reads new.packets 0 (used ++ u) (h.packets ++ g ∷ []) rest → rest ≡ [] → (got : ReadGot A)
          → IsBrought nothing_barred all_judged got new.judge.requests → (others : OtherLines A) → counts ≤ limit_of new → noted_in others ≡ notes → (kept : ℕ)
          → kept ≡ counts → new.judge.stage ≡ stage_brought got → new.judge.place ≡ place_brought got (place_next old.judge.place g.packet)
          → new.judge.kept ≡ kept_brought got kept → noted_in new.judge.others ≡ noted_brought got (noted_in others)
          → HasRead (used ++ u) (asked ++ asked_by (got_as got others)) new
      brought_read rest stream none More brings others within notes kept same is place counted noted =
          none_more asked (has_read (h.packets ++ g ∷ []) (h.left ++ g ∷ []) rest asked Within is stream (requests_with g reads)
          (unnamed_now unnamed, (λ e. some_left (judged_of (text_of new) h.left) read_as (sym parts ∙ e), brings.1)) (λ on. placed place)
          (λ on. counted ∙ same ∙ sym counted_now) (λ on. noted ∙ notes ∙ noted_also) (λ on. brings.0))
      brought_read rest stream none (Request request) brings others within notes kept same is place counted noted =
          let question = known (asked_of request) (noted_in others) in
          has_read (h.packets ++ g ∷ []) [] rest (asked ++ question ∷ []) Between is stream
          (one_more_question (advertised_by new) (limit_of new) (h.packets ++ g ∷ []) asked (h.left ++ g ∷ []) question (requests_with g reads)
          ((kept_of request, brings.1), subst (λ (n : ℕ). n ≤ limit_of new) (sym counted_now) within, notes ∙ noted_also)) refl (λ on. place)
          (λ on. counted) (λ on. noted) (λ on. brings.0)
      brought_read rest stream none Stop brings others within notes kept same is place counted noted = stopped rest stream none brings is
      brought_read rest stream none (Failed fault) brings others within notes kept same is place counted noted =
          refused rest stream none fault brings is

      pub packet_read : (got : ReadGot A) (refused : Option Kind) → Brings nothing_barred old.judge.requests read_as got new.judge.requests
          → old.judge.kept ≤ limit_of new
          → (others : OtherLines A)
          → KeepsWithin refused (text_of new) old.judge.place g.packet counts (limit_of new) (noted_in old.judge.others) (noted_in others) → (kept : ℕ)
          → (refused ≡ None → kept ≡ counts) → new.judge.stage ≡ stage_brought (limited_got refused g.offset got)
          → new.judge.place ≡ place_brought (limited_got refused g.offset got) (place_next old.judge.place g.packet)
          → new.judge.kept ≡ kept_brought (limited_got refused g.offset got) kept
          → noted_in new.judge.others ≡ noted_brought (limited_got refused g.offset got) (noted_in others) → packet_fault new.packets ≡ None
          → is_open new.packets ≡ false → HasRead (used ++ u) (asked ++ asked_by (got_as (limited_got refused g.offset got) others)) new
      packet_read got None brings before others keeps kept same is place counted noted sound shut =
          let (rest, stream) = reads 0 used h.packets h.rest h.reads in
          brought_read rest stream (rest_behind new.packets (used ++ u) (h.packets ++ g ∷ []) rest sound shut stream) got (brought got brings)
          others keeps.0 keeps.1 kept (same refl) is place counted noted
      packet_read More (Some kind) brings before others keeps kept same is place counted noted sound shut = unkept_read kind before keeps is sound shut
      packet_read (Request request) (Some kind) brings before others keeps kept same is place counted noted sound shut =
          unkept_read kind before keeps is sound shut
      packet_read Stop (Some kind) brings before others keeps kept same is place counted noted sound shut =
          let (rest, stream) = reads 0 used h.packets h.rest h.reads in
          stopped rest stream (rest_behind new.packets (used ++ u) (h.packets ++ g ∷ []) rest sound shut stream) (brought Stop brings) is
      packet_read (Failed fault) (Some kind) brings before others keeps kept same is place counted noted sound shut =
          let (rest, stream) = reads 0 used h.packets h.rest h.reads in
          refused rest stream (rest_behind new.packets (used ++ u) (h.packets ++ g ∷ []) rest sound shut stream) fault (brought (Failed fault) brings) is

-- ---- a sum that stops at the largest number, and the limit

sum_within : (counts kept limit : ℕ) → kept ≡ min counts 18446744073709551615 → kept ≤ limit → limit ≤ 4294967295 → kept ≡ counts
sum_within counts kept limit is within fits = grind arith

sum_over : (counts kept limit : ℕ) → kept ≡ min counts 18446744073709551615 → limit < kept → limit < counts
sum_over counts kept limit is over = grind arith

-- the same for what is kept within it
keeps_all : (refused : Option Kind) (text : List ℕ) (place : Place) (packet : Pkt) (counts kept limit : ℕ) (old new : Noted)
    → kept ≡ min counts 18446744073709551615 → limit ≤ 4294967295 → KeepsWithin refused text place packet kept limit old new
    → KeepsWithin refused text place packet counts limit old new × (refused ≡ None → kept ≡ counts)
keeps_all None text place packet counts kept limit old new is fits (within, noted) =
    let same = sum_within counts kept limit is within fits in ((subst (λ (n : ℕ). n ≤ limit) same within, noted), λ e. same)
keeps_all (Some kind) text place packet counts kept limit old new is fits (inl (named, over)) =
    (inl (named, sum_over counts kept limit is over), λ e. absurd (cc))
keeps_all (Some kind) text place packet counts kept limit old new is fits (inr (named, within, shown)) =
    (inr (named, subst (λ (n : ℕ). n ≤ limit) (sum_within counts kept limit is within fits) within, shown), λ e. absurd (cc))

-- what a packet keeps: the number that the code has counts it exactly within the limit
pub record KeepsLine (refused : Option Kind) (text : List ℕ) (place : Place) (packet : Pkt) (counts kept limit : ℕ) (old new : Noted) : Type 0 where
  pub keeps : KeepsWithin refused text place packet kept limit old new
  pub keeps_counts : KeepsWithin refused text place packet counts limit old new
  pub exact : refused ≡ None → kept ≡ counts

pub keeps_line : (refused : Option Kind) {first second : List ℕ} (text : List ℕ) (place : Place) (packet : Pkt) (before more kept limit : ℕ) (old new : Noted)
    → first ≡ text → more ≡ counted_at first place packet → kept ≡ min (before + more) 18446744073709551615 → limit ≤ 4294967295
    → second ≡ text → KeepsWithin refused second place packet kept limit old new
    → KeepsLine refused text place packet (before + counted_at text place packet) kept limit old new
keeps_line refused text place packet before more kept limit old new first counted sum fits second keeps =
    let counts = sum ∙ ap (λ (n : ℕ). min (before + n) 18446744073709551615) (counted ∙ ap (λ (l : List ℕ). counted_at l place packet) first) in
    let kept_by = subst (λ (l : List ℕ). KeepsWithin refused l place packet kept limit old new) second keeps in
    let all = keeps_all refused text place packet (before + counted_at text place packet) kept limit old new counts fits kept_by in
    record { keeps = kept_by; keeps_counts = all.0; exact = all.1 }

-- what the same offer and text were advertised by is the same
pub same_advertised : (text : List ℕ) (offer other : Offer) → offer ≡ other
    → ◌≡◌ {A = Advertised} (record { offer = offer; text = text }) (record { offer = other; text = text })
same_advertised text offer other same = ap (λ (o : Offer). record { offer = o; text = text }) same

-- what the same was brought by is the same
pub same_place : {A : Type 0} (got other : ReadGot A) (next : Place) → got ≡ other → place_brought got next ≡ place_brought other next
same_place {A} got other next same = ap (λ (o : ReadGot A). place_brought o next) same

pub same_kept : {A : Type 0} (got other : ReadGot A) (next : ℕ) → got ≡ other → kept_brought got next ≡ kept_brought other next
same_kept {A} got other next same = ap (λ (o : ReadGot A). kept_brought o next) same

pub same_noted : {A : Type 0} (got other : ReadGot A) (next : Noted) → got ≡ other → noted_brought got next ≡ noted_brought other next
same_noted {A} got other next same = ap (λ (o : ReadGot A). noted_brought o next) same

-- ---- how a reader is left after a packet

module _ {A : Type 0} where
  taken_behind : (old new : RequestReader A) (g : Given) (got : ReadGot A) → Brings nothing_barred old g got new
      → takes_bytes (stage_brought got) ≡ true → ∥ HasTaken old ∥₁ → (reader_fault new ≡ None) × ∥ HasTaken new ∥₁
  taken_behind old new g More brings on taken = (
    brings.leaves,
    ∥∥₁_elim taken ∥∥₁_prop (λ (h : HasTaken old). let (left, takes) = h in ∣ (left ++ g ∷ [], (brings.brings left takes).0) ∣₁),
  )
  taken_behind old new g (Request request) brings on taken =
      (brings.leaves, ∥∥₁_elim taken ∥∥₁_prop (λ (h : HasTaken old). let (left, takes) = h in ∣ ([], (brings.brings left takes).0) ∣₁))
  taken_behind old new g Stop brings on taken = absurd (cc)
  taken_behind old new g (Failed fault) brings on taken = absurd (cc)

module _ {A : Type 0} (old new : JudgedRequests A) (used : ℕ) (ready : IsJudging old.judge) (some : 0 < used)
    (sound : packet_fault new.packets ≡ None) (gathers : passes_of new.packets ≡ false) (same_offer : new.judge.offer ≡ old.judge.offer)
    (same_limit : new.judge.limits.args ≡ old.judge.limits.args) where
  -- it goes on
  ready_with : takes_bytes new.judge.stage ≡ true → reader_fault new.judge.requests ≡ None → ∥ HasTaken new.judge.requests ∥₁
      → offer_in new.judge.requests ≡ offer_in old.judge.requests
      → limit_in new.judge.requests ≡ limit_in old.judge.requests → new.judge.kept ≤ old.judge.limits.args → IsReady new
  ready_with wants open_ended taken offer limit kept = record {
    judging = record {
      wants = wants;
      open_ended = open_ended;
      taken = taken;
      same_offer = same_offer ∙ ready.same_offer ∙ sym offer;
      same_limit = same_limit ∙ ready.same_limit ∙ sym limit;
      within = subst (λ (n : ℕ). new.judge.kept ≤ n) (sym same_limit) kept;
      fits = subst (λ (n : ℕ). n ≤ 4294967295) (sym same_limit) ready.fits;
    };
    gathers = gathers;
    sound = sound;
  }

  -- with the reader inside as it was
  ready_still : new.judge.requests ≡ old.judge.requests → new.judge.kept ≤ old.judge.limits.args → takes_bytes new.judge.stage ≡ true → IsReady new
  ready_still same kept wants =
      ready_with wants (rw same ready.open_ended) (subst (λ (r : RequestReader A). ∥ HasTaken r ∥₁) (sym same) ready.taken)
      (ap (λ (r : RequestReader A). offer_in r) same) (ap (λ (r : RequestReader A). limit_in r) same) kept

  -- or with a new one
  pub named_leaves : new.judge.stage ≡ Passing → reader_fault new.judge.requests ≡ None → Takes [] new.judge.requests
      → offer_in new.judge.requests ≡ old.judge.offer → limit_in new.judge.requests ≡ old.judge.limits.args
      → new.judge.kept ≡ 0 → StepLeaves {A = A} Got.More used new
  named_leaves is open_ended takes offer limit kept = (
    some,
    ready_with (ap takes_bytes is) open_ended ∣ ([], takes) ∣₁ (offer ∙ ready.same_offer) (limit ∙ ready.same_limit) (omega (arith, kept)),
  )

  pub goes_leaves : new.judge.requests ≡ old.judge.requests → new.judge.kept ≤ old.judge.limits.args → takes_bytes new.judge.stage ≡ true
      → StepLeaves {A = A} Got.More used new
  goes_leaves same kept wants = (some, ready_still same kept wants)

  pub passed_leaves : new.judge.requests ≡ old.judge.requests → new.judge.kept ≤ old.judge.limits.args → new.judge.stage ≡ old.judge.stage
      → StepLeaves {A = A} Got.More used new
  passed_leaves same kept is = goes_leaves same kept (ap takes_bytes is ∙ ready.wants)

  module _ (shut : is_open new.packets ≡ false) where
    pub passing_leaves : (p : Pkt) (others : OtherLines A) → new.judge.requests ≡ old.judge.requests → new.judge.kept ≤ old.judge.limits.args
        → new.judge.stage ≡ stage_passed p
        → StepLeaves (got_passed {A = A} p others) used new
    passing_leaves flush others same kept is =
        record { some = some; onward = ready_still same kept (ap takes_bytes is); between = ap stage_is_between is; shut = shut }
    passing_leaves delim others same kept is = goes_leaves same kept (ap takes_bytes is)
    passing_leaves resp_end others same kept is = goes_leaves same kept (ap takes_bytes is)
    passing_leaves (payload bytes) others same kept is = goes_leaves same kept (ap takes_bytes is)

    module _ (g : Given) where
      ready_behind : (got : ReadGot A) → takes_bytes (stage_brought got) ≡ true → Brings nothing_barred old.judge.requests g got new.judge.requests
          → new.judge.kept ≤ old.judge.limits.args
          → new.judge.stage ≡ stage_brought got → IsReady new
      ready_behind got on brings kept is =
          let (open_ended, taken) = taken_behind old.judge.requests new.judge.requests g got brings on ready.taken in
          ready_with (ap takes_bytes is ∙ on) open_ended taken brings.offer brings.limit kept

      pub packet_leaves : (got : ReadGot A) (refused : Option Kind) (offset kept : ℕ) (others : OtherLines A)
          → Brings nothing_barred old.judge.requests g got new.judge.requests → (refused ≡ None → kept ≤ old.judge.limits.args)
          → new.judge.stage ≡ stage_brought (limited_got refused offset got) → new.judge.kept ≡ kept_brought (limited_got refused offset got) kept
          → StepLeaves (got_as (limited_got refused offset got) others) used new
      packet_leaves More None offset kept others brings within is counted =
          (some, ready_behind More refl brings (subst (λ (n : ℕ). n ≤ old.judge.limits.args) (sym counted) (within refl)) is)
      packet_leaves (Request request) None offset kept others brings within is counted = (
        record {
          some = some;
          onward = ready_behind (Request request) refl brings (omega (arith, counted)) is;
          between = ap stage_is_between is;
          shut = shut;
        },
        ∥∥₁_elim ready.taken (hlevel props) (λ (h : HasTaken old.judge.requests). let (left, takes) = h in (brings.brings left takes).2),
      )
      packet_leaves Stop None offset kept others brings within is counted = (some, ap takes_bytes is, ap fault_in is)
      packet_leaves (Failed fault) None offset kept others brings within is counted = ap fault_in is
      packet_leaves More (Some kind) offset kept others brings within is counted = ap fault_in is
      packet_leaves (Request request) (Some kind) offset kept others brings within is counted = ap fault_in is
      packet_leaves Stop (Some kind) offset kept others brings within is counted = (some, ap takes_bytes is, ap fault_in is)
      packet_leaves (Failed fault) (Some kind) offset kept others brings within is counted = ap fault_in is

-- a packet that passes brings no fault
pub no_news : {A : Type 0} (p : Pkt) (others : OtherLines A) (fault : Fault) (used : ℕ) (chunk : List ℕ)
    → got_passed {A = A} p others ≡ Got.Failed fault → ShownByFeed fault used chunk
no_news flush others fault used chunk is = absurd (cc)
no_news delim others fault used chunk is = absurd (cc)
no_news resp_end others fault used chunk is = absurd (cc)
no_news (payload bytes) others fault used chunk is = absurd (cc)

-- a fault of a packet is none that the bytes show
fault_news : {A : Type 0} (old : JudgedRequests A) (new : RequestReader A) (g : Given) → IsJudging old.judge → (announced : Fault)
    → Brings nothing_barred old.judge.requests g (Failed announced) new → (fault : Fault) (used : ℕ) (chunk : List ℕ) → announced ≡ fault
    → ShownByFeed fault used chunk
fault_news old new g ready announced brings fault used chunk same =
    ∥∥₁_elim ready.taken (hlevel props) (λ (h : HasTaken old.judge.requests).
    let (left, takes) = h in
    let t = announced_by_none _ _ (left ++ g ∷ []) announced (brings.brings left takes) in
    subst (λ (f : Fault). ShownByFeed f used chunk) same (record {
      not_the_end = announced_of_packets Truncated tt _ _ (left ++ g ∷ []) announced t;
      one_more = λ too_long. absurd (announced_of_packets StreamTooLong tt _ _ (left ++ g ∷ []) announced t too_long);
    }))

-- nor is that of a packet that is not kept
pub unkept_news : (kind : Kind) (offset kept limit : ℕ) (shown : List ℕ) → IsNotKept kind kept limit shown → (fault : Fault) (used : ℕ) (chunk : List ℕ)
    → record { kind = kind; offset = offset } ≡ fault → ShownByFeed fault used chunk
unkept_news kind offset kept limit shown (inl (named, over)) fault used chunk same =
    subst (λ (f : Fault). ShownByFeed f used chunk) same (record { not_the_end = λ e. cc; one_more = λ e. absurd (cc) })
unkept_news kind offset kept limit shown (inr (named, within, some)) fault used chunk same =
    subst (λ (f : Fault). ShownByFeed f used chunk) same (record { not_the_end = λ e. cc; one_more = λ e. absurd (cc) })

pub unnamed_news : (offset : ℕ) (fault : Fault) (used : ℕ) (chunk : List ℕ) → record { kind = OutOfMemory; offset = offset } ≡ fault
    → ShownByFeed fault used chunk
unnamed_news offset fault used chunk same =
    subst (λ (f : Fault). ShownByFeed f used chunk) same (record { not_the_end = λ e. cc; one_more = λ e. absurd (cc) })

pub packet_news : {A : Type 0} (old : JudgedRequests A) (new : RequestReader A) (g : Given) (got : ReadGot A) (refused : Option Kind)
    (text : List ℕ) (place : Place) (packet : Pkt) (kept limit : ℕ) (before after : Noted) (offset : ℕ) (others : OtherLines A)
    → KeepsWithin refused text place packet kept limit before after → IsJudging old.judge → Brings nothing_barred old.judge.requests g got new
    → (fault : Fault) (used : ℕ) (chunk : List ℕ) → got_as (limited_got refused offset got) others ≡ Got.Failed fault → ShownByFeed fault used chunk
packet_news old new g More None text place packet kept limit before after offset others keeps ready brings fault used chunk is = absurd (cc)
packet_news old new g (Request request) None text place packet kept limit before after offset others keeps ready brings fault used chunk is = absurd (cc)
packet_news old new g Stop None text place packet kept limit before after offset others keeps ready brings fault used chunk is = absurd (cc)
packet_news old new g (Failed announced) None text place packet kept limit before after offset others keeps ready brings fault used chunk is =
    fault_news old new g ready announced brings fault used chunk (cc)
packet_news old new g More (Some kind) text place packet kept limit before after offset others keeps ready brings fault used chunk is =
    unkept_news kind offset kept limit (shown_at text place packet) keeps fault used chunk (cc)
packet_news old new g (Request request) (Some kind) text place packet kept limit before after offset others keeps ready brings fault used chunk is =
    unkept_news kind offset kept limit (shown_at text place packet) keeps fault used chunk (cc)
packet_news old new g Stop (Some kind) text place packet kept limit before after offset others keeps ready brings fault used chunk is = absurd (cc)
packet_news old new g (Failed announced) (Some kind) text place packet kept limit before after offset others keeps ready brings fault used chunk is =
    fault_news old new g ready announced brings fault used chunk (cc)

-- ---- a step over what is left of a chunk

module _ {A : Type 0} (old mid new : JudgedRequests A) (chunk : List ℕ) (done : ℕ) (within : done ≤ length chunk)
    (more : ℕ) (got : JudgedGot A) where
  abbrev Stepping : Type 0
  Stepping = ReadsBy StepLeaves mid (left_bytes chunk done) (record { used = more; got = got }) new

  pub reads_further : Stepping
      → ((used : List ℕ) (asked : List Question) → HasRead used asked old → HasRead (used ++ take done chunk) asked mid)
      → (used : List ℕ) (asked : List Question) → HasRead used asked old → HasRead (used ++ take (done + more) chunk) (asked ++ asked_by got) new
  reads_further steps before used asked h =
      subst (λ (bytes : List ℕ). HasRead bytes (asked ++ asked_by got) new) (joined used chunk done more within)
      (steps.reads (used ++ take done chunk) asked (before used asked h))

  -- a fault that what is left of the chunk shows, the chunk shows
  pub shows_further : Stepping → (fault : Fault) → got ≡ Got.Failed fault → ShownByFeed fault (done + more) chunk
  shows_further steps fault is = shown_further chunk done within fault more (steps.news fault is)

-- what a step did, by its answer
pub steps_with : {A : Type 0} (old new : JudgedRequests A) (chunk : List ℕ) (read : JudgedRead A) (got : JudgedGot A) → read.got ≡ got
    → ReadsBy StepLeaves old chunk read new → ReadsBy StepLeaves old chunk (record { used = read.used; got = got }) new
steps_with {A = A} old new chunk read got is steps =
    subst (λ (o : JudgedGot A). ReadsBy StepLeaves old chunk (record { used = read.used; got = o }) new) is steps

-- how a reader is left after a step that is the last of a call
onward_further : {A : Type 0} (new : JudgedRequests A) (done more : ℕ) → IsOnward more new → IsOnward (done + more) new
onward_further new done more o = record { some = omega (arith, o.some); onward = o.onward; between = o.between; shut = o.shut }

pub leaves_further : {A : Type 0} (new : JudgedRequests A) (chunk : List ℕ) (done more : ℕ) (got : JudgedGot A) → got ≢ Got.More → StepLeaves got more new
    → Leaves got (done + more) chunk new
leaves_further new chunk done more Got.More other leaves = absurd (other refl)
leaves_further new chunk done more (Got.Request request) other (on, format) = (onward_further new done more on, format)
leaves_further new chunk done more (Got.Other others) other on = onward_further new done more on
leaves_further new chunk done more Got.Stop other (some, quiet, none) = (omega (arith, some), quiet, none)
leaves_further new chunk done more (Got.Failed fault) other leaves = leaves
