-- The answer to the request at hand, from one report to the next.
use denote.Ref.{Bor}
use Rattle.std.proofs.Common.{arith, ◌<◌, length, ◌≡◌, ℕ, Bool, true, false, List, [], ◌∷◌, ◌++◌, map, Option, Some, None, Result, Ok, Err, refl, sym, ap, ◌∙◌}
use Rattle.std.proofs.Common.{subst, append-nil}
use Rattle.std.specs.Prelude.{OnErr}
use Rattle.std.proofs.lemmas.List.{length-take}
use Rattle.std.proofs.lemmas.Grind.{common_steps}
use Rattle.git_names.specs.ObjectName.{ObjectName}
use Rattle.git_names.specs.NameBytes.{name_bytes}
use Rattle.git_names.specs.declared.reference.RefName.{RefName}
use Rattle.git_names.specs.declared.object_format.Format.{Format}
use Rattle.git_pkt.specs.Packets.{Pkt, longest_payload}
use Rattle.git_msg.specs.declared.Boundary.{Boundary}
use Rattle.git_msg.specs.Kept.{Kept}
use Rattle.git_msg.specs.Arguments.{Arg}
use Rattle.git_msg.specs.Asked.{fetch, ls_refs, object_info}
use Rattle.git_server.specs.Packs.{Manner, whole, broken}
use Rattle.git_server.specs.Repository.{Entry}
use Rattle.git_host.specs.Admissions.{AdmissionFacts, IsAdmitted, IsSame, Reports as AdmissionReports, ReportsWant, ReportsWantRef, StandsAtStep}
use Rattle.git_host.specs.Admissions.{step_of as admission_step}
use Rattle.git_host.specs.Admissions.{with_found, with_want}
use Rattle.git_host.specs.AdmittedAnswers.{Becomes, BecomesAnswer}
use Rattle.git_host.specs.FetchFacts.{FetchFacts, IsSoundFetchAnswer, no_facts}
use Rattle.git_host.specs.FetchPlaces.{EndsBoundary, IsToTheSame, Represents, ReportsAlone, ReportsAndGives, Steps, WhereAsked, asked_of as fetch_of}
use Rattle.git_host.specs.FetchPlaces.{is_asked, is_boundary, is_loss, with_boundary_end}
use Rattle.git_host.specs.FetchPlaces.{ReportsLine, ReportsProgress, format_of as fetch_format, is_line_asked, is_pack, is_progress_asked}
use Rattle.git_host.specs.FetchPlaces.{step_of as fetch_step, with_line, with_pack, with_progress}
use Rattle.git_host.specs.ReferencesPlaces.{IsToTheSame as IsToTheSameRefs, KeepsAs, ReferencesFacts, Reports, ReportsHidden, ReportsOn, ReportsUnborn}
use Rattle.git_host.specs.ReferencesPlaces.{with_ref, with_unborn}
use Rattle.git_host.specs.SizesPlaces.{AsksStill, GivesSize, IsAsking, IsSizesAnswerOf, RepresentsSizes, StepsSizes}
use Rattle.git_host.specs.HostSessions.{Facts, IsAnswerBy, of_fetch, of_references, of_sizes}
use Rattle.git_host.specs.HostAnswers.{IsNeeded, IsTaken, LeavesAnswer, WaitsStill, asks_wanted, is_broken}
use Rattle.git_host.specs.HostAnswers.{EndsAs, IsWithinLimit, Terms, GivesOn, GoesOn, IsAnswering, IsAskedFor, IsGiven, ReportsBy, StepsAnswer, ended_as}
use Rattle.git_host.specs.HostAnswers.{of_fetch_step, of_sizes_step, on_fetch, on_references, on_sizes, on_want_refs, on_wants, found_ids, part_of}
use Rattle.git_host.specs.HostAnswers.{line_as, packet_where, progress_as, reported_as, taken_where, with_report}
use Rattle.git_host.specs.declared.admission.Admission.{Admission as AdmissionMachine}
use Rattle.git_host.specs.declared.admission.WantRefReported.{WantRefReported}
use Rattle.git_host.specs.declared.admission.AdmissionStep.{AdmissionStep}
use Rattle.git_host.specs.declared.admission.AdmissionStep.TheVariants.{AskWant, AskWantRef}
use Rattle.git_host.specs.declared.admission.WantRefReported.TheVariants.{Taken as RefTaken, MixedFormats as RefMixed, NotAsked as RefUnasked}
use Rattle.git_host.specs.declared.fetch_answer.BoundaryReported.{BoundaryReported}
use Rattle.git_host.specs.declared.fetch_answer.BoundaryReported.TheVariants as Line
use Rattle.git_host.specs.declared.fetch_answer.ProgressReported.{ProgressReported}
use Rattle.git_host.specs.declared.fetch_answer.ProgressReported.TheVariants as Progressed
use Rattle.git_host.specs.declared.fetch_answer.BoundaryEnd.{BoundaryEnd}
use Rattle.git_host.specs.declared.fetch_answer.BoundaryEnd.TheVariants.{NotAsked as EndNotAsked, Absent, Packet as DelimGiven}
use Rattle.git_host.specs.declared.fetch_answer.FetchAnswer.{FetchAnswer}
use Rattle.git_host.specs.declared.fetch_answer.Step.{Step}
use Rattle.git_host.specs.declared.fetch_answer.Step.TheVariants.{AskHave, AskReady, AskBoundary, AskPack}
use Rattle.git_host.specs.declared.fetch_answer.Step.TheVariants.{Packet as FetchPacket, Whole as FetchWhole, Broken as FetchBroken}
use Rattle.git_host.specs.declared.references_answer.ReferencesAnswer.{ReferencesAnswer}
use Rattle.git_host.specs.declared.references_answer.Reported.{Reported}
use Rattle.git_host.specs.declared.references_answer.Reported.TheVariants.{Packet as ReferencePacket, Hidden as ReferenceHidden, Unsorted as ReferenceUnsorted}
use Rattle.git_host.specs.declared.references_answer.Reported.TheVariants.{MixedFormats as ReferenceMixed, HeadTwice as ReferenceTwice}
use Rattle.git_host.specs.declared.references_answer.Reported.TheVariants.{NotAsked as ReferenceNotAsked}
use Rattle.git_host.specs.declared.sizes_answer.SizesAnswer.{SizesAnswer}
use Rattle.git_host.specs.declared.sizes_answer.SizesStep.{SizesStep}
use Rattle.git_host.specs.declared.sizes_answer.SizesStep.TheVariants.{AskSize, Packet as SizesPacket, Whole as SizesWhole}
use Rattle.git_host.specs.declared.host_answer.HostAnswer.{HostAnswer}
use Rattle.git_host.specs.declared.host_answer.HostAnswer.TheVariants.{Admission, Fetch, References, Sizes, Whole as AllSent}
use Rattle.git_host.specs.declared.host_answer.AnswerStep.{AnswerStep}
use Rattle.git_host.specs.declared.host_answer.AnswerStep.TheVariants.{Broken, Need as Needs}
use Rattle.git_host.specs.declared.report.Need.{Need}
use Rattle.git_host.specs.declared.report.Need.TheVariants as NeedOf
use Rattle.git_host.specs.declared.report.HostReported.{HostReported}
use Rattle.git_host.specs.declared.report.HostReported.TheVariants.{Taken, NotAsked, MixedFormats, OutOfMemory}
use Rattle.git_host.specs.declared.report.Report.{Report}
use Rattle.git_host.specs.declared.report.Report.TheVariants.{Want, WantRef, Boundary as LineOf, BoundaryEnd as EndsIt, Progress as ProgressOf, Reference}
use Rattle.git_host.specs.declared.report.Report.TheVariants.{Unborn}

pub on_err : {X E : Type 0} (r : Result X E) (e : E) (P : Type 0) → r ≡ Err e → OnErr r P → P
on_err (Ok x) e P is h = absurd (cc)
on_err (Err f) e P is h = h

found_more : (found : List (Option ObjectName)) (id : ObjectName) → found_ids (found ++ Some id ∷ []) ≡ found_ids found ++ id ∷ []
found_more [] id = refl
found_more (Some x ∷ found) id = ap (λ (l : List ObjectName). x ∷ l) (found_more found id)
found_more (None ∷ found) id = found_more found id

found_less : (found : List (Option ObjectName)) → found_ids (found ++ None ∷ []) ≡ found_ids found
found_less [] = refl
found_less (Some x ∷ found) = ap (λ (l : List ObjectName). x ∷ l) (found_less found)
found_less (None ∷ found) = found_less found

pub all_found : (ids : List ObjectName) → found_ids (map Some ids) ≡ ids
all_found [] = refl
all_found (id ∷ ids) = ap (λ (l : List ObjectName). id ∷ l) (all_found ids)

fetch_by : (manner : Manner) (format : Format) (q : List Arg) (a : AdmissionFacts) (t : FetchFacts) (packets : List Pkt) → IsAdmitted format q a t.wanted
    → IsSoundFetchAnswer manner format q t packets → IsAnswerBy manner format (fetch q) (of_fetch a t) packets
fetch_by whole format q a t packets admitted is = (admitted, is)
fetch_by broken format q a t packets admitted is = (admitted, is)

-- no bytes of a pack, and none of a progress, change nothing
no_pack : (bytes : List ℕ) → bytes ≡ [] → (f : Facts) → on_fetch (with_pack (part_of bytes)) f ≡ f
no_pack bytes none (of_fetch a t) = ap (λ (l : List ℕ). of_fetch a (record t { pack = l })) (ap (λ (b : List ℕ). t.pack ++ part_of b) none ∙ append-nil t.pack)
no_pack bytes none (of_references t) = refl
no_pack bytes none (of_sizes sizes) = refl

no_progress : (bytes : List ℕ) → bytes ≡ [] → (f : Facts) → on_fetch (with_progress (part_of bytes)) f ≡ f
no_progress bytes none (of_fetch a t) =
    ap (λ (l : List ℕ). of_fetch a (record t { progress = l })) (ap (λ (b : List ℕ). t.progress ++ part_of b) none ∙ append-nil t.progress)
no_progress bytes none (of_references t) = refl
no_progress bytes none (of_sizes sizes) = refl

pub part_some : (bytes : List ℕ) → 0 < length bytes → 0 < length (part_of bytes)
part_some bytes some = grind (arith, common_steps)

pub part_fits : (bytes : List ℕ) → length (part_of bytes) < longest_payload
part_fits bytes = omega (arith, length-take 65515 bytes)

same_fetch : (f : Facts) → on_fetch (λ t. t) f ≡ f
same_fetch (of_fetch a t) = refl
same_fetch (of_references t) = refl
same_fetch (of_sizes sizes) = refl

broken_gives : (step : Step) → is_loss step ≡ true → of_fetch_step step ≡ Broken
broken_gives FetchBroken is = refl
broken_gives FetchPacket is = absurd (cc)
broken_gives FetchWhole is = absurd (cc)
broken_gives (AskHave at) is = absurd (cc)
broken_gives AskReady is = absurd (cc)
broken_gives AskBoundary is = absurd (cc)
broken_gives AskPack is = absurd (cc)

-- an answer that is whole needs nothing
pub none_needed : (A : Type 0) (need : Need) → (let all_sent : HostAnswer A = AllSent in IsNeeded need all_sent) → ⊥
none_needed A (NeedOf.Want at) needed = needed
none_needed A (NeedOf.WantRef at) needed = needed
none_needed A (NeedOf.Have at) needed = needed
none_needed A NeedOf.Ready needed = needed
none_needed A NeedOf.Boundary needed = needed
none_needed A NeedOf.Pack needed = needed
none_needed A NeedOf.Reference needed = needed
none_needed A (NeedOf.Size at) needed = needed

module _ {A : Type 0} where
  pub no_pack_goes : (old : HostAnswer A) (bytes : List ℕ) → bytes ≡ [] → GoesOn (on_fetch (with_pack (part_of bytes))) old old
  no_pack_goes old bytes none m q f front h = subst (λ (x : Facts). IsAnswering m old q x front) (sym (no_pack bytes none f)) h

  pub no_progress_goes : (old : HostAnswer A) (bytes : List ℕ) → bytes ≡ [] → GoesOn (on_fetch (with_progress (part_of bytes))) old old
  no_progress_goes old bytes none m q f front h = subst (λ (x : Facts). IsAnswering m old q x front) (sym (no_progress bytes none f)) h

  -- what no fact distinguishes
  pub gives_same : (old new : HostAnswer A) (bytes : List ℕ) → GivesOn (on_fetch (λ t. t)) old bytes new → GivesOn (λ f. f) old bytes new
  gives_same old new bytes gives m q f front h =
      let (packet, held, is) = gives m q f front h in
      (packet, held, subst (λ (x : Facts). IsAnswering m new q x (front ++ packet ∷ [])) (same_fetch f) is)

  -- ---- an answer that broke off

  pub unbroken : (old answer : HostAnswer A) → old ≡ answer → is_broken answer ≡ false → is_broken old ≡ true → ⊥
  unbroken old answer was sound lost = let both : is_broken answer ≡ true = subst (λ (x : HostAnswer A). is_broken x ≡ true) was lost in cc

  pub broken_stepped : (a : FetchAnswer A) (old : HostAnswer A) (step : Step) (r : AnswerStep) → old ≡ Fetch a → r ≡ of_fetch_step step
      → step ≡ fetch_step a → is_broken old ≡ true → r ≡ Broken
  broken_stepped a old step r was is next lost =
      let loses : is_loss (fetch_step a) ≡ true = subst (λ (x : HostAnswer A). is_broken x ≡ true) was lost in
      is ∙ broken_gives step (ap is_loss next ∙ loses)

  -- ---- an answer that needs something

  module _ (a b : FetchAnswer A) (step : Step) (bytes : List ℕ) (next : step ≡ fetch_step a) (steps : Steps a step bytes b) where
    still_by : (known : Step) → fetch_step a ≡ known → Steps a known bytes b
    still_by known is = subst (λ (x : Step). Steps a x bytes b) (next ∙ is) steps

    still_needs : (known : Step) → fetch_step a ≡ known → of_fetch_step step ≡ of_fetch_step known
    still_needs known is = ap of_fetch_step (next ∙ is)

    fetch_still : (need : Need) → IsNeeded need (Fetch a) → (of_fetch_step step ≡ Needs need) × (Fetch b ≡ Fetch a)
    fetch_still (NeedOf.Have at) needed = (still_needs (AskHave at) needed, ap Fetch (still_by (AskHave at) needed))
    fetch_still NeedOf.Ready needed = (still_needs AskReady needed, ap Fetch (still_by AskReady needed))
    fetch_still NeedOf.Boundary needed = (still_needs AskBoundary needed, ap Fetch (still_by AskBoundary needed))
    fetch_still NeedOf.Pack needed = (still_needs AskPack needed, ap Fetch (still_by AskPack needed))
    fetch_still (NeedOf.Want at) needed = absurd needed
    fetch_still (NeedOf.WantRef at) needed = absurd needed
    fetch_still NeedOf.Reference needed = absurd needed
    fetch_still (NeedOf.Size at) needed = absurd needed

    pub fetch_waits : (old : HostAnswer A) (r : AnswerStep) → old ≡ Fetch a → r ≡ of_fetch_step step → WaitsStill old r (Fetch b)
    fetch_waits old r was is =
        subst (λ (o : HostAnswer A). WaitsStill o r (Fetch b)) (sym was)
        (subst (λ (x : AnswerStep). WaitsStill (Fetch a) x (Fetch b)) (sym is) fetch_still)

  module _ (a b : SizesAnswer A) (step : SizesStep) (asks : AsksStill a step b) where
    sizes_still : (need : Need) → IsNeeded need (Sizes a) → (of_sizes_step step ≡ Needs need) × (Sizes b ≡ Sizes a)
    sizes_still (NeedOf.Size at) needed = (ap of_sizes_step (asks at needed).0, ap Sizes (asks at needed).1)
    sizes_still (NeedOf.Have at) needed = absurd needed
    sizes_still NeedOf.Ready needed = absurd needed
    sizes_still NeedOf.Boundary needed = absurd needed
    sizes_still NeedOf.Pack needed = absurd needed
    sizes_still (NeedOf.Want at) needed = absurd needed
    sizes_still (NeedOf.WantRef at) needed = absurd needed
    sizes_still NeedOf.Reference needed = absurd needed

    pub sizes_wait : (old : HostAnswer A) (r : AnswerStep) → old ≡ Sizes a → r ≡ of_sizes_step step → WaitsStill old r (Sizes b)
    sizes_wait old r was is =
        subst (λ (o : HostAnswer A). WaitsStill o r (Sizes b)) (sym was)
        (subst (λ (x : AnswerStep). WaitsStill (Sizes a) x (Sizes b)) (sym is) sizes_still)

  references_still : (a : ReferencesAnswer A) (need : Need) → IsNeeded need (References a)
      → (Needs NeedOf.Reference ≡ Needs need) × (References a ≡ References a)
  references_still a NeedOf.Reference needed = (refl, refl)
  references_still a (NeedOf.Size at) needed = absurd needed
  references_still a (NeedOf.Have at) needed = absurd needed
  references_still a NeedOf.Ready needed = absurd needed
  references_still a NeedOf.Boundary needed = absurd needed
  references_still a NeedOf.Pack needed = absurd needed
  references_still a (NeedOf.Want at) needed = absurd needed
  references_still a (NeedOf.WantRef at) needed = absurd needed

  pub references_wait : (old : HostAnswer A) (a : ReferencesAnswer A) → old ≡ References a → WaitsStill old (Needs NeedOf.Reference) old
  references_wait old a was = subst (λ (o : HostAnswer A). WaitsStill o (Needs NeedOf.Reference) o) (sym was) (references_still a)

  pub whole_waits : (old new : HostAnswer A) (r : AnswerStep) → old ≡ AllSent → WaitsStill old r new
  whole_waits old new r was need needed =
      absurd (none_needed A need (subst (λ (o : HostAnswer A). IsNeeded need o) was needed))

  module _ (a : AdmissionMachine A) where
    abbrev need_of : AdmissionStep → Option Need
    need_of (AskWant at) = Some (NeedOf.Want at)
    need_of (AskWantRef at) = Some (NeedOf.WantRef at)
    need_of step = None

    -- the need of an admission is that of its step
    needs_that : (need : Need) → IsNeeded need (Admission a) → need_of (admission_step a) ≡ Some need
    needs_that (NeedOf.Want at) needed = ap need_of needed
    needs_that (NeedOf.WantRef at) needed = ap need_of needed
    needs_that (NeedOf.Have other) needed = absurd needed
    needs_that NeedOf.Ready needed = absurd needed
    needs_that NeedOf.Boundary needed = absurd needed
    needs_that NeedOf.Pack needed = absurd needed
    needs_that NeedOf.Reference needed = absurd needed
    needs_that (NeedOf.Size other) needed = absurd needed

    admission_still : (known : Need) → need_of (admission_step a) ≡ Some known → (need : Need) → IsNeeded need (Admission a)
        → (Needs known ≡ Needs need) × (Admission a ≡ Admission a)
    admission_still known is need needed = (let both : Some known ≡ Some need = sym is ∙ needs_that need needed in cc, refl)

    none_through : (step : AdmissionStep) → asks_wanted step ≡ false → need_of step ≡ None
    none_through (AskWant at) through = absurd (cc)
    none_through (AskWantRef at) through = absurd (cc)
    none_through step through = refl

    through_needs : (step : AdmissionStep) → admission_step a ≡ step → asks_wanted step ≡ false → (need : Need) → IsNeeded need (Admission a) → ⊥
    through_needs step is through need needed =
        let both : None ≡ Some need = sym (ap need_of is ∙ none_through step through) ∙ needs_that need needed in cc

    pub want_waits : (old : HostAnswer A) (at : ℕ) → old ≡ Admission a → admission_step a ≡ AskWant at → WaitsStill old (Needs (NeedOf.Want at)) (Admission a)
    want_waits old at was is = subst (λ (o : HostAnswer A). WaitsStill o (Needs (NeedOf.Want at)) (Admission a)) (sym was)
        (admission_still (NeedOf.Want at) (ap need_of is))

    pub want_ref_waits : (old : HostAnswer A) (at : ℕ) → old ≡ Admission a → admission_step a ≡ AskWantRef at
        → WaitsStill old (Needs (NeedOf.WantRef at)) (Admission a)
    want_ref_waits old at was is =
        subst (λ (o : HostAnswer A). WaitsStill o (Needs (NeedOf.WantRef at)) (Admission a)) (sym was)
        (admission_still (NeedOf.WantRef at) (ap need_of is))

    pub through_waits : (old new : HostAnswer A) (step : AdmissionStep) (r : AnswerStep) → old ≡ Admission a → admission_step a ≡ step
        → asks_wanted step ≡ false → WaitsStill old r new
    through_waits old new step r was is through need needed =
        absurd (through_needs step is through need (subst (λ (o : HostAnswer A). IsNeeded need o) was needed))

  -- ---- a fetch
  module _ (a b : FetchAnswer A) where
    same_asked : IsToTheSame a b → fetch_of b ≡ fetch_of a
    same_asked same = ap (λ (r : Kept (List Arg)). r.asked) same.request

    pub fetch_gives : (with : FetchFacts → FetchFacts) (bytes : List ℕ) → ((t : FetchFacts) → (with t).wanted ≡ t.wanted) → ReportsAndGives with a bytes b
        → GivesOn (on_fetch with) (Fetch a) bytes (Fetch b)
    fetch_gives with bytes keeps gives m (fetch q) (of_fetch x t) front h =
        let g = gives t front h.represents in (
          g.packet,
          g.held.spelled,
          record {
            asked = same_asked g.same ∙ h.asked;
            format_is = g.same.format ∙ h.format_is;
            bounded = subst (IsWithinLimit m.limit) (sym g.same.request) h.bounded;
            admitted = subst (λ (ids : List ObjectName). IsAdmitted m.format q x ids) (sym (keeps t)) h.admitted;
            represents = g.holds;
          },
        )
    fetch_gives with bytes keeps gives m (fetch q) (of_references t) front h = absurd h
    fetch_gives with bytes keeps gives m (fetch q) (of_sizes t) front h = absurd h
    fetch_gives with bytes keeps gives m (ls_refs q) f front h = absurd h
    fetch_gives with bytes keeps gives m (object_info q) f front h = absurd h

    pub fetch_goes : (with : FetchFacts → FetchFacts) → ((t : FetchFacts) → (with t).wanted ≡ t.wanted) → ReportsAlone with a b
        → GoesOn (on_fetch with) (Fetch a) (Fetch b)
    fetch_goes with keeps goes m (fetch q) (of_fetch x t) front h =
        let (same, holds) = goes t front h.represents in
        record {
          asked = same_asked same ∙ h.asked;
          format_is = same.format ∙ h.format_is;
          bounded = subst (IsWithinLimit m.limit) (sym same.request) h.bounded;
          admitted = subst (λ (ids : List ObjectName). IsAdmitted m.format q x ids) (sym (keeps t)) h.admitted;
          represents = holds;
        }
    fetch_goes with keeps goes m (fetch q) (of_references t) front h = absurd h
    fetch_goes with keeps goes m (fetch q) (of_sizes t) front h = absurd h
    fetch_goes with keeps goes m (ls_refs q) f front h = absurd h
    fetch_goes with keeps goes m (object_info q) f front h = absurd h

    -- nothing changed
    fetch_same : b ≡ a → GoesOn (λ f. f) (Fetch a) (Fetch b)
    fetch_same same m q f front h = subst (λ (x : FetchAnswer A). IsAnswering m (Fetch x) q f front) (sym same) h

    packet_by : (report : Report) (with : FetchFacts → FetchFacts) (bytes : List ℕ) (asked : Bool) → (IsAskedFor report (Fetch a) → asked ≡ true)
        → (ReportsAndGives with a bytes b → GivesOn (with_report report) (Fetch a) bytes (Fetch b)) → (asked ≡ true → EndsAs report (Fetch b))
        → WhereAsked asked (ReportsAndGives with a bytes b) a b → ReportsBy report (Fetch a) (packet_where asked) bytes (Fetch b)
    packet_by report with bytes true asks gives ends done = (gives done, ends refl)
    packet_by report with bytes false asks gives ends same = (ap Fetch same, λ is_wanted. absurd (let is = asks is_wanted in cc))

    taken_by : (report : Report) (with : FetchFacts → FetchFacts) (bytes : List ℕ) (asked : Bool) → (IsAskedFor report (Fetch a) → asked ≡ true)
        → (ReportsAlone with a b → GoesOn (with_report report) (Fetch a) (Fetch b)) → IsTaken report (Fetch b)
        → WhereAsked asked (ReportsAlone with a b) a b → ReportsBy report (Fetch a) (taken_where asked) bytes (Fetch b)
    taken_by report with bytes true asks goes taken done = (goes done, taken)
    taken_by report with bytes false asks goes taken same = (ap Fetch same, λ is_wanted. absurd (let is = asks is_wanted in cc))

    -- a report for which a packet is sent, if it was asked for
    pub fetch_packet : (old : HostAnswer A) (report : Report) (with : FetchFacts → FetchFacts) (r : HostReported) (bytes : List ℕ) (asked : Bool)
        → old ≡ Fetch a → r ≡ packet_where asked → (IsAskedFor report (Fetch a) → asked ≡ true)
        → (ReportsAndGives with a bytes b → GivesOn (with_report report) (Fetch a) bytes (Fetch b)) → (asked ≡ true → EndsAs report (Fetch b))
        → WhereAsked asked (ReportsAndGives with a bytes b) a b → ReportsBy report old r bytes (Fetch b)
    fetch_packet old report with r bytes asked was is asks gives ends done =
        subst (λ (o : HostAnswer A). ReportsBy report o r bytes (Fetch b)) (sym was)
        (subst (λ (x : HostReported). ReportsBy report (Fetch a) x bytes (Fetch b)) (sym is) (packet_by report with bytes asked asks gives ends done))

    -- and one for which none is sent
    pub fetch_taken : (old : HostAnswer A) (report : Report) (with : FetchFacts → FetchFacts) (r : HostReported) (bytes : List ℕ) (asked : Bool)
        → old ≡ Fetch a → r ≡ taken_where asked → (IsAskedFor report (Fetch a) → asked ≡ true)
        → (ReportsAlone with a b → GoesOn (with_report report) (Fetch a) (Fetch b)) → IsTaken report (Fetch b)
        → WhereAsked asked (ReportsAlone with a b) a b → ReportsBy report old r bytes (Fetch b)
    fetch_taken old report with r bytes asked was is asks goes taken done =
        subst (λ (o : HostAnswer A). ReportsBy report o r bytes (Fetch b)) (sym was)
        (subst (λ (x : HostReported). ReportsBy report (Fetch a) x bytes (Fetch b)) (sym is) (taken_by report with bytes asked asks goes taken done))

    line_by : (line : Boundary) (reported : BoundaryReported) (bytes : List ℕ) → is_line_asked reported ≡ is_boundary (fetch_step a)
        → ReportsLine line reported a bytes b → ReportsBy (LineOf line) (Fetch a) (line_as reported) bytes (Fetch b)
    line_by line Line.Packet bytes is done = (fetch_gives (with_line line) bytes (λ t. refl) done, tt)
    line_by line Line.NotAsked bytes is same = (ap Fetch same, λ is_wanted. absurd (cc))
    line_by line Line.MixedFormats bytes is done = (ap Fetch done.0, done.1)
    line_by line Line.NotShallow bytes is done = (ap Fetch done.0, done.1)

    -- a line of the boundary
    pub fetch_line : (old : HostAnswer A) (line : Boundary) (reported : BoundaryReported) (r : HostReported) (bytes : List ℕ) → old ≡ Fetch a
        → r ≡ line_as reported → is_line_asked reported ≡ is_boundary (fetch_step a) → ReportsLine line reported a bytes b
        → ReportsBy (LineOf line) old r bytes (Fetch b)
    fetch_line old line reported r bytes was is asked done =
        subst (λ (o : HostAnswer A). ReportsBy (LineOf line) o r bytes (Fetch b)) (sym was)
        (subst (λ (x : HostReported). ReportsBy (LineOf line) (Fetch a) x bytes (Fetch b)) (sym is) (line_by line reported bytes asked done))

    progress_by : (text : Bor (List ℕ)) (reported : ProgressReported) (bytes : List ℕ) → is_progress_asked reported ≡ is_pack (fetch_step a)
        → ReportsProgress (part_of text.now) reported a bytes b → ReportsBy (ProgressOf text) (Fetch a) (progress_as reported) bytes (Fetch b)
    progress_by text Progressed.Packet bytes is done = (fetch_gives (with_progress (part_of text.now)) bytes (λ t. refl) done, tt)
    progress_by text Progressed.NotAsked bytes is same = (ap Fetch same, λ is_wanted. absurd (cc))
    progress_by text Progressed.Hidden bytes is done = (fetch_same done.0, done.1)

    -- progress
    pub fetch_progress : (old : HostAnswer A) (text : Bor (List ℕ)) (reported : ProgressReported) (r : HostReported) (bytes : List ℕ) → old ≡ Fetch a
        → r ≡ progress_as reported → is_progress_asked reported ≡ is_pack (fetch_step a) → ReportsProgress (part_of text.now) reported a bytes b
        → ReportsBy (ProgressOf text) old r bytes (Fetch b)
    fetch_progress old text reported r bytes was is asked done =
        subst (λ (o : HostAnswer A). ReportsBy (ProgressOf text) o r bytes (Fetch b)) (sym was)
        (subst (λ (x : HostReported). ReportsBy (ProgressOf text) (Fetch a) x bytes (Fetch b)) (sym is) (progress_by text reported bytes asked done))

    boundary_ends : (end : BoundaryEnd) (bytes : List ℕ) → is_asked end ≡ is_boundary (fetch_step a) → EndsBoundary end a bytes b
        → ReportsBy EndsIt (Fetch a) (ended_as end) bytes (Fetch b)
    boundary_ends EndNotAsked bytes is same = (ap Fetch same, λ is_wanted. absurd (cc))
    boundary_ends Absent bytes is done = (fetch_goes with_boundary_end (λ t. refl) done.0, done.1)
    boundary_ends DelimGiven bytes is gives = (fetch_gives with_boundary_end bytes (λ t. refl) gives, tt)

    pub fetch_boundary : (old : HostAnswer A) (end : BoundaryEnd) (r : HostReported) (bytes : List ℕ) → old ≡ Fetch a → r ≡ ended_as end
        → is_asked end ≡ is_boundary (fetch_step a) → EndsBoundary end a bytes b → ReportsBy EndsIt old r bytes (Fetch b)
    fetch_boundary old end r bytes was is asked done =
        subst (λ (o : HostAnswer A). ReportsBy EndsIt o r bytes (Fetch b)) (sym was)
        (subst (λ (x : HostReported). ReportsBy EndsIt (Fetch a) x bytes (Fetch b)) (sym is) (boundary_ends end bytes asked done))

    fetch_given : (manner : Manner)
        → ((t : FetchFacts) (given : List Pkt) → Represents t given a → IsSoundFetchAnswer manner (fetch_format a) (fetch_of a) t given)
        → IsGiven manner (Fetch a)
    fetch_given manner given m (fetch q) (of_fetch x t) front h =
        fetch_by manner m.format q x t front h.admitted
        (subst (λ (asked : List Arg). IsSoundFetchAnswer manner m.format asked t front) h.asked
        (subst (λ (format : Format). IsSoundFetchAnswer manner format (fetch_of a) t front) h.format_is (given t front h.represents)))
    fetch_given manner given m (fetch q) (of_references t) front h = absurd h
    fetch_given manner given m (fetch q) (of_sizes t) front h = absurd h
    fetch_given manner given m (ls_refs q) f front h = absurd h
    fetch_given manner given m (object_info q) f front h = absurd h

    -- the next step of a fetch
    pub fetch_steps : (step : Step) (bytes : List ℕ) → step ≡ fetch_step a → Steps a step bytes b
        → StepsAnswer (Fetch a) (of_fetch_step step) bytes (Fetch b)
    fetch_steps FetchPacket bytes is gives = gives_same (Fetch a) (Fetch b) bytes (fetch_gives (λ t. t) bytes (λ t. refl) gives)
    fetch_steps FetchWhole bytes is steps = fetch_given whole steps.1
    fetch_steps FetchBroken bytes is steps = fetch_given broken steps.1
    fetch_steps (AskHave at) bytes is same = (fetch_same same, ap fetch_step same ∙ sym is)
    fetch_steps AskReady bytes is same = (fetch_same same, ap fetch_step same ∙ sym is)
    fetch_steps AskBoundary bytes is same = (fetch_same same, ap fetch_step same ∙ sym is)
    fetch_steps AskPack bytes is same = (fetch_same same, ap fetch_step same ∙ sym is)

    pub fetch_stepped : (old : HostAnswer A) (step : Step) (r : AnswerStep) (bytes : List ℕ) → old ≡ Fetch a → r ≡ of_fetch_step step → step ≡ fetch_step a
        → Steps a step bytes b → StepsAnswer old r bytes (Fetch b)
    fetch_stepped old step r bytes was is is_wanted steps =
        subst (λ (o : HostAnswer A). StepsAnswer o r bytes (Fetch b)) (sym was)
        (subst (λ (x : AnswerStep). StepsAnswer (Fetch a) x bytes (Fetch b)) (sym is) (fetch_steps step bytes is_wanted steps))

  -- ---- references
  module _ (a b : ReferencesAnswer A) where
    listing_bounded : (m : Terms) → KeepsAs a.listing b → IsWithinLimit m.limit a.listing → IsWithinLimit m.limit b.listing
    listing_bounded m keeps h = record {
      covered = omega (arith, keeps.kept, keeps.stored, h.covered);
      within = omega (arith, keeps.kept, h.within);
    }

    references_give : (with : ReferencesFacts → ReferencesFacts) (bytes : List ℕ) → IsToTheSameRefs a b → ReportsOn with a bytes b
        → GivesOn (on_references with) (References a) bytes (References b)
    references_give with bytes same gives m (ls_refs q) (of_references t) front h =
        let (packet, held, holds) = gives q t front h.represents in
        (packet, held.spelled, record { format_is = same.format ∙ h.format_is; bounded = listing_bounded m same.keeps h.bounded; represents = holds })
    references_give with bytes same gives m (ls_refs q) (of_fetch x t) front h = absurd h
    references_give with bytes same gives m (ls_refs q) (of_sizes t) front h = absurd h
    references_give with bytes same gives m (fetch q) f front h = absurd h
    references_give with bytes same gives m (object_info q) f front h = absurd h

    references_go : (with : ReferencesFacts → ReferencesFacts) → IsToTheSameRefs a b → ReportsHidden with a b
        → GoesOn (on_references with) (References a) (References b)
    references_go with same goes m (ls_refs q) (of_references t) front h =
        record { format_is = same.format ∙ h.format_is; bounded = listing_bounded m same.keeps h.bounded; represents = goes q t front h.represents }
    references_go with same goes m (ls_refs q) (of_fetch x t) front h = absurd h
    references_go with same goes m (ls_refs q) (of_sizes t) front h = absurd h
    references_go with same goes m (fetch q) f front h = absurd h
    references_go with same goes m (object_info q) f front h = absurd h

    reference_by : (entry : Entry) (reported : Reported) (bytes : List ℕ) → Reports entry a reported bytes b
        → ReportsBy (Reference entry) (References a) (reported_as reported) bytes (References b)
    reference_by entry ReferencePacket bytes done = (references_give (with_ref entry) bytes done.0 done.1, tt)
    reference_by entry ReferenceHidden bytes done = (references_go (with_ref entry) done.0 done.1, tt)
    reference_by entry ReferenceNotAsked bytes done = (ap References done.0, λ is_wanted. is_wanted done.1)
    reference_by entry ReferenceUnsorted bytes done = (ap References done.0, done.1)
    reference_by entry ReferenceMixed bytes done = (ap References done.0, done.1)
    reference_by entry ReferenceTwice bytes done = (ap References done.0, done.1)

    pub reference_reported : (old : HostAnswer A) (entry : Entry) (reported : Reported) (r : HostReported) (bytes : List ℕ) → old ≡ References a
        → r ≡ reported_as reported → Reports entry a reported bytes b → ReportsBy (Reference entry) old r bytes (References b)
    reference_reported old entry reported r bytes was is done =
        subst (λ (o : HostAnswer A). ReportsBy (Reference entry) o r bytes (References b)) (sym was)
        (subst (λ (x : HostReported). ReportsBy (Reference entry) (References a) x bytes (References b)) (sym is) (reference_by entry reported bytes done))

    unborn_by : (target : RefName) (reported : Reported) (bytes : List ℕ) → ReportsUnborn (name_bytes target) a reported bytes b
        → ReportsBy (Unborn target) (References a) (reported_as reported) bytes (References b)
    unborn_by target ReferencePacket bytes done = (references_give (with_unborn (name_bytes target)) bytes done.0 done.1, tt)
    unborn_by target ReferenceHidden bytes done = (references_go (with_unborn (name_bytes target)) done.0 done.1, tt)
    unborn_by target ReferenceNotAsked bytes done = (ap References done.0, λ is_wanted. is_wanted done.1)
    unborn_by target ReferenceUnsorted bytes done = absurd done
    unborn_by target ReferenceMixed bytes done = absurd done
    unborn_by target ReferenceTwice bytes done = absurd done

    pub unborn_reported : (old : HostAnswer A) (target : RefName) (reported : Reported) (r : HostReported) (bytes : List ℕ) → old ≡ References a
        → r ≡ reported_as reported → ReportsUnborn (name_bytes target) a reported bytes b → ReportsBy (Unborn target) old r bytes (References b)
    unborn_reported old target reported r bytes was is done =
        subst (λ (o : HostAnswer A). ReportsBy (Unborn target) o r bytes (References b)) (sym was)
        (subst (λ (x : HostReported). ReportsBy (Unborn target) (References a) x bytes (References b)) (sym is) (unborn_by target reported bytes done))

  -- ---- sizes
  module _ (a b : SizesAnswer A) where
    sizes_give : (with : List (Option ℕ) → List (Option ℕ)) (bytes : List ℕ) → GivesSize with a bytes b
        → GivesOn (on_sizes with) (Sizes a) bytes (Sizes b)
    sizes_give with bytes gives m (object_info q) (of_sizes sizes) front h =
        let (packet, held, holds) = gives.gives sizes front h.represents in (
          packet,
          held.spelled,
          record {
            asked = ap (λ (r : Kept (List Arg)). r.asked) gives.same ∙ h.asked;
            bounded = subst (IsWithinLimit m.limit) (sym gives.same) h.bounded;
            represents = holds;
          },
        )
    sizes_give with bytes gives m (object_info q) (of_fetch x t) front h = absurd h
    sizes_give with bytes gives m (object_info q) (of_references t) front h = absurd h
    sizes_give with bytes gives m (fetch q) f front h = absurd h
    sizes_give with bytes gives m (ls_refs q) f front h = absurd h

    sizes_same : b ≡ a → GoesOn (λ f. f) (Sizes a) (Sizes b)
    sizes_same same m q f front h = subst (λ (x : SizesAnswer A). IsAnswering m (Sizes x) q f front) (sym same) h

    same_sizes : (f : Facts) → on_sizes (λ sizes. sizes) f ≡ f
    same_sizes (of_fetch x t) = refl
    same_sizes (of_references t) = refl
    same_sizes (of_sizes sizes) = refl

    sizes_whole : ((sizes : List (Option ℕ)) (given : List Pkt) → RepresentsSizes sizes given a → IsSizesAnswerOf a.request.asked sizes given)
        → IsGiven whole (Sizes a)
    sizes_whole given m (object_info q) (of_sizes sizes) front h =
        subst (λ (asked : List Arg). IsSizesAnswerOf asked sizes front) h.asked (given sizes front h.represents)
    sizes_whole given m (object_info q) (of_fetch x t) front h = absurd h
    sizes_whole given m (object_info q) (of_references t) front h = absurd h
    sizes_whole given m (fetch q) f front h = absurd h
    sizes_whole given m (ls_refs q) f front h = absurd h

    pub sizes_steps : (step : SizesStep) (bytes : List ℕ) → StepsSizes a step bytes b → StepsAnswer (Sizes a) (of_sizes_step step) bytes (Sizes b)
    sizes_steps SizesPacket bytes gives =
        λ m q f front h.
        let (packet, held, is) = sizes_give (λ sizes. sizes) bytes gives m q f front h in
        (packet, held, subst (λ (x : Facts). IsAnswering m (Sizes b) q x (front ++ packet ∷ [])) (same_sizes f) is)
    sizes_steps (AskSize at) bytes done = (sizes_same done.0, subst (λ (x : SizesAnswer A). IsAsking x at) (sym done.0) done.1)
    sizes_steps SizesWhole bytes done = sizes_whole done.1

    pub sizes_stepped : (old : HostAnswer A) (step : SizesStep) (r : AnswerStep) (bytes : List ℕ) → old ≡ Sizes a → r ≡ of_sizes_step step
        → StepsSizes a step bytes b → StepsAnswer old r bytes (Sizes b)
    sizes_stepped old step r bytes was is steps =
        subst (λ (o : HostAnswer A). StepsAnswer o r bytes (Sizes b)) (sym was)
        (subst (λ (x : AnswerStep). StepsAnswer (Sizes a) x bytes (Sizes b)) (sym is) (sizes_steps step bytes steps))

  -- ---- an admission
  module _ (a b : AdmissionMachine A) where
    want_goes : (has : Bool) → AdmissionReports (with_want has) a b → GoesOn (on_wants has) (Admission a) (Admission b)
    want_goes has done m (fetch q) (of_fetch x t) front h =
        record {
          asked = ap (λ (r : Kept (List Arg)). r.asked) done.request ∙ h.asked;
          format_is = done.format ∙ h.format_is;
          bounded = subst (IsWithinLimit m.limit) (sym done.request) h.bounded;
          represents = done.represents x h.represents;
          facts = h.facts;
          none = h.none;
        }
    want_goes has done m (fetch q) (of_references t) front h = absurd h
    want_goes has done m (fetch q) (of_sizes t) front h = absurd h
    want_goes has done m (ls_refs q) f front h = absurd h
    want_goes has done m (object_info q) f front h = absurd h

    want_ref_goes : (id : Option ObjectName) → AdmissionReports (with_found id) a b → GoesOn (on_want_refs id) (Admission a) (Admission b)
    want_ref_goes (Some id) done m (fetch q) (of_fetch x t) front h =
        record {
          asked = ap (λ (r : Kept (List Arg)). r.asked) done.request ∙ h.asked;
          format_is = done.format ∙ h.format_is;
          bounded = subst (IsWithinLimit m.limit) (sym done.request) h.bounded;
          represents = done.represents x h.represents;
          facts = ap (λ (s : FetchFacts). record s { wanted = s.wanted ++ id ∷ [] }) h.facts ∙ ap no_facts (sym (found_more x.found id));
          none = h.none;
        }
    want_ref_goes None done m (fetch q) (of_fetch x t) front h =
        record {
          asked = ap (λ (r : Kept (List Arg)). r.asked) done.request ∙ h.asked;
          format_is = done.format ∙ h.format_is;
          bounded = subst (IsWithinLimit m.limit) (sym done.request) h.bounded;
          represents = done.represents x h.represents;
          facts = h.facts ∙ ap no_facts (sym (found_less x.found));
          none = h.none;
        }
    want_ref_goes id done m (fetch q) (of_references t) front h = absurd h
    want_ref_goes id done m (fetch q) (of_sizes t) front h = absurd h
    want_ref_goes id done m (ls_refs q) f front h = absurd h
    want_ref_goes id done m (object_info q) f front h = absurd h

    want_by : (has asked : Bool) (bytes : List ℕ) → ReportsWant has a asked b
        → ReportsBy (Want has) (Admission a) (taken_where asked) bytes (Admission b)
    want_by has true bytes done = (want_goes has done.1, tt)
    want_by has false bytes done = (ap Admission done.1, λ is_wanted. absurd (let unasked = done.0 in cc))

    pub want_reported : (old : HostAnswer A) (has asked : Bool) (r : HostReported) (bytes : List ℕ) → old ≡ Admission a → r ≡ taken_where asked
        → ReportsWant has a asked b → ReportsBy (Want has) old r bytes (Admission b)
    want_reported old has asked r bytes was is done =
        subst (λ (o : HostAnswer A). ReportsBy (Want has) o r bytes (Admission b)) (sym was)
        (subst (λ (x : HostReported). ReportsBy (Want has) (Admission a) x bytes (Admission b)) (sym is) (want_by has asked bytes done))

    -- what came of the report of a wanted reference
    pub ref_taken : {E : Type 0} (old : HostAnswer A) (id : Option ObjectName) (bytes : List ℕ) (r : Result WantRefReported E) → old ≡ Admission a
        → r ≡ Ok RefTaken → ReportsWantRef id a r b → ReportsBy (WantRef id) old Taken bytes (Admission b)
    ref_taken {E = E} old id bytes r was is done =
        let taken : ReportsWantRef {E = E} id a (Ok RefTaken) b = subst (λ (x : Result WantRefReported E). ReportsWantRef id a x b) is done in
        subst (λ (o : HostAnswer A). ReportsBy (WantRef id) o Taken bytes (Admission b)) (sym was) (want_ref_goes id taken.1, tt)

    -- memory for it ran out
    pub ref_lacks : {E : Type 0} (old : HostAnswer A) (id : Option ObjectName) (bytes : List ℕ) (r : Result WantRefReported E) (e : E)
        → old ≡ Admission a → r ≡ Err e → ReportsWantRef id a r b → ReportsBy (WantRef id) old OutOfMemory bytes (Admission b)
    ref_lacks {E = E} old id bytes r e was is done =
        let refused : ReportsWantRef {E = E} id a (Err e) b = subst (λ (x : Result WantRefReported E). ReportsWantRef id a x b) is done in
        subst (λ (o : HostAnswer A). ReportsBy (WantRef id) o OutOfMemory bytes (Admission b)) (sym was) (refused.1, refused.0)

    -- or its object is of another format, or it was not asked for
    pub ref_mixed : {E : Type 0} (old : HostAnswer A) (id : Option ObjectName) (bytes : List ℕ) (r : Result WantRefReported E) → old ≡ Admission a
        → r ≡ Ok RefMixed → ReportsWantRef id a r b → ReportsBy (WantRef id) old MixedFormats bytes (Admission b)
    ref_mixed {E = E} old id bytes r was is done =
        let refused : ReportsWantRef {E = E} id a (Ok RefMixed) b = subst (λ (x : Result WantRefReported E). ReportsWantRef id a x b) is done in
        subst (λ (o : HostAnswer A). ReportsBy (WantRef id) o MixedFormats bytes (Admission b)) (sym was) (ap Admission refused.0, refused.1)

    pub ref_unasked : {E : Type 0} (old : HostAnswer A) (id : Option ObjectName) (bytes : List ℕ) (r : Result WantRefReported E) → old ≡ Admission a
        → r ≡ Ok RefUnasked → ReportsWantRef id a r b → ReportsBy (WantRef id) old NotAsked bytes (Admission b)
    ref_unasked {E = E} old id bytes r was is done =
        let refused : ReportsWantRef {E = E} id a (Ok RefUnasked) b = subst (λ (x : Result WantRefReported E). ReportsWantRef id a x b) is done in
        subst (λ (o : HostAnswer A). ReportsBy (WantRef id) o NotAsked bytes (Admission b)) (sym was)
        (ap Admission refused.1, λ is_wanted. absurd (let unasked = refused.0 in cc))

    -- what is left of an admission goes on
    same_goes : IsSame a b → GoesOn (λ f. f) (Admission a) (Admission b)
    same_goes same m (fetch q) (of_fetch x t) front h =
        record {
          asked = ap (λ (r : Kept (List Arg)). r.asked) same.request ∙ h.asked;
          format_is = same.format ∙ h.format_is;
          bounded = subst (IsWithinLimit m.limit) (sym same.request) h.bounded;
          represents = subst (λ (r : Kept (List Arg)). StandsAtStep b.step b.format r.asked x b.wanted.items) (sym same.request)
              (subst (λ (ids : List ObjectName). StandsAtStep b.step b.format a.request.asked x ids) (sym same.wanted)
              (subst (λ (format : Format). StandsAtStep b.step format a.request.asked x a.wanted.items) (sym same.format)
              (subst (λ (step : AdmissionStep). StandsAtStep step a.format a.request.asked x a.wanted.items) (sym same.step) h.represents)));
          facts = h.facts;
          none = h.none;
        }
    same_goes same m (fetch q) (of_references t) front h = absurd h
    same_goes same m (fetch q) (of_sizes t) front h = absurd h
    same_goes same m (ls_refs q) f front h = absurd h
    same_goes same m (object_info q) f front h = absurd h

  -- a report that was refused leaves the answer
  pub goes_as_it_was : (old new : HostAnswer A) → new ≡ old → GoesOn (λ f. f) old new
  goes_as_it_was old new same m q f front h = subst (λ (x : HostAnswer A). IsAnswering m x q f front) (sym same) h

  pub lacks_and_goes : (old new : HostAnswer A) → LeavesAnswer OutOfMemory old new → GoesOn (λ f. f) old new
  lacks_and_goes (Admission a) (Admission b) left = same_goes a b left
  lacks_and_goes (Admission a) (Fetch b) left = absurd left
  lacks_and_goes (Admission a) (References b) left = absurd left
  lacks_and_goes (Admission a) (Sizes b) left = absurd left
  lacks_and_goes (Admission a) AllSent left = absurd left
  lacks_and_goes (Fetch a) new left = absurd left
  lacks_and_goes (References a) new left = absurd left
  lacks_and_goes (Sizes a) new left = absurd left
  lacks_and_goes AllSent new left = absurd left

  -- an admission that is through becomes the answer
  pub admitted_goes : (a : AdmissionMachine A) (answer : FetchAnswer A) → BecomesAnswer a answer → GoesOn (λ f. f) (Admission a) (Fetch answer)
  admitted_goes a answer done m (fetch q) (of_fetch x t) front h =
      let through = done.admitted x h.represents in
      let ids = a.wanted.items in
      let is : t ≡ no_facts ids = h.facts ∙ ap no_facts (ap found_ids through.found ∙ all_found ids) in
      record {
        asked = ap (λ (r : Kept (List Arg)). r.asked) done.request ∙ h.asked;
        format_is = done.format ∙ h.format_is;
        bounded = subst (IsWithinLimit m.limit) (sym done.request) h.bounded;
        admitted = subst (λ (s : FetchFacts). IsAdmitted m.format q x s.wanted) (sym is)
            (subst (λ (format : Format). IsAdmitted format q x ids) h.format_is
            (subst (λ (r : List Arg). IsAdmitted a.format r x ids) h.asked through));
        represents = subst (λ (s : FetchFacts). Represents s front answer) (sym is)
            (subst (λ (l : List Pkt). Represents (no_facts ids) l answer) (sym h.none) (done.represents x h.represents));
      }
  admitted_goes a answer done m (fetch q) (of_references t) front h = absurd h
  admitted_goes a answer done m (fetch q) (of_sizes t) front h = absurd h
  admitted_goes a answer done m (ls_refs q) f front h = absurd h
  admitted_goes a answer done m (object_info q) f front h = absurd h

  pub admitted_by : (a : AdmissionMachine A) (answer : FetchAnswer A) (r : Result (FetchAnswer A) (AdmissionMachine A)) (old : HostAnswer A)
      → old ≡ Admission a → r ≡ Ok answer → Becomes a r → GoesOn (λ f. f) old (Fetch answer)
  admitted_by a answer r old was is done =
      let through : Becomes a (Ok answer) = subst (λ (x : Result (FetchAnswer A) (AdmissionMachine A)). Becomes a x) is done in
      subst (λ (o : HostAnswer A). GoesOn (λ f. f) o (Fetch answer)) (sym was) (admitted_goes a answer through.1)
