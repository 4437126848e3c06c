-- One reply more of a store that answers as a repository does: what was reported for the request at hand goes on as the repository answers.
use Rattle.std.proofs.Common.{arith, ◌≡◌, ℕ, ◌+◌, ◌≤◌, Bool, true, false, List, [], ◌∷◌, ◌++◌, length, map, Option, Some, None, slice_get}
use Rattle.std.proofs.Common.{refl, sym, ap, ◌∙◌, append-nil, length-append, subst, inl, inr}
use Rattle.std.specs.Option.{ForSome, option_map}
use Rattle.std.proofs.lemmas.Option.{slice_get-map, slice_get_cases}
use Rattle.git_names.specs.ObjectName.{ObjectName}
use Rattle.git_msg.specs.declared.Boundary.{Boundary}
use Rattle.git_msg.specs.Arguments.{Arg}
use Rattle.git_msg.specs.Asked.{Asked, fetch, ls_refs, object_info, haves_in, oids_in, want_refs_in, wants_in}
use Rattle.git_server.specs.Repository.{Entry, IsRising, Repository, found_ref}
use Rattle.git_server.proofs.FoundReference.{found_is}
use Rattle.git_host.specs.Admissions.{AdmissionFacts}
use Rattle.git_host.specs.FetchFacts.{FetchFacts}
use Rattle.git_host.specs.HostAnswers.{with_hidden, with_report, with_reported}
use Rattle.git_host.specs.HostSessions.{Facts, IsFront, nothing_for, of_fetch, of_references, of_sizes}
use Rattle.git_store.specs.Questions.{IsReportOf, Question, Reply, ask_boundary, ask_have, ask_pack, ask_reference, ask_size, ask_want, ask_want_ref, entry}
use Rattle.git_store.specs.Questions.{failed, found, has, line, pack_end, part, progress, ready, references_end, size_is, unborn}
use Rattle.git_host.specs.ReferencesPlaces.{ReferencesFacts}
use Rattle.git_store.specs.RepoReplies.{IsNamed, IsReplyOf, named_after, place_after}
use Rattle.git_store.specs.StoreMoves.{is_taken}
use Rattle.git_host.specs.declared.fetch_answer.Place.TheVariants.{Have}
use Rattle.git_host.specs.declared.report.HostReported.{HostReported}
use Rattle.git_host.specs.declared.report.HostReported.TheVariants.{Packet, Taken, Hidden, NotAsked, MixedFormats, Unsorted, HeadTwice, NotShallow, OutOfMemory}
use Rattle.git_host.specs.declared.report.Need.TheVariants.{Want as NeedWant, WantRef as NeedWantRef, Have as NeedHave, Ready as NeedReady}
use Rattle.git_host.specs.declared.report.Need.TheVariants.{Boundary as NeedBoundary, Pack as NeedPack, Reference as NeedReference, Size as NeedSize}
use Rattle.git_host.specs.declared.report.Report.{Report}
use Rattle.git_host.specs.declared.report.Report.TheVariants.{Want, WantRef, Have, Ready, Boundary as BoundaryLine, BoundaryEnd, Pack, PackEnd}
use Rattle.git_host.specs.declared.report.Report.TheVariants.{Reference, Unborn, ReferencesEnd, Size}

-- ---- fronts of a list

pub front_more : {X : Type 0} (xs all : List X) (x : X) → IsFront xs all → slice_get all (length xs) ≡ Some x → IsFront (xs ++ x ∷ []) all
front_more [] [] x (more, is) here = absurd (cc)
front_more [] (y ∷ ys) x (more, is) here = (ys, let same : y ≡ x = cc in ap (λ z. z ∷ ys) same)
front_more (z ∷ zs) [] x (more, is) here = absurd (cc)
front_more (z ∷ zs) (y ∷ ys) x (more, is) here =
    let head : y ≡ z = cc in
    let tail : ys ≡ zs ++ more = cc in
    let (rest, e) = front_more zs ys x (more, tail) here in
    (rest, ap (λ w. w ∷ ys) head ∙ ap (λ l. z ∷ l) e)

none_left : {X : Type 0} (xs : List X) → length xs ≤ 0 → xs ≡ []
none_left [] few = refl
none_left (x ∷ xs) few = absurd (omega (arith, few))

-- a front that is as long is all
pub front_all : {X : Type 0} (xs all : List X) → IsFront xs all → length all ≤ length xs → xs ≡ all
front_all {X = X} xs all (more, is) most =
    let none = none_left more (omega (arith, most, ap length is, length-append xs more)) in
    sym (append-nil xs) ∙ ap (λ (l : List X). xs ++ l) (sym none) ∙ sym is

mapped : {X Y : Type 0} (f : X → Y) (xs : List X) (at : ℕ) (x : X) → slice_get xs at ≡ Some x → slice_get (map f xs) at ≡ Some (f x)
mapped f xs at x here = slice_get-map f xs at ∙ ap (option_map f) here

past_all : {X : Type 0} (xs : List X) (at : ℕ) → None ≡ slice_get xs at → length xs ≤ at
past_all xs at none = elim (slice_get_cases xs at).1 [
  | inl (x, within, here, same) ↦ absurd (let both : None ≡ Some x = none ∙ here in cc)
  | inr (most, is) ↦ most
]

-- ---- a repository with other packs

named_as_well : (repo : Repository) (pack : List Arg → List ℕ) (named : Bool) → IsNamed repo named → IsNamed (record repo { pack = pack }) named
named_as_well repo pack true is = tt
named_as_well repo pack false is = is

-- no reply depends on its packs
pub replies_as_well : (repo : Repository) (pack : List Arg → List ℕ) (at : ℕ) (named : Bool) (question : Question) (reply : Reply)
    → IsReplyOf repo at named question reply → IsReplyOf (record repo { pack = pack }) at named question reply
replies_as_well repo pack at named (ask_want id) (has b) is = is
replies_as_well repo pack at named (ask_want_ref name) (found id) is = is
replies_as_well repo pack at named (ask_have id) (has b) is = is
replies_as_well repo pack at named (ready q) (has b) is = is
replies_as_well repo pack at named (ask_boundary q) (line l) is = is
replies_as_well repo pack at named ask_reference (entry e) is = (named_as_well repo pack named is.0, is.1)
replies_as_well repo pack at named ask_reference (unborn target) is = is
replies_as_well repo pack at named ask_reference references_end is = (named_as_well repo pack named is.0, is.1)
replies_as_well repo pack at named ask_reference failed is = tt
replies_as_well repo pack at named (ask_pack q) (progress bytes) is = absurd is
replies_as_well repo pack at named (ask_pack q) reply is = tt
replies_as_well repo pack at named (ask_size id) (size_is size) is = is
replies_as_well repo pack at named question reply is = absurd is

-- ---- what was reported so far

-- after references that were reported, what an unborn `HEAD` points to was reported or not
abbrev pub HeadSoFar : Repository → Bool → Option (List ℕ) → Type 0
HeadSoFar repo true head = head ≡ repo.unborn_head
HeadSoFar repo false head = head ≡ None

-- after so many replies with references
pub record RefsSoFar (repo : Repository) (at : ℕ) (named : Bool) (t : ReferencesFacts) : Type 0 where
  pub front : IsFront t.refs repo.refs
  pub count : length t.refs ≡ at
  pub head : HeadSoFar repo named t.unborn
  pub all : t.ended ≡ true → (t.refs ≡ repo.refs) × (t.unborn ≡ repo.unborn_head)

-- after so many replies with lines of the boundary
pub record FetchSoFar (repo : Repository) (at : ℕ) (q : List Arg) (a : AdmissionFacts) (t : FetchFacts) : Type 0 where
  pub wants : IsFront a.wants (map repo.has (wants_in q))
  pub found : IsFront a.found (map (found_ref repo.refs) (want_refs_in q))
  pub has : IsFront t.has (map repo.has (haves_in q))
  pub lines : IsFront t.boundary (repo.boundaries q)
  pub count : length t.boundary ≡ at
  pub all : t.boundary_ended ≡ true → t.boundary ≡ repo.boundaries q
  pub ready : ForSome t.ready (λ b. b ≡ repo.is_ready q)
  pub progress : t.progress ≡ []

-- by the command
abbrev pub SoFar : Repository → ℕ → Bool → Asked → Facts → Type 0
SoFar repo at named (ls_refs q) (of_references t) = RefsSoFar repo at named t
SoFar repo at named (fetch q) (of_fetch a t) = FetchSoFar repo at q a t
SoFar repo at named (object_info q) (of_sizes sizes) = IsFront sizes (map repo.object_size (oids_in q))
SoFar repo at named q f = ⊥

pub nothing_so_far : (repo : Repository) (q : Asked) → SoFar repo 0 false q (nothing_for q)
nothing_so_far repo (ls_refs q) = record { front = (repo.refs, refl); count = refl; head = refl; all = λ is. absurd (cc) }
nothing_so_far repo (fetch q) = record {
  wants = (map repo.has (wants_in q), refl);
  found = (map (found_ref repo.refs) (want_refs_in q), refl);
  has = (map repo.has (haves_in q), refl);
  lines = (repo.boundaries q, refl);
  count = refl;
  all = λ is. absurd (cc);
  ready = λ b is. absurd (cc);
  progress = refl;
}
nothing_so_far repo (object_info q) = (map repo.object_size (oids_in q), refl)

-- ---- one report more, which was taken

by_taken : (P : Facts → Type 0) (what : HostReported) (report : Report) (f : Facts) → is_taken what ≡ true → with_hidden report f ≡ with_report report f
    → P (with_report report f) → P (with_reported what report f)
by_taken P Packet report f taken same p = p
by_taken P Taken report f taken same p = p
by_taken P Hidden report f taken same p = subst P (sym same) p
by_taken P NotAsked report f taken same p = absurd (cc)
by_taken P MixedFormats report f taken same p = absurd (cc)
by_taken P Unsorted report f taken same p = absurd (cc)
by_taken P HeadTwice report f taken same p = absurd (cc)
by_taken P NotShallow report f taken same p = absurd (cc)
by_taken P OutOfMemory report f taken same p = absurd (cc)

module _ (repo : Repository) (rising : IsRising repo.refs) (at : ℕ) (named : Bool) (what : HostReported) (taken : is_taken what ≡ true) where
  -- P holds of what was reported, with the reply
  abbrev pub Onward : Reply → Report → Asked → Facts → Type 0
  Onward reply report q f = SoFar repo (place_after reply at) (named_after reply named) q (with_reported what report f)

  module _ (q : List Arg) (a : AdmissionFacts) (t : FetchFacts) (h : FetchSoFar repo at q a t) where
    pub one_want : (next : ℕ) (id : ObjectName) → length a.wants ≡ next → slice_get (wants_in q) next ≡ Some id → (reply : Reply) (report : Report)
        → IsReplyOf repo at named (ask_want id) reply → IsReportOf (NeedWant next) reply report → Onward reply report (fetch q) (of_fetch a t)
    one_want next id count here (has b) report is reports =
        subst (λ (r : Report). Onward (has b) r (fetch q) (of_fetch a t)) (sym reports)
        (by_taken (SoFar repo at named (fetch q)) what (Want b) (of_fetch a t) taken refl (record {
          wants = front_more a.wants (map repo.has (wants_in q)) b h.wants
              (mapped repo.has (wants_in q) (length a.wants) id (ap (slice_get (wants_in q)) count ∙ here) ∙ ap Some (sym is));
          found = h.found;
          has = h.has;
          lines = h.lines;
          count = h.count;
          all = h.all;
          ready = h.ready;
          progress = h.progress;
        }))
    one_want next id count here reply report is reports = absurd is

    -- what becomes of the facts by a wanted reference that is found or not
    found_on : (id : Option ObjectName) → IsFront (a.found ++ id ∷ []) (map (found_ref repo.refs) (want_refs_in q))
        → SoFar repo at named (fetch q) (with_report (WantRef id) (of_fetch a t))
    found_on (Some id) front = record {
      wants = h.wants;
      found = front;
      has = h.has;
      lines = h.lines;
      count = h.count;
      all = h.all;
      ready = h.ready;
      progress = h.progress;
    }
    found_on None front = record {
      wants = h.wants;
      found = front;
      has = h.has;
      lines = h.lines;
      count = h.count;
      all = h.all;
      ready = h.ready;
      progress = h.progress;
    }

    pub one_want_ref : (next : ℕ) (name : List ℕ) → length a.found ≡ next → slice_get (want_refs_in q) next ≡ Some name → (reply : Reply) (report : Report)
        → IsReplyOf repo at named (ask_want_ref name) reply → IsReportOf (NeedWantRef next) reply report
        → Onward reply report (fetch q) (of_fetch a t)
    one_want_ref next name count here (found id) report is reports =
        subst (λ (r : Report). Onward (found id) r (fetch q) (of_fetch a t)) (sym reports)
        (by_taken (SoFar repo at named (fetch q)) what (WantRef id) (of_fetch a t) taken refl
        (found_on id (front_more a.found (map (found_ref repo.refs) (want_refs_in q)) id h.found
        (mapped (found_ref repo.refs) (want_refs_in q) (length a.found) name (ap (slice_get (want_refs_in q)) count ∙ here)
        ∙ ap Some (found_is repo.refs name id rising is)))))
    one_want_ref next name count here reply report is reports = absurd is

    pub one_have : (next : ℕ) (id : ObjectName) → length t.has ≡ next → slice_get (haves_in q) next ≡ Some id → (reply : Reply) (report : Report)
        → IsReplyOf repo at named (ask_have id) reply → IsReportOf (NeedHave next) reply report → Onward reply report (fetch q) (of_fetch a t)
    one_have next id count here (has b) report is reports =
        subst (λ (r : Report). Onward (has b) r (fetch q) (of_fetch a t)) (sym reports)
        (by_taken (SoFar repo at named (fetch q)) what (Have b) (of_fetch a t) taken refl (record {
          wants = h.wants;
          found = h.found;
          has = front_more t.has (map repo.has (haves_in q)) b h.has
              (mapped repo.has (haves_in q) (length t.has) id (ap (slice_get (haves_in q)) count ∙ here) ∙ ap Some (sym is));
          lines = h.lines;
          count = h.count;
          all = h.all;
          ready = h.ready;
          progress = h.progress;
        }))
    one_have next id count here reply report is reports = absurd is

    pub one_ready : (reply : Reply) (report : Report) → IsReplyOf repo at named (ready q) reply → IsReportOf NeedReady reply report
        → Onward reply report (fetch q) (of_fetch a t)
    one_ready (has b) report is reports =
        subst (λ (r : Report). Onward (has b) r (fetch q) (of_fetch a t)) (sym reports)
        (by_taken (SoFar repo at named (fetch q)) what (Ready b) (of_fetch a t) taken refl (record {
          wants = h.wants;
          found = h.found;
          has = h.has;
          lines = h.lines;
          count = h.count;
          all = h.all;
          ready = λ other reported. let same : b ≡ other = cc in sym same ∙ is;
          progress = h.progress;
        }))
    one_ready reply report is reports = absurd is

    pub one_line : (reply : Reply) (report : Report) → IsReplyOf repo at named (ask_boundary q) reply → IsReportOf NeedBoundary reply report
        → Onward reply report (fetch q) (of_fetch a t)
    one_line (line (Some l)) report is reports =
        subst (λ (r : Report). Onward (line (Some l)) r (fetch q) (of_fetch a t)) (sym reports)
        (by_taken (SoFar repo (at + 1) named (fetch q)) what (BoundaryLine l) (of_fetch a t) taken refl (record {
          wants = h.wants;
          found = h.found;
          has = h.has;
          lines = front_more t.boundary (repo.boundaries q) l h.lines (ap (slice_get (repo.boundaries q)) h.count ∙ sym is);
          count = omega (arith, length-append t.boundary (l ∷ []), h.count);
          all = λ ended. absurd (not_past (repo.boundaries q) l (ap length (h.all ended)) is);
          ready = h.ready;
          progress = h.progress;
        }))
      where
        not_past : (all : List Boundary) (l : Boundary) → length t.boundary ≡ length all → Some l ≡ slice_get all at → ⊥
        not_past all l same here = elim (slice_get_cases all at).1 [
          | inl (x, within, is, also) ↦ omega (arith, within, same, h.count)
          | inr (most, is) ↦ let both : Some l ≡ None = here ∙ is in cc
        ]
    one_line (line None) report is reports =
        subst (λ (r : Report). Onward (line None) r (fetch q) (of_fetch a t)) (sym reports)
        (by_taken (SoFar repo at named (fetch q)) what BoundaryEnd (of_fetch a t) taken refl (record {
          wants = h.wants;
          found = h.found;
          has = h.has;
          lines = h.lines;
          count = h.count;
          all = λ ended. front_all t.boundary (repo.boundaries q) h.lines (omega (arith, past_all (repo.boundaries q) at is, h.count));
          ready = h.ready;
          progress = h.progress;
        }))
    one_line reply report is reports = absurd is

    -- a pack changes nothing of this
    same_but_pack : (u : FetchFacts) → u.has ≡ t.has → u.boundary ≡ t.boundary → u.boundary_ended ≡ t.boundary_ended
        → u.ready ≡ t.ready → u.progress ≡ t.progress → SoFar repo at named (fetch q) (of_fetch a u)
    same_but_pack u had lines ended able quiet = record {
      wants = h.wants;
      found = h.found;
      has = subst (λ (l : List Bool). IsFront l (map repo.has (haves_in q))) (sym had) h.has;
      lines = subst (λ (l : List Boundary). IsFront l (repo.boundaries q)) (sym lines) h.lines;
      count = ap length lines ∙ h.count;
      all = λ is. lines ∙ h.all (sym ended ∙ is);
      ready = λ b is. h.ready b (sym able ∙ is);
      progress = quiet ∙ h.progress;
    }

    pub one_part : (reply : Reply) (report : Report) → IsReplyOf repo at named (ask_pack q) reply → IsReportOf NeedPack reply report
        → Onward reply report (fetch q) (of_fetch a t)
    one_part (part bytes) (Pack lent) is reports =
        by_taken (SoFar repo at named (fetch q)) what (Pack lent) (of_fetch a t) taken refl (same_but_pack _ refl refl refl refl refl)
    one_part (part bytes) report is reports = absurd reports
    one_part (progress bytes) report is reports = absurd is
    one_part pack_end report is reports =
        subst (λ (r : Report). Onward pack_end r (fetch q) (of_fetch a t)) (sym reports)
        (by_taken (SoFar repo at named (fetch q)) what PackEnd (of_fetch a t) taken refl h)
    one_part reply report is reports = absurd reports

  module _ (q : List Arg) (t : ReferencesFacts) (h : RefsSoFar repo at named t) where
    not_ended : (e : Entry) → slice_get repo.refs at ≡ Some e → t.refs ≡ repo.refs → ⊥
    not_ended e here same = elim (slice_get_cases repo.refs at).1 [
      | inl (x, within, is, also) ↦ omega (arith, within, ap length same, h.count)
      | inr (most, is) ↦ let both : Some e ≡ None = sym here ∙ is in cc
    ]

    head_is : (b : Bool) → HeadSoFar repo b t.unborn → IsNamed repo b → t.unborn ≡ repo.unborn_head
    head_is true so known = so
    head_is false so known = so ∙ sym known

    pub one_reference : (reply : Reply) (report : Report) → IsReplyOf repo at named ask_reference reply → IsReportOf NeedReference reply report
        → Onward reply report (ls_refs q) (of_references t)
    one_reference (entry e) report is reports =
        subst (λ (r : Report). Onward (entry e) r (ls_refs q) (of_references t)) (sym reports)
        (by_taken (SoFar repo (at + 1) named (ls_refs q)) what (Reference e) (of_references t) taken refl (record {
          front = front_more t.refs repo.refs e h.front (ap (slice_get repo.refs) h.count ∙ is.1);
          count = omega (arith, length-append t.refs (e ∷ []), h.count);
          head = h.head;
          all = λ ended. absurd (not_ended e is.1 (h.all ended).0);
        }))
    one_reference (unborn target) (Unborn name) is reports =
        by_taken (SoFar repo at true (ls_refs q)) what (Unborn name) (of_references t) taken refl (record {
          front = h.front;
          count = h.count;
          head = ap Some reports ∙ sym is.1;
          all = λ ended. ((h.all ended).0, ap Some reports ∙ sym is.1);
        })
    one_reference (unborn target) report is reports = absurd reports
    one_reference references_end report is reports =
        subst (λ (r : Report). Onward references_end r (ls_refs q) (of_references t)) (sym reports)
        (by_taken (SoFar repo at named (ls_refs q)) what ReferencesEnd (of_references t) taken refl (record {
          front = h.front;
          count = h.count;
          head = h.head;
          all = λ ended. (front_all t.refs repo.refs h.front (omega (arith, is.1, h.count)), head_is named h.head is.0);
        }))
    one_reference failed report is reports = absurd reports
    one_reference reply report is reports = absurd is

  module _ (q : List Arg) (sizes : List (Option ℕ)) (h : IsFront sizes (map repo.object_size (oids_in q))) where
    pub one_size : (next : ℕ) (id : ObjectName) → length sizes ≡ next → slice_get (oids_in q) next ≡ Some id → (reply : Reply) (report : Report)
        → IsReplyOf repo at named (ask_size id) reply → IsReportOf (NeedSize next) reply report → Onward reply report (object_info q) (of_sizes sizes)
    one_size next id count here (size_is size) report is reports =
        subst (λ (r : Report). Onward (size_is size) r (object_info q) (of_sizes sizes)) (sym reports)
        (by_taken (SoFar repo at named (object_info q)) what (Size size) (of_sizes sizes) taken refl
        (front_more sizes (map repo.object_size (oids_in q)) size h
        (mapped repo.object_size (oids_in q) (length sizes) id (ap (slice_get (oids_in q)) count ∙ here) ∙ ap Some (sym is))))
    one_size next id count here reply report is reports = absurd is
