-- What a server does that has no byte of a pack to send is the same whatever the packs are.
use Rattle.std.proofs.Common.{arith, ◌≡◌, ℕ, Bool, true, false, Option, Some, None, List, refl, sym, ap, subst, ◌∙◌}
use mathlib.Core.Path.{fun_ext}
use Rattle.git_pkt.specs.Packets.{Pkt}
use Rattle.git_msg.specs.Arguments.{Arg, with_id, with_text}
use Rattle.git_msg.specs.declared.words.ObjectWord.{ObjectWord}
use Rattle.git_msg.specs.declared.words.TextWord.{TextWord}
use Rattle.git_msg.specs.declared.offers.Offer.{Offer}
use Rattle.git_server.specs.Repository.{Repository, RepoState}
use Rattle.git_server.specs.Admission.{barred}
use Rattle.git_server.specs.FetchAnswers.{IsNegotiated, is_ready_for}
use Rattle.git_server.specs.Packs.{Manner, whole, broken}
use Rattle.git_server.specs.Machine.AnsweredRequest.{IsAnswerFrom}
use Rattle.git_server.specs.Machine.FetchPlaces.{IsFetchFrom, acknowledgments_from}
use Rattle.git_server.specs.Machine.LatePacks.{HasNoPack, HasNoPackFrom, HasNoPackUnsentIn, setting_with, state_with, with_packs}
use Rattle.git_server.specs.Machine.LateRepo.{SettlesPacks}
use Rattle.git_pkt.specs.Machine.PacketReader.{bytes_held}
use Rattle.git_msg.specs.Machine.RequestReader.{kept_so_far, limit_in, offer_of}
use Rattle.git_server.specs.Machine.Phases.{MayBreak, AreUnsent, kept_in, outcome_in, stored_in}
use Rattle.git_server.specs.Machine.Server.{HasFailed, Running, StandsBy, outcome_of}
use Rattle.git_server.specs.Machine.ServerCalls.{Keeps, RunsUnread}
use Rattle.git_server.specs.Sessions.{Setting}
use Rattle.git_server.specs.declared.acknowledgments.AcknowledgmentsPlace.{AcknowledgmentsPlace}
use Rattle.git_server.specs.declared.acknowledgments.AcknowledgmentsPlace.TheVariants.{Header, Have, Through}
use Rattle.git_server.specs.declared.answer.Answer.{Answer}
use Rattle.git_server.specs.declared.answer.Answer.TheVariants.{References, Fetching, Sizes}
use Rattle.git_server.specs.declared.fetching.FetchPlace.{FetchPlace}
use Rattle.git_server.specs.declared.fetching.FetchPlace.TheVariants.{Acknowledgments, Delimiter, ShallowInfo, WantedRefs, Packfile}
use Rattle.git_server.specs.declared.ls_refs.ReferencesPlace.TheVariants.{First, Entry}
use Rattle.git_server.specs.declared.object_info.SizesPlace.TheVariants.{Header as SizesHeader, Object}
use Rattle.git_server.specs.declared.outcome.Outcome.{Outcome}
use Rattle.git_server.specs.declared.server.Phase.{Phase}
use Rattle.git_server.specs.declared.server.Phase.TheVariants.{Advertising, Between, Within, Answering, Refusing, Ended}
use Rattle.git_server.specs.declared.server.Server.{Server}

-- acknowledgments that no pack follows do not depend on it
negotiated : (ready : Bool) (lines : List Pkt) (manner : Manner) (a b : Repository) (q : List Arg) (later : List Pkt) → ready ≡ false
    → IsNegotiated ready lines manner a q later → IsNegotiated ready lines manner b q later
negotiated true lines manner a b q later none h = absurd (cc)
negotiated false lines manner a b q later none h = h

unbroken_negotiated : (ready : Bool) (lines : List Pkt) (repo : Repository) (q : List Arg) (later : List Pkt) → ready ≡ false
    → IsNegotiated ready lines broken repo q later → ⊥
unbroken_negotiated true lines repo q later none h = cc
unbroken_negotiated false lines repo q later none h = h

module _ (repo : Repository) (packs : List Arg → List ℕ) where
  lines_same : (q : List Arg) (place : AcknowledgmentsPlace) → acknowledgments_from (with_packs packs repo) q place ≡ acknowledgments_from repo q place
  lines_same q Header = refl
  lines_same q (Have next announced) = refl
  lines_same q Through = refl

  fetch_known : (manner : Manner) (q : List Arg) (place : FetchPlace) (later : List Pkt) → HasNoPackFrom repo q place
      → IsFetchFrom manner (with_packs packs repo) q place later → IsFetchFrom manner repo q place later
  fetch_known manner q (Acknowledgments place) later none h =
      negotiated (is_ready_for repo q) (acknowledgments_from repo q place) manner (with_packs packs repo) repo q later none
      (subst (λ (ls : List Pkt). IsNegotiated (is_ready_for repo q) ls manner (with_packs packs repo) q later) (lines_same q place) h)
  fetch_known manner q Delimiter later none h = absurd none
  fetch_known manner q (ShallowInfo place) later none h = absurd none
  fetch_known manner q (WantedRefs place) later none h = absurd none
  fetch_known manner q (Packfile place) later none h = absurd none

  fetch_any : (manner : Manner) (q : List Arg) (place : FetchPlace) (later : List Pkt) → HasNoPackFrom repo q place
      → IsFetchFrom manner repo q place later → IsFetchFrom manner (with_packs packs repo) q place later
  fetch_any manner q (Acknowledgments place) later none h =
      subst (λ (ls : List Pkt). IsNegotiated (is_ready_for repo q) ls manner (with_packs packs repo) q later) (sym (lines_same q place))
      (negotiated (is_ready_for repo q) (acknowledgments_from repo q place) manner repo (with_packs packs repo) q later none h)
  fetch_any manner q Delimiter later none h = absurd none
  fetch_any manner q (ShallowInfo place) later none h = absurd none
  fetch_any manner q (WantedRefs place) later none h = absurd none
  fetch_any manner q (Packfile place) later none h = absurd none

  module _ {A : Type 0} where
    answer_known : (manner : Manner) (answer : Answer A) (later : List Pkt) → HasNoPack repo answer
        → IsAnswerFrom manner (with_packs packs repo) answer later → IsAnswerFrom manner repo answer later
    answer_known whole (References request First) later none h = h
    answer_known whole (References request (Entry next)) later none h = h
    answer_known broken (References request place) later none h = h
    answer_known manner (Fetching request place) later none h = fetch_known manner request.asked place later none h
    answer_known whole (Sizes request SizesHeader) later none h = h
    answer_known whole (Sizes request (Object next)) later none h = h
    answer_known broken (Sizes request place) later none h = h

    answer_any : (manner : Manner) (answer : Answer A) (later : List Pkt) → HasNoPack repo answer
        → IsAnswerFrom manner repo answer later → IsAnswerFrom manner (with_packs packs repo) answer later
    answer_any whole (References request First) later none h = h
    answer_any whole (References request (Entry next)) later none h = h
    answer_any broken (References request place) later none h = h
    answer_any manner (Fetching request place) later none h = fetch_any manner request.asked place later none h
    answer_any whole (Sizes request SizesHeader) later none h = h
    answer_any whole (Sizes request (Object next)) later none h = h
    answer_any broken (Sizes request place) later none h = h

    pub has_unsent_known : (offer : Offer) (phase : Phase A) (later : List Pkt) → HasNoPackUnsentIn repo phase
        → AreUnsent offer (with_packs packs repo) phase later
        → AreUnsent offer repo phase later
    has_unsent_known offer (Answering answer offset) later none h = answer_known whole answer later none h
    has_unsent_known offer (Advertising line) later none h = h
    has_unsent_known offer Between later none h = h
    has_unsent_known offer Within later none h = h
    has_unsent_known offer (Refusing fault) later none h = h
    has_unsent_known offer (Ended outcome) later none h = h

    pub any_unsent : (offer : Offer) (phase : Phase A) (later : List Pkt) → HasNoPackUnsentIn repo phase → AreUnsent offer repo phase later
        → AreUnsent offer (with_packs packs repo) phase later
    any_unsent offer (Answering answer offset) later none h = answer_any whole answer later none h
    any_unsent offer (Advertising line) later none h = h
    any_unsent offer Between later none h = h
    any_unsent offer Within later none h = h
    any_unsent offer (Refusing fault) later none h = h
    any_unsent offer (Ended outcome) later none h = h

    pub breaks_known : (phase : Phase A) (later : List Pkt) → HasNoPackUnsentIn repo phase → MayBreak (with_packs packs repo) phase later
        → MayBreak repo phase later
    breaks_known (Answering answer offset) later none h = answer_known broken answer later none h
    breaks_known (Advertising line) later none h = h
    breaks_known Between later none h = h
    breaks_known Within later none h = h
    breaks_known (Refusing fault) later none h = h
    breaks_known (Ended outcome) later none h = h

    pub breaks_any : (phase : Phase A) (later : List Pkt) → HasNoPackUnsentIn repo phase → MayBreak repo phase later
        → MayBreak (with_packs packs repo) phase later
    breaks_any (Answering answer offset) later none h = answer_any broken answer later none h
    breaks_any (Advertising line) later none h = h
    breaks_any Between later none h = h
    breaks_any Within later none h = h
    breaks_any (Refusing fault) later none h = h
    breaks_any (Ended outcome) later none h = h

  arg_barred : (arg : Arg) → barred (with_packs packs repo) arg ≡ barred repo arg
  arg_barred (with_id ObjectWord.Want id) = refl
  arg_barred (with_text TextWord.WantRef name) = refl
  arg_barred arg = refl

  -- what a repository refuses of a request is the same
  pub barred_same : barred (with_packs packs repo) ≡ barred repo
  barred_same = fun_ext arg_barred

-- an answer that has no byte of a pack does not break off
pub unbroken : {A : Type 0} (repo : Repository) (answer : Answer A) (later : List Pkt) → HasNoPack repo answer → IsAnswerFrom broken repo answer later → ⊥
unbroken repo (References request place) later none h = h
unbroken repo (Fetching request (Acknowledgments place)) later none h =
    unbroken_negotiated (is_ready_for repo request.asked) (acknowledgments_from repo request.asked place) repo request.asked later none h
unbroken repo (Fetching request Delimiter) later none h = none
unbroken repo (Fetching request (ShallowInfo place)) later none h = none
unbroken repo (Fetching request (WantedRefs place)) later none h = none
unbroken repo (Fetching request (Packfile place)) later none h = none
unbroken repo (Sizes request place) later none h = h

-- what stays as it is does so with any packs
pub keeps_any : {R A : Type 0} (state : R → RepoState) (old new : Server R A) (packs : List Arg → List ℕ) → Keeps state old new
    → Keeps (state_with packs state) old new
keeps_any state old new packs keeps = record {
  offer = keeps.offer;
  repo = ap (λ (x : RepoState). record { answers = with_packs packs x.answers; failures = x.failures }) keeps.repo;
  requests = keeps.requests;
}

-- a server whose repository has come to have other packs, where what it did before is the same with any
module _ {R A : Type 0} (state : R → RepoState) (old new : Server R A) (reader : new.reader ≡ old.reader) (requests : new.requests ≡ old.requests)
    (offer : new.offer ≡ old.offer) (phase : new.phase ≡ old.phase) where
  stands_on : (o : Option Outcome) (s : Setting) (used : List ℕ) (over : Bool) (given : List ℕ) → StandsBy o s used over given old
      → StandsBy o s used over given new
  stands_on None s used over given (not_over, h) = (
    not_over,
    record {
      asked = h.asked;
      packets = h.packets;
      left = h.left;
      rest = h.rest;
      sent = h.sent;
      reads = rw reader h.reads;
      no_fault = rw reader h.no_fault;
      requests = h.requests;
      takes = rw requests h.takes;
      begins = h.begins;
      left_is = rw phase h.left_is;
      flush_at = rw phase h.flush_at;
      is_sent = λ unsent has_unsent. h.is_sent unsent (rw (offer, phase) at has_unsent);
      breaks = λ unsent may. h.breaks unsent (rw phase at may);
      given_is = h.given_is;
      fit = h.fit;
    },
  )
  stands_on (Some outcome) s used over given h = λ unsent has_unsent. h unsent (rw (offer, phase) at has_unsent)

  pub settled_runs : SettlesPacks (state old.repo) (state new.repo)
      → (s : Setting) (used : List ℕ) (over : Bool) (given : List ℕ) → RunsUnread state s used over given old
      → Running state (setting_with (state new.repo).answers.pack s) used over given new
  settled_runs settles s used over given runs =
      let packs = (state new.repo).answers.pack in
      let r = runs packs in
      let same : outcome_of old ≡ outcome_of new = ap outcome_in (sym phase) in
      record {
        offer = offer ∙ r.offer;
        reads_for = ap offer_of requests ∙ r.reads_for;
        limit = ap limit_in requests ∙ r.limit;
        repo = settles.answers ∙ r.repo;
        failures = subst (λ (o : Option Outcome). HasFailed o s.failures (state new.repo).failures) same
            (subst (HasFailed (outcome_of old) s.failures) (sym settles.failures) r.failures);
        within = omega (arith, r.within, ap kept_so_far requests, ap kept_in phase);
        covered = omega (arith, r.covered, ap stored_in phase, ap kept_in phase);
        fits = omega (arith, r.fits, ap bytes_held reader);
        stands = subst (λ (o : Option Outcome). StandsBy o (setting_with packs s) used over given new) same
            (stands_on (outcome_of old) (setting_with packs s) used over given r.stands);
      }
