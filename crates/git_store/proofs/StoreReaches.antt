-- One call of a host's server over its store, as a move.
use Rattle.std.proofs.Common.{◌≡◌, ℕ, Bool, true, false, List, [], ◌∷◌, Option, Some, None, refl, sym, ap, ◌∙◌, subst, append-nil}
use Rattle.std.specs.Prelude.{Result, Ok, Err, IsSome}
use Rattle.git_store.specs.declared.hosted.Turn.{Turn}
use Rattle.git_store.specs.declared.hosted.Turn.TheVariants.{Packet as GivesPacket, NeedInput as WaitsForInput, Finished as HasFinished}
use Rattle.git_msg.specs.Asked.{Asked, fetch, ls_refs, object_info}
use Rattle.git_host.specs.HostServer.{FeedsHost, ReportsHost, StepsHost, begun_in, bytes_of, given_with, outcome_of, reads_on}
use Rattle.git_store.specs.Questions.{Question, Reply, ask_reference}
use Rattle.git_store.specs.StoreMoves.{AnswersNeed, Asks, Begins, FailsNow, IsRest, Reaches, Reported, Settles, StepsOver, Unreported}
use Rattle.git_store.specs.StoreMoves.{asked, began, fed, gave, is_given, question_by}
use Rattle.git_store.specs.StoreMoves.{is_taken, last_of, rested, was_none, was_refused, was_taken}
use Rattle.git_host.specs.declared.host_server.HostServer.{HostServer}
use Rattle.git_host.specs.declared.report.HostReported.{HostReported}
use Rattle.git_host.specs.declared.report.HostReported.TheVariants as What
use Rattle.git_host.specs.declared.report.HostStep.{HostStep}
use Rattle.git_host.specs.declared.report.HostStep.TheVariants as Step
use Rattle.git_host.specs.declared.report.Need.{Need}
use Rattle.git_host.specs.declared.report.Need.TheVariants as Needs
use Rattle.git_host.specs.declared.report.Report.TheVariants.{Failed}

module _ {A : Type 0} where
  -- the bytes that came of a report: those of the buffer, or none
  given_bytes : (what : HostReported) (server : HostServer A) → is_given what ≡ true → given_with what server.stream ≡ bytes_of server
  given_bytes What.Packet server given = refl
  given_bytes What.Taken server given = absurd (cc)
  given_bytes What.Hidden server given = absurd (cc)
  given_bytes What.NotAsked server given = absurd (cc)
  given_bytes What.MixedFormats server given = absurd (cc)
  given_bytes What.Unsorted server given = absurd (cc)
  given_bytes What.HeadTwice server given = absurd (cc)
  given_bytes What.NotShallow server given = absurd (cc)
  given_bytes What.OutOfMemory server given = absurd (cc)

  no_bytes : (what : HostReported) (server : HostServer A) → is_given what ≡ false → given_with what server.stream ≡ []
  no_bytes What.Packet server none = absurd (cc)
  no_bytes What.Taken server none = refl
  no_bytes What.Hidden server none = refl
  no_bytes What.NotAsked server none = refl
  no_bytes What.MixedFormats server none = refl
  no_bytes What.Unsorted server none = refl
  no_bytes What.HeadTwice server none = refl
  no_bytes What.NotShallow server none = refl
  no_bytes What.OutOfMemory server none = refl

  module _ {S : Type 0} (begins : S → Asked → S → Type 0) (replies : S → Question → Reply → S → Type 0) (old : HostServer A) (store : S)
      (new : HostServer A) where
    pub fed_so : (bytes : List ℕ) → FeedsHost bytes old new → Reaches begins replies bytes [] old store new store
    fed_so bytes feeds = record {
      moves = fed bytes (begun_in old.phase new.phase) ∷ [];
      made = (new, store, (feeds, refl, refl), (refl, refl));
      unclosed = (refl, tt);
      used_are = sym (append-nil bytes);
      given_are = refl;
    }

    pub gave_so : StepsHost old Step.Packet new → Reaches begins replies [] (bytes_of new) old store new store
    gave_so steps = record {
      moves = gave (bytes_of new) ∷ [];
      made = (new, store, (steps, refl, refl), (refl, refl));
      unclosed = (refl, tt);
      used_are = refl;
      given_are = sym (append-nil (bytes_of new));
    }

    pub rested_so : (step : HostStep) → IsRest step → StepsHost old step new → Reaches begins replies [] [] old store new store
    rested_so step rests steps = record {
      moves = rested ∷ [];
      made = (new, store, (step, rests, steps, refl), (refl, refl));
      unclosed = (refl, tt);
      used_are = refl;
      given_are = refl;
    }

    module _ (asking : HostServer A) (left : S) where
      pub began_so : StepsHost old Step.Asked asking → Begins begins asking store new left → Reaches begins replies [] [] old store new left
      began_so steps b = record {
        moves = began b.asked ∷ [];
        made = (new, left, (asking, steps, b, refl), (refl, refl));
        unclosed = (refl, tt);
        used_are = refl;
        given_are = refl;
      }

      module _ (need : Need) (steps : StepsHost old (Step.Need need) asking) where
        asked_so : (given : Bool) (bytes : List ℕ) (a : AnswersNeed replies need given asking store new left)
            → given_with (last_of a.outturn) new.stream ≡ bytes → Reaches begins replies [] bytes old store new left
        asked_so given bytes a are = record {
          moves = asked need a.question a.reply a.outturn bytes ∷ [];
          made = (new, left, (asking, steps, a.answers, sym are), (refl, refl));
          unclosed = (refl, tt);
          used_are = refl;
          given_are = sym (append-nil bytes);
        }

        pub asked_any : (given : Bool) (a : AnswersNeed replies need given asking store new left)
            → Reaches begins replies [] (given_with (last_of a.outturn) new.stream) old store new left
        asked_any given a = asked_so given (given_with (last_of a.outturn) new.stream) a refl

        pub asked_packet : (given : Bool) → AnswersNeed replies need given asking store new left → given ≡ true
            → Reaches begins replies [] (bytes_of new) old store new left
        asked_packet given a is = asked_so given (bytes_of new) a (given_bytes (last_of a.outturn) new (sym a.given_is ∙ is))

        pub asked_none : (given : Bool) → AnswersNeed replies need given asking store new left → given ≡ false
            → Reaches begins replies [] [] old store new left
        asked_none given a is = asked_so given [] a (no_bytes (last_of a.outturn) new (sym a.given_is ∙ is))

  -- ---- what comes of a question

  module _ {S : Type 0} (replies : S → Question → Reply → S → Type 0) (need : Need) (old : HostServer A) (store : S) (new : HostServer A) (left : S) where
    -- the reply made no report, and a failure is reported
    pub none_so : (between : HostServer A) (what : HostReported) → Unreported replies need old store between left → ReportsHost Failed between what new
        → AnswersNeed replies need (is_given what) old store new left
    none_so between what u reports = record {
      question = u.question;
      reply = u.reply;
      outturn = was_none what;
      answers = record {
        is_asked = u.is_asked;
        replied = u.replied;
        turns_out = (u.none, subst (λ (x : HostServer A). ReportsHost Failed x what new) u.same reports);
      };
      given_is = refl;
    }

    pub refused_so : (between : HostServer A) (why what : HostReported) → Reported replies need why old store between left → is_taken why ≡ false
        → ReportsHost Failed between what new → AnswersNeed replies need (is_given what) old store new left
    refused_so between why what r refused reports = record {
      question = r.question;
      reply = r.reply;
      outturn = was_refused r.report why what;
      answers = record { is_asked = r.is_asked; replied = r.replied; turns_out = (between, r.is, refused, r.reports, reports) };
      given_is = refl;
    }

    pub taken_so : (what : HostReported) → Reported replies need what old store new left → is_taken what ≡ true
        → AnswersNeed replies need (is_given what) old store new left
    taken_so what r taken = record {
      question = r.question;
      reply = r.reply;
      outturn = was_taken r.report what;
      answers = record { is_asked = r.is_asked; replied = r.replied; turns_out = (r.is, taken, r.reports) };
      given_is = refl;
    }

    -- what came of the question, by what it returned
    pub ok_so : {E : Type 0} (answer : Result HostReported E) (what : HostReported) → answer ≡ Ok what → Asks replies need answer old store new left
        → Reported replies need what old store new left
    ok_so answer what is asks = subst (λ (r : Result HostReported _). Asks replies need r old store new left) is asks

    pub err_so : {E : Type 0} (answer : Result HostReported E) (e : E) → answer ≡ Err e → Asks replies need answer old store new left
        → Unreported replies need old store new left
    err_so answer e is asks = subst (λ (r : Result HostReported _). Asks replies need r old store new left) is asks

    pub failed_need : (between : HostServer A) (given : Bool) → Unreported replies need old store between left → FailsNow given between new
        → AnswersNeed replies need given old store new left
    failed_need between given u (what, is, reports) =
        subst (λ (b : Bool). AnswersNeed replies need b old store new left) (sym is) (none_so between what u reports)

    settled_by : (taken : Bool) (between : HostServer A) (reported : HostReported) (given : Bool) → is_taken reported ≡ taken
        → Reported replies need reported old store between left → Settles taken reported given between new
        → AnswersNeed replies need given old store new left
    settled_by true between reported given taken r (is, same) =
        subst (λ (b : Bool). AnswersNeed replies need b old store new left) (sym is)
        (taken_so reported (subst (λ (x : HostServer A). Reported replies need reported old store x left) (sym same) r) taken)
    settled_by false between reported given refused r (what, is, reports) =
        subst (λ (b : Bool). AnswersNeed replies need b old store new left) (sym is) (refused_so between reported what r refused reports)

    pub settled_need : (between : HostServer A) (reported : HostReported) (given : Bool) → Reported replies need reported old store between left
        → Settles (is_taken reported) reported given between new → AnswersNeed replies need given old store new left
    settled_need between reported given r settles = settled_by (is_taken reported) between reported given refl r settles

-- ---- the steps of a server over its store, by what they return

pub step_is : {A : Type 0} (step known : HostStep) (old new : HostServer A) → step ≡ known → StepsHost old step new → StepsHost old known new
step_is step known old new is steps = subst (λ (x : HostStep). StepsHost old x new) is steps

module _ {A S : Type 0} (begins : S → Asked → S → Type 0) (replies : S → Question → Reply → S → Type 0) (old : HostServer A) (store : S)
    (new : HostServer A) (left : S) (result : Option Turn) where
  pub packet_step : (next : Turn) → result ≡ Some next → next ≡ GivesPacket → StepsOver begins replies result old store new left
      → Reaches begins replies [] (bytes_of new) old store new left
  packet_step next some is steps = subst (λ (o : Option Turn). StepsOver begins replies o old store new left) (some ∙ ap Some is) steps

  pub input_step : (next : Turn) → result ≡ Some next → next ≡ WaitsForInput → StepsOver begins replies result old store new left
      → Reaches begins replies [] [] old store new left × (reads_on new ≡ true)
  input_step next some is steps = subst (λ (o : Option Turn). StepsOver begins replies o old store new left) (some ∙ ap Some is) steps

  pub last_step : (next : Turn) → result ≡ Some next → next ≡ HasFinished → StepsOver begins replies result old store new left
      → Reaches begins replies [] [] old store new left × IsSome (outcome_of new)
  last_step next some is steps = subst (λ (o : Option Turn). StepsOver begins replies o old store new left) (some ∙ ap Some is) steps

  pub no_step : result ≡ None → StepsOver begins replies result old store new left → Reaches begins replies [] [] old store new left
  no_step none steps = subst (λ (o : Option Turn). StepsOver begins replies o old store new left) none steps

-- a question for a reference
pub reference_asked : (o : Option Asked) → IsSome (question_by o Needs.Reference) → question_by o Needs.Reference ≡ Some ask_reference
reference_asked None some = absurd (cc)
reference_asked (Some (ls_refs q)) some = refl
reference_asked (Some (fetch q)) some = absurd (cc)
reference_asked (Some (object_info q)) some = absurd (cc)
