-- What a server has sent at any moment, and which of a client's requests it has read.
use Rattle.std.proofs.Common.{arith, ◌≡◌, inl, inr, ℕ, Bool, true, false, All, List, [], ◌∷◌, ◌++◌, Option, Some, None}
use Rattle.std.proofs.Common.{refl, ap, sym, ◌∙◌, subst, append-nil}
use Rattle.git_names.specs.declared.object_format.Format.{Format}
use Rattle.git_pkt.specs.Packets.{Pkt}
use Rattle.git_pkt.specs.Splits.{Given}
use Rattle.git_pkt.specs.declared.fault.Fault.{Fault}
use Rattle.git_pkt.specs.declared.fault.Kind.{Kind}
use Rattle.git_pkt.specs.declared.fault.Kind.TheVariants.{PackSource, RemoteError}
use Rattle.git_msg.specs.declared.agent.Agent.{Agent}
use Rattle.git_msg.specs.Asked.{Asked, HasValues}
use Rattle.git_msg.specs.Lines.{IsFormatMeant}
use Rattle.git_client.specs.Machine.Client.{farewell}
use Rattle.git_server.specs.Answers.{AllFit, error_packet, refusal_by, spelled}
use Rattle.git_server.specs.Repository.{RepoState}
use Rattle.git_server.specs.Sessions.{AreAnswers, GoesOn, IsAnswered, IsEnding, IsTail, IsTailBy, Setting, Stream, WantsPack, advertised}
use Rattle.git_server.specs.Machine.Server.{IsPackLost, Running, outcome_of}
use Rattle.git_server.specs.declared.outcome.Outcome.{Outcome}
use Rattle.git_server.specs.declared.outcome.Outcome.TheVariants.{Flush, Closed, Refused}
use Rattle.git_server.specs.declared.server.Server.{Server}
use Rattle.git_server.proofs.Sent.{is_whole}
use Rattle.git_server.proofs.SessionLaws.{ending, going_on}
use Rattle.git_laws.specs.BothEnds.{HasRefused, terms_with}
use Rattle.git_laws.specs.Plays.{setting_of}
use Rattle.git_laws.proofs.FrontsReceived.{IsReport, front_of}
use Rattle.git_laws.proofs.PlaysAnnounced.{offers_all, takes_all}
use Rattle.git_laws.proofs.RequestsReceived.{HaveValues, requests_front, written_all}
use Rattle.git_laws.proofs.SpelledPackets.{fit_both, requests_fit}

-- ---- what it sent

-- the first packets of its advertisement and of an answer to each request that it read, and then the error packet if it refused something
pub record Gave (s : Setting) (used given : List ℕ) : Type 0 where
  pub asked : List Asked
  pub left : List Given
  pub rest : List ℕ
  pub stream : Stream s used asked left rest
  pub answers : List Pkt
  pub answered : AreAnswers s.repo asked answers
  pub good : List Pkt
  pub unsent : List Pkt
  pub bad : List Pkt
  pub parts : good ++ unsent ≡ advertised s ++ answers
  pub report : IsReport bad
  pub given_is : given ≡ spelled (good ++ bad)
  pub fit : AllFit (good ++ bad)

module _ (s : Setting) (used given : List ℕ) where
  abbrev gave_on : GoesOn s used given → Gave s used given
  gave_on g =
      let whole = is_whole s g.asked g.sent g.unsent g.is_sent in
      record {
        asked = g.asked;
        left = g.left;
        rest = g.rest;
        stream = g.stream;
        answers = whole.answers;
        answered = whole.answered;
        good = g.sent;
        unsent = g.unsent;
        bad = [];
        parts = whole.parts;
        report = inl refl;
        given_is = g.given_is ∙ ap spelled (sym (append-nil g.sent));
        fit = subst AllFit (sym (append-nil g.sent)) g.fit;
      }

  abbrev pub gave_all : IsAnswered s used given → Gave s used given
  gave_all g =
      let good = advertised s ++ g.answers in
      record {
        asked = g.asked;
        left = g.left;
        rest = g.rest;
        stream = g.stream;
        answers = g.answers;
        answered = g.answered;
        good = good;
        unsent = [];
        bad = [];
        parts = append-nil good;
        report = inl refl;
        given_is = g.given_is ∙ ap spelled (sym (append-nil good));
        fit = subst AllFit (sym (append-nil good)) g.fit;
      }

-- the first part of an empty list is empty
none_first : (front back : List Pkt) → [] ≡ front ++ back → front ≡ []
none_first [] back e = refl
none_first (p ∷ front) back e = absurd (cc)

one_first : (fault : Fault) (front back : List Pkt) → error_packet fault ∷ [] ≡ front ++ back → IsReport front
one_first fault [] back e = inl refl
one_first fault (p ∷ front) back e =
    let same : p ≡ error_packet fault = cc in
    let none : [] ≡ front ++ back = cc in
    inr (fault, ap (λ (q : Pkt). q ∷ front) same ∙ ap (λ (l : List Pkt). error_packet fault ∷ l) (none_first front back none))

refusal_first : (kind : Kind) (fault : Fault) (front back : List Pkt) → refusal_by kind fault ≡ front ++ back → IsReport front
refusal_first RemoteError fault front back e = inl (none_first front back e)
refusal_first kind fault front back e = one_first fault front back e

tail_first : (kind : Kind) (s : Setting) (left : List Given) (fault : Fault) (front back : List Pkt) → (kind ≡ PackSource → ⊥)
    → IsTailBy kind s left fault (front ++ back) → IsReport front
tail_first PackSource s left fault front back other h = absurd (other refl)
tail_first kind s left fault front back other h = refusal_first kind fault front back h

report_first : (outcome : Outcome) (s : Setting) (left : List Given) (front back : List Pkt) → (WantsPack outcome → ⊥) → IsTail s left outcome (front ++ back)
    → IsReport front
report_first Flush s left front back other h = inl (none_first front back h)
report_first Closed s left front back other h = inl (none_first front back h)
report_first (Refused fault) s left front back other h = tail_first fault.kind s left fault front back other h

abbrev gave_end : (s : Setting) (used : List ℕ) (over : Bool) (given : List ℕ) (outcome : Outcome) (unsent : List Pkt)
    → IsEnding s used over given outcome unsent
    → (WantsPack outcome → ⊥) → Gave s used given
gave_end s used over given outcome unsent g other =
    let all = advertised s ++ g.answers in
    record {
      asked = g.asked;
      left = g.left;
      rest = g.rest;
      stream = g.stream;
      answers = g.answers;
      answered = g.answered;
      good = all;
      unsent = [];
      bad = g.sent;
      parts = append-nil all;
      report = report_first outcome s g.left g.sent unsent other g.parts;
      given_is = g.given_is;
      fit = g.fit;
    }

-- if a pack was wanted and missing, the session lost it
lost_where : (o : Option Outcome) (outcome : Outcome) → o ≡ Some outcome → WantsPack outcome → IsPackLost o
lost_where o Flush e wants = absurd wants
lost_where o Closed e wants = absurd wants
lost_where o (Refused fault) e wants = (fault, e, wants)

-- an outcome that is no refusal lacks no pack and has no error packet
not_lost : (outcome : Outcome) → ((fault : Fault) → outcome ≡ Refused fault → ⊥) → WantsPack outcome → ⊥
not_lost Flush clean wants = wants
not_lost Closed clean wants = wants
not_lost (Refused fault) clean wants = clean fault refl

unreported : (outcome : Outcome) (s : Setting) (left : List Given) (front back : List Pkt) → ((fault : Fault) → outcome ≡ Refused fault → ⊥)
    → IsTail s left outcome (front ++ back) → front ≡ []
unreported Flush s left front back clean h = none_first front back h
unreported Closed s left front back clean h = none_first front back h
unreported (Refused fault) s left front back clean h = absurd (clean fault refl)

module _ {R A : Type 0} (state : R → RepoState) (server : Server R A) (s : Setting) (used : List ℕ) (over : Bool) (given : List ℕ)
    (r : Running state s used over given server) where
  gave_by : (o : Option Outcome) → outcome_of server ≡ o → (IsPackLost (outcome_of server) → ⊥) → Gave s used given
  gave_by None e kept = gave_on s used given (going_on state server s used over given r e).1
  gave_by (Some outcome) e kept =
      let (unsent, ends) = ending state server s used over given r outcome e in
      gave_end s used over given outcome unsent ends (λ wants. kept (lost_where (outcome_of server) outcome e wants))

  -- what a server that lost no pack sent
  pub gave : (IsPackLost (outcome_of server) → ⊥) → Gave s used given
  gave kept = gave_by (outcome_of server) refl kept

  gave_clean_by : (o : Option Outcome) → outcome_of server ≡ o → (HasRefused server → ⊥) → (g : Gave s used given) × (g.bad ≡ [])
  gave_clean_by None e clean = (gave_on s used given (going_on state server s used over given r e).1, refl)
  gave_clean_by (Some outcome) e clean =
      let (unsent, ends) = ending state server s used over given r outcome e in
      let reasons : (fault : Fault) → outcome ≡ Refused fault → ⊥ = λ fault is. clean (fault, e ∙ ap (λ (o : Outcome). Some o) is) in
      (gave_end s used over given outcome unsent ends (not_lost outcome reasons), unreported outcome s ends.left ends.sent unsent reasons ends.parts)

  -- a server that refused nothing sent no error packet
  pub gave_clean : (HasRefused server → ⊥) → (g : Gave s used given) × (g.bad ≡ [])
  gave_clean clean = gave_clean_by (outcome_of server) refl clean

-- ---- what it read

farewell_fits : (leaves : Bool) → AllFit (farewell leaves)
farewell_fits true = (omega arith, tt)
farewell_fits false = tt

-- of the requests that a client wrote it read the first ones
pub read_front : (format : Format) (limit : ℕ) (state : RepoState) (writes_agent : Option Agent) (writes_format : Bool) (asked others : List Asked)
    (leaves : Bool) (used more : List ℕ) (left : List Given) (rest : List ℕ) → IsFormatMeant format writes_format → HaveValues asked
    → used ++ more ≡ spelled (written_all writes_agent writes_format format asked ++ farewell leaves)
    → Stream (setting_of (terms_with format) limit state true) used others left rest
    → (after : List Asked) × (asked ≡ others ++ after) × All (HasValues format) others
read_front format limit state writes_agent writes_format asked others leaves used more left rest meant values e stream =
    let written = written_all writes_agent writes_format format asked in
    let fit = fit_both written (farewell leaves) (requests_fit writes_agent writes_format format asked values) (farewell_fits leaves) in
    let f = front_of 0 used more stream.packets rest (written ++ farewell leaves) fit stream.splits.spelled e in
    requests_front (setting_of (terms_with format) limit state true) writes_agent writes_format meant (takes_all format) (offers_all format)
    asked others leaves stream.packets left f.later values (sym f.are) stream.requests
