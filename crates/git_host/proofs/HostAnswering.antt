-- A host's server that answers a request: the packets of the answer, what the host reports for it, and how it ends.
use Rattle.std.proofs.Common.{◌≡◌, ℕ, ◌≤◌, Bool, true, List, [], ◌∷◌, ◌++◌, length, refl, sym, ap, ◌∙◌, subst, append-nil, inl, inr}
use Rattle.arrayvec.specs.ArrayVec.{ArrayVec}
use Rattle.git_pkt.specs.Packets.{Pkt, spelling_of}
use Rattle.git_pkt.specs.declared.fault.Fault.{Fault}
use Rattle.git_pkt.specs.declared.fault.Kind.{Kind}
use Rattle.git_pkt.specs.declared.fault.Kind.TheVariants.{NotOurs, UnknownRef, PackSource}
use Rattle.git_msg.specs.Asked.{Asked, fetch, ls_refs, object_info}
use Rattle.git_msg.specs.Machine.RequestStreams.{IsLent, hold_of}
use Rattle.git_msg.specs.declared.streams.RequestStream.{RequestStream}
use Rattle.git_server.specs.Packs.{whole, broken}
use Rattle.git_server.specs.Answers.{error_packet}
use Rattle.git_server.specs.declared.outcome.Outcome.{Outcome}
use Rattle.git_host.specs.HostSessions.{AtLast, Facts, HostSetting, IsAnswerBy, IsHosted, IsLacking, IsTailBy, of_fetch, of_references, of_sizes}
use Rattle.git_host.specs.HostServer.{AreHandedOut, terms_of, Hosts, IsAtRequest, IsReading, EndsHost, IsGivenWith, ReportsHost, HasReason, is_answering}
use Rattle.git_host.specs.HostServer.{HostsIn, IsLost, StepsHost, credit_in, credit_of}
use Rattle.git_host.specs.HostServer.{ended_by, IsLostIn, LeadsTo, given_with, with_last}
use Rattle.git_host.specs.HostAnswers.{GivesOn, GoesOn, IsAnswering, IsCut, IsGiven, LacksIt, ReportsBy, with_hidden, WaitsStill, is_broken}
use Rattle.git_host.specs.HostAnswers.{StepsAnswer, with_report, with_reported}
use Rattle.git_host.specs.declared.host_answer.AnswerStep.{AnswerStep}
use Rattle.git_host.specs.declared.host_answer.AnswerStep.TheVariants.{Packet as GivesPacket, Need as Needs, Whole as AllGiven, Broken, Refused as IsRefused}
use Rattle.git_host.specs.declared.host_answer.HostAnswer.{HostAnswer}
use Rattle.git_host.specs.declared.host_server.HostServer.{HostServer}
use Rattle.git_host.specs.declared.report.HostStep.TheVariants as Step
use Rattle.git_host.specs.declared.report.Need.{Need}
use Rattle.git_host.specs.declared.report.Report.{Report}
use Rattle.git_host.specs.declared.report.Report.TheVariants.{Failed}
use Rattle.git_host.specs.declared.report.HostReported.{HostReported}
use Rattle.git_host.specs.declared.report.HostReported.TheVariants.{Packet as WasGiven, Taken, Hidden, NotAsked, MixedFormats, Unsorted, HeadTwice}
use Rattle.git_host.specs.declared.report.HostReported.TheVariants.{NotShallow, OutOfMemory}
use Rattle.git_host.specs.declared.host_server.Phase.{Phase}
use Rattle.git_host.specs.declared.host_server.Phase.TheVariants.{Advertising, Reading, Asked as Whole, Answering, Refusing, Ended}
use Rattle.git_names.specs.declared.object_format.Format.{Format}
use Rattle.git_host.proofs.HostAnswerMoves.{goes_as_it_was, lacks_and_goes}
use Rattle.git_host.proofs.HostCredits.{answering_credit, credit_falls, lent_credit}
use Rattle.git_host.proofs.LentStreams.{last_gives, last_goes, last_whole, lent_bytes, lent_handed, lent_within, packet_some, request_gives, request_goes}
use Rattle.git_host.proofs.LentStreams.{same_last}

module _ {A : Type 0} (s : HostSetting) (used : List ℕ) (over : Bool) (reported : List Facts) (given : List ℕ) (stream : RequestStream A) where
  module _ (flush : ℕ) (P : Asked → Facts → List Pkt → Type 0) (h : IsAtRequest s used over reported given stream flush P) where
    -- the answer is whole
    pub request_whole : ((q : Asked) (f : Facts) (front : List Pkt) → P q f front → IsAnswerBy whole s.offer.format q f front)
        → IsReading s used over reported given stream
    request_whole is = record { asked = h.asked; reads = h.reads; all = last_whole s h.asked reported given P P h.last is }

    -- the host refused it
    pub request_refused : (kind : Kind) → ((q : Asked) (f : Facts) (front : List Pkt) → P q f front
        → IsTailBy kind s.offer.format (record { kind = kind; offset = flush }) q f front)
        → IsHosted s used over reported given (ended_by kind flush)
    request_refused kind is = inr (
      h.reads.goes_on,
      record {
        asked = h.asked;
        are_asked = h.are_asked;
        at = h.at;
        last = subst (λ (fs : List Facts). AtLast s h.asked fs given (IsTailBy kind s.offer.format (record { kind = kind; offset = flush })))
            (same_last reported) (last_goes s h.asked reported given P (IsTailBy kind s.offer.format (record { kind = kind; offset = flush }))
            (λ f. f) h.last is);
      },
    )

-- the error packet for a request that asks for what the store lacks
pub lacking_tail : (kind : Kind) (format : Format) (fault : Fault) (q : Asked) (f : Facts) (front : List Pkt) → IsLacking kind q f → front ≡ []
    → IsTailBy kind format fault q f (front ++ error_packet fault ∷ [])
lacking_tail NotOurs format fault q f front lacks none = inl (lacks, ap (λ (l : List Pkt). l ++ error_packet fault ∷ []) none)
lacking_tail UnknownRef format fault q f front lacks none = (lacks, ap (λ (l : List Pkt). l ++ error_packet fault ∷ []) none)
lacking_tail kind format fault (fetch q) (of_fetch a t) front lacks none = absurd lacks
lacking_tail kind format fault (fetch q) (of_references t) front lacks none = absurd lacks
lacking_tail kind format fault (fetch q) (of_sizes t) front lacks none = absurd lacks
lacking_tail kind format fault (ls_refs q) f front lacks none = absurd lacks
lacking_tail kind format fault (object_info q) f front lacks none = absurd lacks

-- ---- what a report does

unasked : {A : Type 0} (report : Report) (phase : Phase A) → ((answer : HostAnswer A) → phase ≡ Answering answer → ⊥) → HasReason report phase NotAsked
unasked report Advertising other = refl
unasked report Reading other = refl
unasked report (Whole request) other = refl
unasked report (Answering answer) other = absurd (other answer refl)
unasked report (Refusing fault) other = refl
unasked report (Ended outcome) other = refl

pub not_asked : {A : Type 0} (report : Report) (old : HostServer A) → ((answer : HostAnswer A) → old.phase ≡ Answering answer → ⊥)
    → ReportsHost report old NotAsked old
not_asked report old other s used over facts given h = (
  subst (λ (fs : List Facts). Hosts s used over fs (given ++ []) old) (sym (same_last facts))
      (subst (λ (bytes : List ℕ). Hosts s used over facts bytes old) (sym (append-nil given)) h),
  tt,
  unasked report old.phase other,
  refl,
)

module _ {A : Type 0} (s : HostSetting) (used : List ℕ) (over : Bool) (facts : List Facts) (given : List ℕ) (flush : ℕ) (old new : RequestStream A)
    (hold : ArrayVec ℕ) (lent : IsLent old hold new) (fits : length hold.items ≤ 65520) (a b : HostAnswer A)
    (h : IsAtRequest s used over facts given old flush (IsAnswering (terms_of s) a)) where
  pub answer_gives : (with : Facts → Facts) → GivesOn with a hold.items b
      → IsAtRequest s used over (with_last with facts) (given ++ hold_of new) new flush (IsAnswering (terms_of s) b)
  answer_gives with gives = request_gives old hold new lent fits s used over facts given flush (IsAnswering (terms_of s) a) (IsAnswering (terms_of s) b)
      h with (gives (terms_of s))

  pub answer_goes : (with : Facts → Facts) → GoesOn with a b
      → IsAtRequest s used over (with_last with facts) given new flush (IsAnswering (terms_of s) b)
  answer_goes with goes = request_goes old hold new lent fits s used over facts given flush (IsAnswering (terms_of s) a) (IsAnswering (terms_of s) b)
      h with (goes (terms_of s))

  goes_to : (with : Facts → Facts) → GoesOn with a b
      → IsAtRequest s used over (with_last with facts) (given ++ []) new flush (IsAnswering (terms_of s) b)
  goes_to with goes = subst (λ (bytes : List ℕ). IsAtRequest s used over (with_last with facts) bytes new flush (IsAnswering (terms_of s) b))
      (sym (append-nil given)) (answer_goes with goes)

  handed_out : (with : Facts → Facts) → GivesOn with a hold.items b → AreHandedOut (hold_of new)
  handed_out with gives =
      let (packet, held, is) = gives (terms_of s) h.last.q h.last.f h.last.front h.last.last in
      lent_handed old hold new lent (packet_some hold.items packet held) fits

  pub report_done : (report : Report) (r : HostReported) → ReportsBy report a r hold.items b
      → IsAtRequest s used over (with_last (with_reported r report) facts) (given ++ given_with r new) new flush (IsAnswering (terms_of s) b)
      × IsGivenWith r new × HasReason report (Answering a) r × EndsHost report r (Answering a) (Answering b)
  report_done report WasGiven done = (answer_gives (with_report report) done.0, handed_out (with_report report) done.0, tt, done.1)
  report_done report Taken done = (goes_to (with_report report) done.0, tt, tt, done.1)
  report_done report Hidden done = (goes_to (with_hidden report) done.0, tt, done.1, tt)
  report_done report NotAsked done = (goes_to (λ f. f) (goes_as_it_was a b done.0), tt, done.1, ap Answering done.0)
  report_done report MixedFormats done = (goes_to (λ f. f) (goes_as_it_was a b done.0), tt, done.1, ap Answering done.0)
  report_done report Unsorted done = (goes_to (λ f. f) (goes_as_it_was a b done.0), tt, done.1, ap Answering done.0)
  report_done report HeadTwice done = (goes_to (λ f. f) (goes_as_it_was a b done.0), tt, done.1, ap Answering done.0)
  report_done report NotShallow done = (goes_to (λ f. f) (goes_as_it_was a b done.0), tt, done.1, ap Answering done.0)
  report_done report OutOfMemory done = (goes_to (λ f. f) (lacks_and_goes a b done.0), tt, done.1, done.0)

  -- a packet of the answer
  pub packet_done : GivesOn (λ f. f) a hold.items b
      → IsAtRequest s used over facts (given ++ hold_of new) new flush (IsAnswering (terms_of s) b) × AreHandedOut (hold_of new)
  packet_done gives = (
    subst (λ (fs : List Facts). IsAtRequest s used over fs (given ++ hold_of new) new flush (IsAnswering (terms_of s) b))
        (same_last facts) (answer_gives (λ f. f) gives),
    handed_out (λ f. f) gives,
  )

  -- or something that it needs
  pub need_done : GoesOn (λ f. f) a b → IsAtRequest s used over facts given new flush (IsAnswering (terms_of s) b)
  need_done goes = subst (λ (fs : List Facts). IsAtRequest s used over fs given new flush (IsAnswering (terms_of s) b)) (same_last facts)
      (answer_goes (λ f. f) goes)

  -- the answer is whole, or broke off, or the store lacks what is asked for
  same_done : IsAtRequest s used over facts given new flush (IsAnswering (terms_of s) a)
  same_done = subst (λ (fs : List Facts). IsAtRequest s used over fs given new flush (IsAnswering (terms_of s) a)) (same_last facts)
      (request_goes old hold new lent fits s used over facts given flush (IsAnswering (terms_of s) a) (IsAnswering (terms_of s) a) h (λ f. f)
      (λ q f front x. x))

  pub whole_done : IsGiven whole a → IsReading s used over facts given new
  whole_done is = request_whole s used over facts given new flush (IsAnswering (terms_of s) a) same_done (is (terms_of s))

  pub broken_done : IsGiven broken a → IsHosted s used over facts given (ended_by PackSource flush)
  broken_done is = request_refused s used over facts given new flush (IsAnswering (terms_of s) a) same_done PackSource
      (λ q f front x. inl (is (terms_of s) q f front x))

  pub lacking_done : (kind : Kind) → LacksIt kind a → hold.items ≡ spelling_of (error_packet (record { kind = kind; offset = flush }))
      → IsHosted s used over facts (given ++ hold_of new) (ended_by kind flush)
  lacking_done kind lacks written =
      let fault : Fault = record { kind = kind; offset = flush } in
      inr (
        h.reads.goes_on,
        record {
          asked = h.asked;
          are_asked = h.are_asked;
          at = h.at;
          last = subst (λ (bytes : List ℕ). AtLast s h.asked facts (given ++ bytes) (IsTailBy kind s.offer.format fault)) (sym (lent_bytes old hold new lent))
              (subst (λ (fs : List Facts). AtLast s h.asked fs (given ++ hold.items) (IsTailBy kind s.offer.format fault)) (same_last facts)
              (last_gives s h.asked facts given (IsAnswering (terms_of s) a) (IsTailBy kind s.offer.format fault) (λ f. f) hold.items fits h.last
              (λ q f front x. let (lack, none) = lacks (terms_of s) q f front x in
              (error_packet fault, written, lacking_tail kind s.offer.format fault q f front lack none))));
        },
      )

  -- the store cannot answer, and nothing of a pack was sent
  pub cut_done : IsCut a → hold.items ≡ spelling_of (error_packet (record { kind = PackSource; offset = flush }))
      → IsHosted s used over facts (given ++ hold_of new) (ended_by PackSource flush)
  cut_done cut written =
      let fault : Fault = record { kind = PackSource; offset = flush } in
      inr (
        h.reads.goes_on,
        record {
          asked = h.asked;
          are_asked = h.are_asked;
          at = h.at;
          last = subst (λ (bytes : List ℕ). AtLast s h.asked facts (given ++ bytes) (IsTailBy PackSource s.offer.format fault))
              (sym (lent_bytes old hold new lent))
              (subst (λ (fs : List Facts). AtLast s h.asked fs (given ++ hold.items) (IsTailBy PackSource s.offer.format fault)) (same_last facts)
              (last_gives s h.asked facts given (IsAnswering (terms_of s) a) (IsTailBy PackSource s.offer.format fault) (λ f. f) hold.items fits h.last
              (λ q f front x. let (begins, before) = cut (terms_of s) q f front x in
              (error_packet fault, written, inr (record { front = front; begins = begins; before = before; packets_are = refl })))));
        },
      )

-- ---- where the steps of an answer lead

module _ {A : Type 0} where
  -- an answer leads where it needs nothing, and if it broke off to the end
  pub answer_leads : (old new : Phase A) (a b : HostAnswer A) (r known : AnswerStep) → old ≡ Answering a → WaitsStill a r b → r ≡ known
      → ((need : Need) → known ≡ Needs need → ⊥) → (is_broken a ≡ true → IsLostIn new) → LeadsTo old new
  answer_leads old new a b r known was waits is other leads =
      subst (λ (p : Phase A). LeadsTo p new) (sym was) (leads, λ need needed. absurd (other need (sym is ∙ (waits need needed).0)))

  -- an answer that did not break off leads anywhere
  pub other_leads : (old new : Phase A) (a b : HostAnswer A) (r known : AnswerStep) → old ≡ Answering a → (is_broken a ≡ true → r ≡ Broken)
      → WaitsStill a r b → r ≡ known → ((need : Need) → known ≡ Needs need → ⊥) → (known ≡ Broken → ⊥) → LeadsTo old new
  other_leads old new a b r known was breaks waits is other sound =
      answer_leads old new a b r known was waits is other (λ lost. absurd (sound (sym is ∙ breaks lost)))

  -- one that needs something stays
  pub need_leads : (old : Phase A) (a b : HostAnswer A) (r : AnswerStep) (need : Need) → old ≡ Answering a → (is_broken a ≡ true → r ≡ Broken)
      → WaitsStill a r b → r ≡ Needs need → LeadsTo old (Answering b)
  need_leads old a b r need was breaks waits is =
      subst (λ (p : Phase A). LeadsTo p (Answering b)) (sym was) (
        λ lost. absurd (let both : Needs need ≡ Broken = sym is ∙ breaks lost in cc),
        λ other needed. ap Answering (waits other needed).1,
      )

pub answering_no : {A : Type 0} (phase : Phase A) → is_answering phase ≡ true → ((answer : HostAnswer A) → phase ≡ Answering answer → ⊥) → ⊥
answering_no Advertising is other = cc
answering_no Reading is other = cc
answering_no (Whole request) is other = cc
answering_no (Answering answer) is other = other answer refl
answering_no (Refusing fault) is other = cc
answering_no (Ended outcome) is other = cc

-- ---- the server after a step of its answer, or a report
pub answering_at : {A : Type 0} (old : HostServer A) (answer : HostAnswer A) → old.phase ≡ Answering answer
    → (s : HostSetting) (used : List ℕ) (over : Bool) (facts : List Facts) (given : List ℕ) → Hosts s used over facts given old
    → IsAtRequest s used over facts given old.stream old.flush (IsAnswering (terms_of s) answer)
answering_at {A = A} old answer was s used over facts given h =
    subst (λ (p : Phase A). HostsIn p s used over facts given old.stream old.flush) was h.stands

module _ {A : Type 0} (old : HostServer A) (answer next : HostAnswer A) (was : old.phase ≡ Answering answer) (hold : ArrayVec ℕ) (stream : RequestStream A)
    (lent : IsLent old.stream hold stream) where
  -- the server in this phase, whose hold was lent
  abbrev pub moved : Phase A → HostServer A
  moved phase = record old { stream = stream; phase = phase }

  pub falls : (phase : Phase A) → credit_in phase stream ≤ credit_of old
  falls phase = credit_falls phase old stream (answering_credit old answer was) (lent_credit old.stream hold stream lent)

  module _ (s : HostSetting) (used : List ℕ) (over : Bool) (facts : List Facts) (given : List ℕ) (h : Hosts s used over facts given old) where
    hosts : (phase : Phase A) (now : List Facts) (sent : List ℕ) → HostsIn phase s used over now sent stream old.flush
        → Hosts s used over now sent (moved phase)
    hosts phase now sent stands = record {
      offer = h.offer;
      limit = h.limit;
      reads_within = lent_within old.stream hold stream lent s h.reads_within;
      stands = stands;
    }

  module _ (few : length hold.items ≤ 65520) where
    -- a report of the host
    pub reports_on : (report : Report) (r : HostReported) → ReportsBy report answer r hold.items next → ReportsHost report old r (moved (Answering next))
    reports_on report r done s used over facts given h =
        let (is, handed, why, ends) = report_done s used over facts given old.flush old.stream stream hold lent few answer next
        (answering_at old answer was s used over facts given h) report r done in (
          hosts s used over facts given h (Answering next) (with_last (with_reported r report) facts) (given ++ given_with r stream) is,
          handed,
          subst (λ (p : Phase A). HasReason report p r) (sym was) why,
          subst (λ (p : Phase A). EndsHost report r p (Answering next)) (sym was) ends,
        )

    -- that the store cannot answer, where nothing of a pack was sent
    pub cut_short : (phase : Phase A) → phase ≡ Ended (ended_by PackSource old.flush) → IsCut answer
        → hold.items ≡ spelling_of (error_packet (record { kind = PackSource; offset = old.flush })) → ReportsHost Failed old WasGiven (moved phase)
    cut_short phase to cut written = subst (λ (p : Phase A). ReportsHost Failed old WasGiven (moved p)) (sym to) (λ s used over facts given h.
        let done = cut_done s used over facts given old.flush old.stream stream hold lent few answer next
        (answering_at old answer was s used over facts given h) cut written in (
          hosts s used over facts given h (Ended (ended_by PackSource old.flush)) (with_last (λ f. f) facts) (given ++ hold_of stream)
              (subst (λ (fs : List Facts). IsHosted s used over fs (given ++ hold_of stream) (ended_by PackSource old.flush)) (sym (same_last facts)) done),
          lent_handed old.stream hold stream lent
              (packet_some hold.items (error_packet (record { kind = PackSource; offset = old.flush })) written) few,
          subst (λ (p : Phase A). HasReason Failed p WasGiven) (sym was) tt,
          refl,
        ))

    module _ (r : AnswerStep) (waits : WaitsStill answer r next) where
      -- the answer broke off
      pub steps_broken : (bytes : List ℕ) (outcome : Outcome) (phase : Phase A) → outcome ≡ ended_by PackSource old.flush → phase ≡ Ended outcome
          → r ≡ Broken → StepsAnswer answer r bytes next → StepsHost old (Step.Ended outcome) (moved phase)
      steps_broken bytes outcome phase ended to is steps =
          subst (λ (p : Phase A). StepsHost old (Step.Ended outcome) (moved p)) (sym to) (λ s used over facts given h.
          let done = broken_done s used over facts given old.flush old.stream stream hold lent few answer next
          (answering_at old answer was s used over facts given h) (subst (λ (x : AnswerStep). StepsAnswer answer x bytes next) is steps) in (
            hosts s used over facts given h (Ended outcome) facts given (subst (λ (o : Outcome). IsHosted s used over facts given o) (sym ended) done),
            refl,
            answer_leads old.phase (Ended outcome) answer next r Broken was waits is (λ need is. cc) (λ lost. subst IsLost (sym ended) refl),
          ))

      module _ (breaks : is_broken answer ≡ true → r ≡ Broken) where
        pub steps_packet : r ≡ GivesPacket → StepsAnswer answer r hold.items next → StepsHost old Step.Packet (moved (Answering next))
        steps_packet is steps s used over facts given h =
            let (done, handed) = packet_done s used over facts given old.flush old.stream stream hold lent few answer next
            (answering_at old answer was s used over facts given h) (subst (λ (x : AnswerStep). StepsAnswer answer x hold.items next) is steps) in (
              hosts s used over facts given h (Answering next) facts (given ++ hold_of stream) done,
              handed,
              other_leads old.phase (Answering next) answer next r GivesPacket was breaks waits is (λ need is. cc) (λ is. cc),
            )

        pub steps_need : (bytes : List ℕ) (need : Need) → r ≡ Needs need → StepsAnswer answer r bytes next
            → StepsHost old (Step.Need need) (moved (Answering next))
        steps_need bytes need is steps s used over facts given h =
            let (goes, needed) = subst (λ (x : AnswerStep). StepsAnswer answer x bytes next) is steps in (
              hosts s used over facts given h (Answering next) facts given (need_done s used over facts given old.flush old.stream stream hold lent few
                  answer next (answering_at old answer was s used over facts given h) goes),
              needed,
              need_leads old.phase answer next r need was breaks waits is,
            )

        pub steps_whole : (bytes : List ℕ) (phase : Phase A) → phase ≡ Reading → r ≡ AllGiven → StepsAnswer answer r bytes next
            → StepsHost old Step.NeedInput (moved phase)
        steps_whole bytes phase to is steps = subst (λ (p : Phase A). StepsHost old Step.NeedInput (moved p)) (sym to) (λ s used over facts given h. (
          hosts s used over facts given h Reading facts given (whole_done s used over facts given old.flush old.stream stream hold lent few answer next
              (answering_at old answer was s used over facts given h) (subst (λ (x : AnswerStep). StepsAnswer answer x bytes next) is steps)),
          tt,
          other_leads old.phase Reading answer next r AllGiven was breaks waits is (λ need is. cc) (λ is. cc),
        ))

        -- the store lacks what is asked for, and the error packet is written
        pub steps_refused : (bytes : List ℕ) (kind : Kind) (phase : Phase A) → phase ≡ Ended (ended_by kind old.flush) → r ≡ IsRefused kind
            → StepsAnswer answer r bytes next → hold.items ≡ spelling_of (error_packet (record { kind = kind; offset = old.flush }))
            → StepsHost old Step.Packet (moved phase)
        steps_refused bytes kind phase to is steps written =
            subst (λ (p : Phase A). StepsHost old Step.Packet (moved p)) (sym to) (λ s used over facts given h.
            let done = lacking_done s used over facts given old.flush old.stream stream hold lent few answer next
            (answering_at old answer was s used over facts given h) kind (subst (λ (x : AnswerStep). StepsAnswer answer x bytes next) is steps) written in (
              hosts s used over facts given h (Ended (ended_by kind old.flush)) facts (given ++ hold_of stream) done,
              lent_handed old.stream hold stream lent (packet_some hold.items (error_packet (record { kind = kind; offset = old.flush })) written) few,
              other_leads old.phase (Ended (ended_by kind old.flush)) answer next r (IsRefused kind) was breaks waits is (λ need is. cc) (λ is. cc),
            ))
