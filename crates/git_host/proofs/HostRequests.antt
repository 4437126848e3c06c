-- A host's server is asked about the request that came, which is accepted, or refused by a text.
use Rattle.std.proofs.Common.{◌≡◌, ℕ, ◌≤◌, Bool, true, List, [], ◌∷◌, ◌++◌, length, refl, sym, ap, ◌∙◌, subst, inr}
use Rattle.arrayvec.specs.ArrayVec.{ArrayVec}
use Rattle.git_pkt.specs.Packets.{Pkt, spelling_of}
use Rattle.git_pkt.specs.declared.fault.Fault.{Fault}
use Rattle.git_pkt.specs.declared.fault.Kind.TheVariants.{NotOurs}
use Rattle.git_msg.specs.declared.requests.Request.{Request}
use Rattle.git_msg.specs.Asked.{Asked}
use Rattle.git_msg.specs.Machine.HeldRequest.{asked_of, holding_of}
use Rattle.git_msg.specs.Machine.RequestStreams.{IsLent, hold_of}
use Rattle.git_msg.specs.declared.streams.RequestStream.{RequestStream}
use Rattle.git_msg.specs.declared.offers.Offer.{Offer}
use Rattle.git_host.specs.HostSessions.{AtLast, Facts, HostSetting, IsHosted, IsTailBy, nothing_for, refusal_packet}
use Rattle.git_host.specs.HostServer.{terms_of, Hosts, HostsIn, IsAtRequest, IsUntouched, IsAccepted, is_asked, ended_by}
use Rattle.git_host.specs.HostAnswers.{IsBegun, IsAnswering}
use Rattle.git_host.specs.declared.host_answer.HostAnswer.{HostAnswer}
use Rattle.git_host.specs.declared.host_server.HostServer.{HostServer}
use Rattle.git_host.specs.declared.host_server.Phase.{Phase}
use Rattle.git_host.specs.declared.host_server.Phase.TheVariants.{Advertising, Reading, Asked as Whole, Answering, Refusing, Ended}
use Rattle.git_names.specs.declared.object_format.Format.{Format}
use Rattle.git_host.proofs.LentStreams.{last_gives, last_goes, lent_bytes, same_last}

pub asked_is : {A : Type 0} (phase : Phase A) → is_asked phase ≡ true → (request : Request A) × (phase ≡ Whole request)
asked_is Advertising is = absurd (cc)
asked_is Reading is = absurd (cc)
asked_is (Whole request) is = (request, refl)
asked_is (Answering answer) is = absurd (cc)
asked_is (Refusing fault) is = absurd (cc)
asked_is (Ended outcome) is = absurd (cc)

-- the host refused the request that came by a text
pub text_refuses : {A : Type 0} (s : HostSetting) (used : List ℕ) (over : Bool) (facts : List Facts) (given : List ℕ) (flush : ℕ) (old new : RequestStream A)
    (hold : ArrayVec ℕ) (lent : IsLent old hold new) (fits : length hold.items ≤ 65520) (request : Request A) (text : List ℕ)
    → IsAtRequest s used over facts given old flush (IsUntouched s.limit (holding_of request)) → hold.items ≡ spelling_of (refusal_packet text)
    → IsHosted s used over facts (given ++ hold_of new) (ended_by NotOurs flush)
text_refuses s used over facts given flush old new hold lent fits request text h written =
    let fault : Fault = record { kind = NotOurs; offset = flush } in
    inr (
      h.reads.goes_on,
      record {
        asked = h.asked;
        are_asked = h.are_asked;
        at = h.at;
        last = subst (λ (bytes : List ℕ). AtLast s h.asked facts (given ++ bytes) (IsTailBy NotOurs s.offer.format fault)) (sym (lent_bytes old hold new lent))
            (subst (λ (fs : List Facts). AtLast s h.asked fs (given ++ hold.items) (IsTailBy NotOurs s.offer.format fault)) (same_last facts)
            (last_gives s h.asked facts given (IsUntouched s.limit (holding_of request)) (IsTailBy NotOurs s.offer.format fault) (λ f. f) hold.items fits h.last
            (λ q f front x. (
              refusal_packet text,
              written,
              inr (text, x.nothing, ap (λ (l : List Pkt). l ++ refusal_packet text ∷ []) x.none),
            ))));
      },
    )

touched : {A : Type 0} (s : HostSetting) (request : Request A) (answer : HostAnswer A) (q : Asked) (f : Facts) (front : List Pkt)
    → IsUntouched s.limit (holding_of request) q f front → IsBegun s.offer.format request answer → IsAnswering (terms_of s) answer q f front
touched s request answer q f front h begins =
    subst (λ (x : Asked). IsAnswering (terms_of s) answer x f front) h.same
    (subst (λ (x : Facts). IsAnswering (terms_of s) answer (asked_of request) x front) (ap nothing_for h.same ∙ sym h.nothing)
    (subst (λ (x : List Pkt). IsAnswering (terms_of s) answer (asked_of request) (nothing_for (asked_of request)) x) (sym h.none)
    (begins (terms_of s) refl h.bounded)))

-- the request that came is answered from now on
pub accepts : {A : Type 0} (s : HostSetting) (used : List ℕ) (over : Bool) (facts : List Facts) (given : List ℕ) (flush : ℕ) (stream : RequestStream A)
    (request : Request A) (answer : HostAnswer A) → IsBegun s.offer.format request answer
    → IsAtRequest s used over facts given stream flush (IsUntouched s.limit (holding_of request))
    → IsAtRequest s used over facts given stream flush (IsAnswering (terms_of s) answer)
accepts s used over facts given flush stream request answer begins h = record {
  asked = h.asked;
  reads = h.reads;
  between = h.between;
  are_asked = h.are_asked;
  at = h.at;
  last = subst (λ (fs : List Facts). AtLast s h.asked fs given (IsAnswering (terms_of s) answer)) (same_last facts)
      (last_goes s h.asked facts given (IsUntouched s.limit (holding_of request)) (IsAnswering (terms_of s) answer) (λ f. f) h.last
      (λ q f front x. touched s request answer q f front x begins));
}

-- a request that is accepted
accepted_by : {A : Type 0} (phase new : Phase A) (format : Format) → is_asked phase ≡ true → IsAccepted format phase new
    → (answer : HostAnswer A) × (new ≡ Answering answer)
accepted_by (Whole request) (Answering answer) format is begins = (answer, refl)
accepted_by (Whole request) Advertising format is begins = absurd begins
accepted_by (Whole request) Reading format is begins = absurd begins
accepted_by (Whole request) (Whole other) format is begins = absurd begins
accepted_by (Whole request) (Refusing fault) format is begins = absurd begins
accepted_by (Whole request) (Ended outcome) format is begins = absurd begins
accepted_by Advertising new format is begins = absurd (cc)
accepted_by Reading new format is begins = absurd (cc)
accepted_by (Answering answer) new format is begins = absurd (cc)
accepted_by (Refusing fault) new format is begins = absurd (cc)
accepted_by (Ended outcome) new format is begins = absurd (cc)

accepted_in : {A : Type 0} (phase new : Phase A) (s : HostSetting) (used : List ℕ) (over : Bool) (facts : List Facts) (given : List ℕ)
    (stream : RequestStream A)
    (flush : ℕ) → is_asked phase ≡ true → IsAccepted s.offer.format phase new → HostsIn phase s used over facts given stream flush
    → HostsIn new s used over facts given stream flush
accepted_in (Whole request) (Answering answer) s used over facts given stream flush is begins h =
    accepts s used over facts given flush stream request answer begins h
accepted_in (Whole request) Advertising s used over facts given stream flush is begins h = absurd begins
accepted_in (Whole request) Reading s used over facts given stream flush is begins h = absurd begins
accepted_in (Whole request) (Whole other) s used over facts given stream flush is begins h = absurd begins
accepted_in (Whole request) (Refusing fault) s used over facts given stream flush is begins h = absurd begins
accepted_in (Whole request) (Ended outcome) s used over facts given stream flush is begins h = absurd begins
accepted_in Advertising new s used over facts given stream flush is begins h = absurd (cc)
accepted_in Reading new s used over facts given stream flush is begins h = absurd (cc)
accepted_in (Answering answer) new s used over facts given stream flush is begins h = absurd (cc)
accepted_in (Refusing fault) new s used over facts given stream flush is begins h = absurd (cc)
accepted_in (Ended outcome) new s used over facts given stream flush is begins h = absurd (cc)

pub accepted_hosts : {A : Type 0} (old : HostServer A) (replaced new : Phase A) → replaced ≡ old.phase → is_asked old.phase ≡ true
    → IsAccepted old.offer.format replaced new
    → ((answer : HostAnswer A) × (new ≡ Answering answer)) × ((s : HostSetting) (used : List ℕ) (over : Bool) (facts : List Facts) (given : List ℕ)
    → Hosts s used over facts given old → HostsIn new s used over facts given old.stream old.flush)
accepted_hosts old replaced new same is begins =
    let from = subst (λ (p : Phase _). IsAccepted old.offer.format p new) same begins in (
      accepted_by old.phase new old.offer.format is from,
      λ s used over facts given h.
          accepted_in old.phase new s used over facts given old.stream old.flush is
          (subst (λ (o : Offer). IsAccepted o.format old.phase new) h.offer from) h.stands,
    )

-- a request that the host refuses by a text
pub refuses_hosts : {A : Type 0} (s : HostSetting) (used : List ℕ) (over : Bool) (facts : List Facts) (given : List ℕ) (old : HostServer A)
    (new : RequestStream A) (hold : ArrayVec ℕ) (lent : IsLent old.stream hold new) (fits : length hold.items ≤ 65520) (text : List ℕ)
    → is_asked old.phase ≡ true
    → hold.items ≡ spelling_of (refusal_packet text) → Hosts s used over facts given old
    → IsHosted s used over facts (given ++ hold_of new) (ended_by NotOurs old.flush)
refuses_hosts s used over facts given old new hold lent fits text is written h =
    let (request, phase) = asked_is old.phase is in
    text_refuses s used over facts given old.flush old.stream new hold lent fits request text
    (subst (λ (p : Phase _). HostsIn p s used over facts given old.stream old.flush) phase h.stands) written
