-- A host's server that gives its advertisement, or the error packet of a fault, or waits.
use Rattle.std.proofs.Common.{arith, ◌≡◌, ℕ, ◌≤◌, Bool, if◌then◌else◌, List, [], ◌++◌, length, refl, sym, ap, ◌∙◌, subst, append-nil, inl}
use Rattle.arrayvec.specs.ArrayVec.{ArrayVec}
use Rattle.git_pkt.specs.Packets.{spelling_of}
use Rattle.git_pkt.specs.declared.fault.Fault.{Fault}
use Rattle.git_msg.specs.declared.requests.Request.{Request}
use Rattle.git_msg.specs.Machine.RequestStreams.{IsLent, hold_of}
use Rattle.git_msg.specs.declared.streams.RequestStream.{RequestStream}
use Rattle.git_server.specs.Answers.{AllFit, advertisement_of, error_packet, spelled}
use Rattle.git_server.specs.declared.outcome.Outcome.{Outcome}
use Rattle.git_server.specs.declared.outcome.Outcome.TheVariants.{Refused}
use Rattle.git_host.specs.HostSessions.{AreAnswersBy, Facts, HostSetting, IsHosted, advertised}
use Rattle.git_host.specs.HostServer.{AreHandedOut, IsAdvertising, IsReading, IsRefusing, LeadsTo, StepsHost, WaitsFor}
use Rattle.git_host.specs.declared.host_server.HostServer.{HostServer}
use Rattle.git_host.specs.declared.report.HostStep.TheVariants.{NeedInput as NeedsInput, Asked as AsksFor, Ended as HasEnded}
use Rattle.git_host.specs.declared.host_server.Phase.{Phase}
use Rattle.git_host.specs.declared.host_server.Phase.TheVariants.{Reading, Asked as Whole, Ended}
use Rattle.git_host.proofs.LentStreams.{all_fit, lent_bytes, lent_handed, lent_reads_on, packet_fits, packet_some, some_advertised, some_packets}

module _ {A : Type 0} (s : HostSetting) (used : List ℕ) (over : Bool) (reported : List Facts) (given : List ℕ) (stream : RequestStream A) where
  -- the advertisement was sent
  pub advertised_now : (old : RequestStream A) (hold : ArrayVec ℕ) → IsLent old hold stream → length hold.items ≤ 65520
      → hold.items ≡ spelled (advertisement_of s.offer) → IsAdvertising s used over reported given old
      → IsReading s used over reported (given ++ hold_of stream) stream × AreHandedOut (hold_of stream)
  advertised_now old hold lent fits written h = (
    record {
      asked = [];
      reads = lent_reads_on old hold stream lent fits s used over [] h.reads;
      all = record {
        answers = [];
        answered = subst (λ (fs : List Facts). AreAnswersBy s.offer.format [] fs []) (sym h.none_reported) refl;
        given_is = ap (λ (l : List ℕ). l ++ hold_of stream) h.none_given ∙ lent_bytes old hold stream lent ∙ written
            ∙ ap spelled (ap (λ (b : Bool). if b then advertisement_of s.offer else []) (sym h.advertises) ∙ sym (append-nil (advertised s)));
        fit = subst AllFit
            (ap (λ (b : Bool). if b then advertisement_of s.offer else []) (sym h.advertises) ∙ sym (append-nil (advertised s)))
            (all_fit (advertisement_of s.offer) (omega (arith, fits, ap length written)));
      };
    },
    lent_handed old hold stream lent (omega (arith, ap length written, some_packets (advertisement_of s.offer) (some_advertised s.offer))) fits,
  )

  -- the error packet of a fault of the input was sent
  pub fault_reported : (old : RequestStream A) (hold : ArrayVec ℕ) (fault : Fault) → IsLent old hold stream → length hold.items ≤ 65520
      → hold.items ≡ spelling_of (error_packet fault) → IsRefusing s used over reported given old fault
      → IsHosted s used over reported (given ++ hold_of stream) (Refused fault) × AreHandedOut (hold_of stream)
  fault_reported old hold fault lent fits written h = (
    inl (record {
      before = given;
      stops = h.stops;
      given_is = ap (λ (l : List ℕ). given ++ l) (lent_bytes old hold stream lent ∙ written
          ∙ sym (append-nil (spelling_of (error_packet fault))) ∙ ap spelled (sym h.tail));
      fit = subst AllFit (sym h.tail) (packet_fits hold.items (error_packet fault) written fits, tt);
    }),
    lent_handed old hold stream lent (packet_some hold.items (error_packet fault) written) fits,
  )

module _ {A : Type 0} where
  -- nothing changes where a server waits, or its session has ended
  pub reads_still : (old : HostServer A) → old.phase ≡ Reading → StepsHost old NeedsInput old
  reads_still old is s used over reported given h = (
    h,
    subst (λ (p : Phase A). WaitsFor NeedsInput p) (sym is) tt,
    subst (λ (p : Phase A). LeadsTo p p) (sym is) refl,
  )

  pub asks_still : (old : HostServer A) (request : Request A) → old.phase ≡ Whole request → StepsHost old AsksFor old
  asks_still old request is s used over reported given h = (
    h,
    subst (λ (p : Phase A). WaitsFor AsksFor p) (sym is) tt,
    subst (λ (p : Phase A). LeadsTo p p) (sym is) refl,
  )

  pub ends_still : (old : HostServer A) (outcome : Outcome) → old.phase ≡ Ended outcome → StepsHost old (HasEnded outcome) old
  ends_still old outcome is s used over reported given h = (
    h,
    subst (λ (p : Phase A). WaitsFor (HasEnded outcome) p) (sym is) refl,
    subst (λ (p : Phase A). LeadsTo p p) (sym is) refl,
  )
