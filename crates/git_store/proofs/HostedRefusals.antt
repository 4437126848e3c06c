-- Sessions that are refused, of a host that answers as one repository does.
use Rattle.std.proofs.Common.{arith, ◌≡◌, ◌≢◌, ◌⊎◌, ℕ, ◌+◌, ◌-◌, Bool, true, false, List, [], ◌∷◌, ◌++◌, length, Option, refl, sym, ap, ◌∙◌}
use Rattle.std.proofs.Common.{append_assoc, append-nil, length-append, length-drop, subst, inl, inr}
use Rattle.std.proofs.lemmas.List.Elements.{All-nil}
use Rattle.git_pkt.specs.Packets.{Pkt, Spells, flush}
use Rattle.git_pkt.specs.Splits.{Given, SpellsAll}
use Rattle.git_pkt.specs.Faults.{StopsBy as StopsAt}
use Rattle.git_pkt.specs.declared.fault.Fault.{Fault}
use Rattle.git_pkt.specs.declared.fault.Kind.{Kind}
use Rattle.git_pkt.specs.declared.fault.Kind.TheVariants.{NotOurs, PackSource, Truncated, UnknownRef}
use Rattle.git_names.specs.declared.object_format.Format.{Format}
use Rattle.git_msg.specs.declared.offers.Offer.{Offer}
use Rattle.git_msg.specs.Admission.{AreAdmitted, IsAdmitted, IsUnbarred}
use Rattle.git_msg.specs.Arguments.{Arg}
use Rattle.git_msg.specs.Asked.{Asked, fetch, ls_refs, object_info}
use Rattle.git_msg.specs.Lines.{Line}
use Rattle.git_msg.specs.Requests.{AreBegun, AreLines}
use Rattle.git_msg.specs.Machine.RequestStreams.{AreAsked, IsOne, IsRefusedAs}
use Rattle.git_msg.proofs.Admission.{admitted_more}
use Rattle.git_msg.proofs.LineLists.{lines_snoc}
use Rattle.git_msg.proofs.PacketFaults.{announced_of_packets}
use Rattle.git_msg.proofs.WholeRequests.{last_request}
use Rattle.git_server.specs.Admission.{HasAsked, barred}
use Rattle.git_server.specs.Answers.{AllFit, IsAnswerAs, refusal_by, spelled}
use Rattle.git_server.specs.Packs.{broken}
use Rattle.git_server.specs.Repository.{Repository}
use Rattle.git_server.specs.Sessions.{Begins, IsRefusedAsRead, IsSession, IsTailBy as IsServersTail, Setting}
use Rattle.git_server.specs.declared.outcome.Outcome.TheVariants.{Refused}
use Rattle.git_host.specs.HostSessions.{Facts, HostSetting, IsAnswerBy, IsHosted, IsTailBy, RefusesLast, ShowsWhere, advertised}
use Rattle.git_host.specs.HostSessions.{of_fetch, of_references, of_sizes}
use Rattle.git_host.specs.HostServer.{is_of_host}
use Rattle.git_store.specs.HostedRepository.{HasAllSoFar, HasWhatIsBegun, IsCutBeforePack, IsLostOfRepository, IsReportedBy, IsReportedUpTo}
use Rattle.git_store.specs.HostedRepository.{over_repository}
use Rattle.git_store.proofs.HostedAnswers.{all_answers, as_answers, as_requests, has_asked, session}
use Rattle.git_host.proofs.RepositoryFacts.{reported_answers}

module _ (offer : Offer) (limit : ℕ) (bars : Arg → Option Kind) where
  -- if no front of lines ends with an argument that is refused, no argument is
  admitted_from : (done gs : List Given) (before lines : List Line) → AreLines offer limit [] done before → AreAdmitted bars before
      → AreLines offer limit before gs lines → ((front more : List Given) → done ++ gs ≡ front ++ more → IsUnbarred offer limit bars front)
      → AreAdmitted bars (before ++ lines)
  admitted_from done [] before [] taken admitted are unbarred = subst (AreAdmitted bars) (sym (append-nil before)) admitted
  admitted_from done [] before (l ∷ ls) taken admitted are unbarred = absurd are
  admitted_from done (g ∷ gs) before [] taken admitted are unbarred = absurd are
  admitted_from done (g ∷ gs) before (l ∷ ls) taken admitted are unbarred =
      let now = lines_snoc offer limit [] done before g l taken are.0 in
      let cut = append_assoc done (g ∷ []) gs in
      let one = admitted_more offer limit bars done g before (before ++ l ∷ []) taken admitted now (unbarred (done ++ g ∷ []) gs (sym cut)) in
      subst (AreAdmitted bars) (append_assoc before (l ∷ []) ls)
      (admitted_from (done ++ g ∷ []) gs (before ++ l ∷ []) ls now one are.1 (λ front more e. unbarred front more (sym cut ∙ e)))

-- ---- by a packet, by a byte or at the end

shown_before : (over : Bool) (kind : Kind) → ShowsWhere over kind → kind ≢ Truncated → over ≡ false
shown_before true kind shows other = absurd (other shows)
shown_before false kind shows other = refl

shown_at_the_end : (over : Bool) (kind : Kind) → ShowsWhere over kind → kind ≡ Truncated → over ≡ true
shown_at_the_end true kind shows is = refl
shown_at_the_end false kind shows is = absurd (shows is)

not_of_host : (kind : Kind) → is_of_host kind ≡ false → kind ≢ PackSource
not_of_host kind other is = let of : is_of_host PackSource ≡ false = subst (λ (k : Kind). is_of_host k ≡ false) is other in absurd (cc)

refusal_is : (kind : Kind) (s : Setting) (left : List Given) (fault : Fault) → kind ≢ PackSource → IsServersTail kind s left fault (refusal_by kind fault)
refusal_is PackSource s left fault other = absurd (other refl)
refusal_is kind s left fault other = refl

-- a host refuses by names of its own
named_by_host : (kind : Kind) (format : Format) (fault : Fault) (q : Asked) (f : Facts) (tail : List Pkt) → IsTailBy kind format fault q f tail
    → is_of_host kind ≡ true
named_by_host NotOurs format fault q f tail h = refl
named_by_host UnknownRef format fault q f tail h = refl
named_by_host PackSource format fault q f tail h = refl
named_by_host kind format fault q f tail h = absurd h

module _ (s : HostSetting) (repo : Repository) (failures : ℕ) where
  begins : (left front more : List Given) → left ≡ front ++ more → AreBegun s.offer s.limit front → HasAllSoFar s repo left
      → Begins (over_repository s repo failures) front
  begins left front more cut (lines, taken) had = record {
    lines = lines;
    taken = taken;
    admitted = admitted_from s.offer s.limit (barred repo) [] front [] lines tt (All-nil (IsAdmitted (barred repo))) taken
        (λ part rest e. had part (rest ++ more) (cut ∙ ap (λ (l : List Given). l ++ more) e ∙ append_assoc part rest more));
  }

  refused_alike : (over : Bool) (left : List Given) (rest : List ℕ) (end : ℕ) (fault : Fault) → HasAllSoFar s repo left → ShowsWhere over fault.kind
      → IsRefusedAs s.offer s.limit left rest end fault → IsRefusedAsRead (over_repository s repo failures) over left rest end fault
  refused_alike over left rest end fault had shows (inl h) = inl (record {
    front = h.front;
    last = h.last;
    whole = h.whole;
    begins = begins left h.front (h.last ∷ []) h.whole h.begun had;
    announced = inr (had left [] (sym (append-nil left)), h.announced);
    no_rest = h.no_rest;
  })
  refused_alike over left rest end fault had shows (inr (inl h)) = inr (inl (record {
    goes_on = shown_before over fault.kind shows h.not_the_end;
    begins = begins left left [] (sym (append-nil left)) h.begun had;
    stops = h.stops;
    not_the_end = h.not_the_end;
  }))
  refused_alike over left rest end fault had shows (inr (inr h)) = inr (inr (record {
    ended = shown_at_the_end over fault.kind shows h.kind;
    begins = begins left left [] (sym (append-nil left)) h.begun had;
    unrefused = h.still_open;
    inside = h.inside;
    name = h.kind;
    at = h.at;
  }))

  pub refused_session : (used : List ℕ) (over : Bool) (reported : List Facts) (given : List ℕ) (fault : Fault) → IsReportedBy s repo used reported
      → HasWhatIsBegun s repo used → is_of_host fault.kind ≡ false → IsHosted s used over reported given (Refused fault)
      → IsSession (over_repository s repo failures) used over given (Refused fault)
  refused_session used over reported given fault of had other (inl h) =
      session s repo failures used over reported given of (Refused fault) h.before h.stops
      (inl (refused_alike over h.stops.left h.stops.rest (length used) fault (had h.stops.asked h.stops.left h.stops.rest h.stops.are_asked)
      h.stops.ends.0 h.stops.ends.1)) (refusal_by fault.kind fault) h.fit h.given_is
      (refusal_is fault.kind (over_repository s repo failures) h.stops.left fault (not_of_host fault.kind other))
  refused_session used over reported given fault of had other (inr h) =
      let named = named_by_host fault.kind s.offer.format fault h.1.last.q h.1.last.f h.1.last.front h.1.last.last in
      let both : true ≡ false = sym named ∙ other in
      absurd (cc)

-- ---- a lost pack

-- a pack is not lost by what is read
no_pack_at : (p : ℕ) (rest : List ℕ) (end offset : ℕ) → StopsAt p rest end PackSource offset → ⊥
no_pack_at p rest end offset h = h.0

no_pack_read : (offer : Offer) (limit : ℕ) (left : List Given) (rest : List ℕ) (end : ℕ) (fault : Fault) → fault.kind ≡ PackSource
    → IsRefusedAs offer limit left rest end fault → ⊥
no_pack_read offer limit left rest end fault is (inl h) = announced_of_packets PackSource tt offer limit left fault h.announced is
no_pack_read offer limit left rest end fault is (inr (inl h)) =
    no_pack_at (end - length rest) rest end fault.offset (subst (λ (k : Kind). StopsAt (end - length rest) rest end k fault.offset) is h.stops)
no_pack_read offer limit left rest end fault is (inr (inr h)) = let both : PackSource ≡ Truncated = sym is ∙ h.kind in absurd (cc)

-- the flush at the end of the bytes
last_flush : (p : ℕ) (bytes : List ℕ) (front : List Given) (last : Given) → SpellsAll p bytes (front ++ last ∷ []) [] → last.packet ≡ flush
    → last.offset + 4 ≡ p + length bytes
last_flush p bytes [] last (own, more, cut, at, spells, none) is =
    let flushes = subst (λ (x : Pkt). Spells x own) is spells in
    omega (arith, at, ap length cut, length-append own more, ap length none, length-drop 4 own, ap length flushes.body, spells.digits.four)
last_flush p bytes (g ∷ front) last (own, more, cut, at, spells, others) is =
    omega (arith, last_flush (p + length own) more front last others is, ap length cut, length-append own more)

module _ (s : HostSetting) (repo : Repository) (failures : ℕ) (used : List ℕ) (reported : List Facts) (given : List ℕ) (fault : Fault) where
  lost_with : (q : Asked) (f : Facts) (packets : List Pkt) → IsLostOfRepository repo q f → IsAnswerBy broken s.offer.format q f packets
      → HasAsked repo q × IsAnswerAs broken repo q packets
  lost_with (fetch q) (of_fetch a t) packets of h =
      (has_asked s.offer.format repo q a t.wanted of.0 h.0, reported_answers broken repo q t of.1 packets h.1.answer)
  lost_with (fetch q) (of_references t) packets of h = absurd of
  lost_with (fetch q) (of_sizes sizes) packets of h = absurd of
  lost_with (ls_refs q) f packets of h = absurd of
  lost_with (object_info q) f packets of h = absurd of

  lost : IsReportedUpTo (IsLostOfRepository repo) s repo used reported → fault.kind ≡ PackSource → (h : RefusesLast s used reported given fault)
      → IsAnswerBy broken s.offer.format h.last.q h.last.f h.last.front → IsSession (over_repository s repo failures) used false given (Refused fault)
  lost of is h answer =
      let l = h.last in
      let are = subst (λ (qs : List Asked). AreAsked s.offer s.limit used qs [] []) l.asked_is h.are_asked in
      let (reports, lost_is) = of l.earlier l.q l.earlier_reported l.f are l.reported_is in
      let taken = last_request (IsOne s.offer s.limit) are.packets l.earlier l.q are.requests in
      let asks = taken.is_one.1 in
      let parts = sym (append_assoc (advertised s) l.answers l.front) in
      let (had, breaks) = lost_with l.q l.f l.front lost_is answer in
      let whole : are.packets ≡ (taken.before ++ asks.front) ++ asks.last ∷ [] =
      taken.behind ∙ ap (λ (gs : List Given). taken.before ++ gs) asks.whole ∙ sym (append_assoc taken.before asks.front (asks.last ∷ [])) in
      let at = last_flush 0 used (taken.before ++ asks.front) asks.last
      (subst (λ (gs : List Given). SpellsAll 0 used gs []) whole are.splits.spelled) asks.ends in
      record {
        asked = l.earlier;
        left = taken.left;
        rest = [];
        answers = l.answers;
        stream = record {
          packets = are.packets;
          splits = are.splits;
          requests = as_requests s repo failures are.packets taken.left l.earlier l.earlier_reported l.answers taken.earlier reports l.answered;
        };
        ends = inr (record {
          goes_on = refl;
          asked = l.q;
          is_request = (taken.is_one.0, asks, had);
          name = is;
          at = (asks.front, asks.last, asks.whole, omega (arith, at, h.at));
          no_rest = refl;
        });
        answered = all_answers s.offer.format repo l.earlier l.earlier_reported l.answers (as_answers s repo failures l.earlier l.earlier_reported reports)
            l.answered;
        tail = l.front;
        is_tail = subst (λ (k : Kind). IsServersTail k (over_repository s repo failures) taken.left fault l.front) (sym is)
            (record { asked = l.q; is_request = (taken.is_one.0, asks, had); breaks = breaks });
        given_is = l.given_is ∙ ap spelled parts;
        fit = subst AllFit parts l.fit;
      }

  pub lost_session : (over : Bool) → IsReportedUpTo (IsLostOfRepository repo) s repo used reported → fault.kind ≡ PackSource
      → IsHosted s used over reported given (Refused fault)
      → IsSession (over_repository s repo failures) used over given (Refused fault) ⊎ IsCutBeforePack s used reported given fault
  lost_session over of is (inl h) = absurd (no_pack_read s.offer s.limit h.stops.left h.stops.rest (length used) fault is h.stops.ends.1)
  lost_session over of is (inr (goes_on, h)) =
      by (subst (λ (k : Kind). IsTailBy k s.offer.format fault h.last.q h.last.f h.last.front) is h.last.last)
    where
      by : IsTailBy PackSource s.offer.format fault h.last.q h.last.f h.last.front
          → IsSession (over_repository s repo failures) used over given (Refused fault) ⊎ IsCutBeforePack s used reported given fault
      by (inl answer) = inl (subst (λ (b : Bool). IsSession (over_repository s repo failures) used b given (Refused fault)) (sym goes_on)
          (lost of is h answer))
      by (inr cut) = inr (record {
        asked = h.asked;
        are_asked = h.are_asked;
        last = record {
          earlier = h.last.earlier;
          earlier_reported = h.last.earlier_reported;
          q = h.last.q;
          f = h.last.f;
          answers = h.last.answers;
          front = h.last.front;
          asked_is = h.last.asked_is;
          reported_is = h.last.reported_is;
          answered = h.last.answered;
          last = cut;
          given_is = h.last.given_is;
          fit = h.last.fit;
        };
      })
