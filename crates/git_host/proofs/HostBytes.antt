-- What bytes of the client bring to a host's server: more of a request, a whole one, that the client leaves, or a fault.
use Rattle.std.proofs.Common.{arith, ◌≡◌, ◌≢◌, ℕ, ◌-◌, ◌≤◌, Bool, true, false, List, [], ◌∷◌, ◌++◌, length, Some, None, Err, refl, sym, ap, ◌∙◌, subst}
use Rattle.std.proofs.Common.{append-nil, length-append, inl, take}
use Rattle.git_pkt.specs.Splits.{Given, SpellsAll}
use Rattle.git_pkt.specs.Machine.PacketReader.{Reads, fault_of as packet_fault, is_open}
use Rattle.git_pkt.specs.declared.reader.PacketReader.{PacketReader}
use Rattle.git_pkt.specs.declared.fault.Fault.{Fault}
use Rattle.git_pkt.specs.declared.fault.Kind.{Kind}
use Rattle.git_pkt.specs.declared.fault.Kind.TheVariants.{RemoteError}
use Rattle.git_pkt.proofs.KnownRest.{some_inside, sound_rest}
use Rattle.git_msg.specs.declared.requests.Request.{Request}
use Rattle.git_msg.specs.Asked.{Asked}
use Rattle.git_msg.specs.Machine.HeldRequest.{asked_of, holding_of, kept_of, stored_of}
use Rattle.git_msg.specs.Machine.StreamStages.{fault_in, stage_is_between, takes_bytes}
use Rattle.git_msg.specs.declared.limits.Limits.{Limits}
use Rattle.git_msg.specs.Machine.RequestStreams.{Closes, EndsWith, Feeds as StreamFeeds, Leaves, asked_by, AreAsked, HasRead, IsAtTheEnd, IsLeftIn, IsOne}
use Rattle.git_msg.specs.Machine.RequestStreams.{IsRefusedAs, bytes_used, is_within_packet, limit_of, offer_of, wants_input}
use Rattle.git_msg.specs.declared.reader.ReadGot.{ReadGot}
use Rattle.git_msg.specs.declared.reader.ReadGot.TheVariants.{More, Request as RequestGot, Stop as StopGot, Failed as FailedGot}
use Rattle.git_msg.specs.declared.streams.ReadRequest.{ReadRequest}
use Rattle.git_msg.specs.WholeRequests.{AreRequests}
use Rattle.git_msg.specs.declared.streams.RequestStream.{RequestStream}
use Rattle.git_msg.specs.declared.streams.Stage.{Stage}
use Rattle.git_msg.specs.declared.streams.Stage.TheVariants.{Between, Within, Stopped, Failed}
use Rattle.git_msg.specs.declared.offers.Offer.{Offer}
use Rattle.git_msg.proofs.StreamEnds.{all_whole}
use Rattle.git_server.specs.Answers.{AllFit, refusal_by, spelled}
use Rattle.git_server.specs.declared.outcome.Outcome.TheVariants.{Flush, Refused}
use Rattle.git_host.specs.HostSessions.{AllAnswered, Facts, HostSetting, IsHosted, ShowsWhere, StopsBy, nothing_for}
use Rattle.git_host.specs.HostServer.{Hosts, HostsIn, IsAtRequest, IsReading, IsUntouched, StopsHost, begun_in, is_answering, FeedsHost, ReadsTo, reads_on}
use Rattle.git_host.specs.HostServer.{is_reading, refused_by}
use Rattle.git_host.specs.HostAnswers.{IsWithinLimit}
use Rattle.git_host.specs.declared.host_server.HostServer.{HostServer}
use Rattle.git_host.specs.declared.report.Report.TheVariants.{Failed}
use Rattle.git_host.specs.declared.host_server.Phase.{Phase}
use Rattle.git_host.specs.declared.host_server.Phase.TheVariants.{Advertising, Reading, Asked as Whole, Answering, Refusing, Ended}
use Rattle.git_host.proofs.LentStreams.{last_begun}

reading_is : {A : Type 0} (phase : Phase A) → is_reading phase ≡ true → phase ≡ Reading
reading_is Reading is = refl
reading_is Advertising is = absurd (cc)
reading_is (Whole request) is = absurd (cc)
reading_is (Answering answer) is = absurd (cc)
reading_is (Refusing fault) is = absurd (cc)
reading_is (Ended outcome) is = absurd (cc)

between_is : (stage : Stage) → stage_is_between stage ≡ true → stage ≡ Between
between_is Between is = refl
between_is Within is = absurd (cc)
between_is Stopped is = absurd (cc)
between_is (Failed fault) is = absurd (cc)

stopped_is : (stage : Stage) → takes_bytes stage ≡ false → fault_in stage ≡ None → stage ≡ Stopped
stopped_is Between quiet none = absurd (cc)
stopped_is Within quiet none = absurd (cc)
stopped_is Stopped quiet none = refl
stopped_is (Failed fault) quiet none = absurd (cc)

failed_is : (stage : Stage) (fault : Fault) → fault_in stage ≡ Some fault → stage ≡ Failed fault
failed_is Between fault is = absurd (cc)
failed_is Within fault is = absurd (cc)
failed_is Stopped fault is = absurd (cc)
failed_is (Failed other) fault is = let same : other ≡ fault = cc in ap Failed same

no_fault : (stage : Stage) → takes_bytes stage ≡ true → fault_in stage ≡ None
no_fault Between is = refl
no_fault Within is = refl
no_fault Stopped is = absurd (cc)
no_fault (Failed fault) is = absurd (cc)

-- a packet has four bytes at least
pub four_bytes : (p : ℕ) (bytes : List ℕ) (gs : List Given) (rest : List ℕ) → gs ≢ [] → SpellsAll p bytes gs rest → 4 ≤ length bytes
four_bytes p bytes [] rest some h = absurd (some refl)
four_bytes p bytes (g ∷ gs) rest some (s, more, cut, at, spells, others) =
    omega (arith, spells.digits.four, ap length cut, length-append s more)

pub not_none : {X : Type 0} (before front : List X) (x : X) → before ++ (front ++ x ∷ []) ≢ []
not_none [] [] x is = cc
not_none [] (y ∷ front) x is = cc
not_none (y ∷ before) front x is = cc

module _ {A : Type 0} (stream : RequestStream A) (used : List ℕ) (asked : List Asked) (h : HasRead used asked stream) where
  pub bytes_counted : bytes_used stream ≡ length used
  bytes_counted = omega (arith, h.reads.position)

  -- a stream that is new, or was read to the end of a request
  pub all_asked : stage_is_between stream.stage ≡ true → is_within_packet stream ≡ false → AreAsked (offer_of stream) (limit_of stream) used asked [] []
  all_asked between shut =
      let stage = between_is stream.stage between in
      all_whole stream stage (h.onward (ap takes_bytes stage)).sound shut used asked h

  -- what is left of the bytes, and how it ends the session
  pub as_asked : (s : HostSetting) → offer_of stream ≡ s.offer → limit_of stream ≡ s.limit → AreAsked s.offer s.limit used asked h.left h.rest
  as_asked s offer limit = record {
    packets = h.packets;
    splits = h.reads.splits;
    requests = subst (λ (o : Offer). AreRequests (IsOne o s.limit) h.packets asked h.left) offer
        (subst (λ (n : ℕ). AreRequests (IsOne (offer_of stream) n) h.packets asked h.left) limit h.requests);
  }

  refused_left : (s : HostSetting) (fault : Fault) → fault_in stream.stage ≡ Some fault → offer_of stream ≡ s.offer → limit_of stream ≡ s.limit
      → IsRefusedAs s.offer s.limit h.left h.rest (length used) fault
  refused_left s fault is offer limit =
      subst (λ (o : Offer). IsRefusedAs o s.limit h.left h.rest (length used) fault) offer
      (subst (λ (n : ℕ). IsRefusedAs (offer_of stream) n h.left h.rest (length used) fault) limit
      (subst (λ (g : Stage). IsLeftIn g (offer_of stream) (limit_of stream) h.left h.rest (length used)) (failed_is stream.stage fault is) h.left_is))

  module _ (s : HostSetting) (over : Bool) (reported : List Facts) (given : List ℕ) (all : AllAnswered s asked reported given)
      (offer : offer_of stream ≡ s.offer) (limit : limit_of stream ≡ s.limit) where
    -- a fault of the bytes
    pub stops_by : (fault : Fault) → fault_in stream.stage ≡ Some fault → ShowsWhere over fault.kind → StopsBy s used over reported given (Refused fault)
    stops_by fault is shows = record {
      asked = asked;
      left = h.left;
      rest = h.rest;
      are_asked = as_asked s offer limit;
      ends = (shows, refused_left s fault is offer limit);
      all = all;
    }

    -- the client left
    pub left_by_flush : over ≡ false → takes_bytes stream.stage ≡ false → fault_in stream.stage ≡ None → IsHosted s used over reported given Flush
    left_by_flush goes_on quiet none =
        let stop = subst (λ (g : Stage). IsLeftIn g (offer_of stream) (limit_of stream) h.left h.rest (length used))
        (stopped_is stream.stage quiet none) h.left_is in
        inl (record {
          before = given;
          stops = record { asked = asked; left = h.left; rest = h.rest; are_asked = as_asked s offer limit; ends = (goes_on, stop.0, stop.1); all = all };
          given_is = sym (append-nil given);
          fit = tt;
        })

none_left : (p : ℕ) (gs : List Given) (rest : List ℕ) → SpellsAll p [] gs rest → rest ≡ []
none_left p [] rest h = sym h
none_left p (g ∷ gs) rest h =
    let some : g ∷ gs ≢ [] = λ is. cc in
    absurd (let most = four_bytes p [] (g ∷ gs) rest some h in omega (arith, most))

shut_by : (b : Bool) (r : PacketReader) (gs : List Given) (rest : List ℕ) → is_open r ≡ b → packet_fault r ≡ None → Reads r 0 [] gs rest → is_open r ≡ false
shut_by true r gs rest is sound h = absurd (some_inside r rest (sound_rest r 0 [] gs rest sound h).0 is (none_left 0 gs rest h.splits.spelled))
shut_by false r gs rest is sound h = is

-- a stream that has read nothing has no packet open
pub new_between : {A : Type 0} (stream : RequestStream A) → HasRead [] [] stream → wants_input stream ≡ true → is_within_packet stream ≡ false
new_between stream h on = shut_by (is_open stream.packets) stream.packets h.packets h.rest refl (h.onward on).sound h.reads

-- a refusal, by the name
refused_phase : {A : Type 0} (kind : Kind) (fault : Fault) (s : HostSetting) (used : List ℕ) (over : Bool) (reported : List Facts) (given : List ℕ)
    (stream : RequestStream A) (flush : ℕ) → fault.kind ≡ kind → is_within_packet stream ≡ false → StopsBy s used over reported given (Refused fault)
    → HostsIn (refused_by kind fault) s used over reported given stream flush
refused_phase RemoteError fault s used over reported given stream flush is between stops = inl (record {
  before = given;
  stops = stops;
  given_is = sym (append-nil given) ∙ ap (λ (k : Kind). given ++ spelled (refusal_by k fault)) (sym is);
  fit = subst (λ (k : Kind). AllFit (refusal_by k fault)) (sym is) tt;
})
refused_phase kind fault s used over reported given stream flush is between stops = record {
  between = between;
  stops = stops;
  tail = ap (λ (k : Kind). refusal_by k fault) is;
}

module _ {A : Type 0} (s : HostSetting) (used : List ℕ) (over : Bool) (reported : List Facts) (given : List ℕ) (stream : RequestStream A) where
  -- a whole request came
  pub request_came : (asked : List Asked) (request : Request A) (flush : ℕ) → AllAnswered s asked reported given → over ≡ false
      → HasRead used (asked ++ asked_of request ∷ []) stream → offer_of stream ≡ s.offer → limit_of stream ≡ s.limit
      → stage_is_between stream.stage ≡ true → is_within_packet stream ≡ false → flush ≡ bytes_used stream - 4 → IsAtTheEnd used request stream
      → IsWithinLimit s.limit (holding_of request)
      → IsAtRequest s used over (reported ++ nothing_for (asked_of request) ∷ []) given stream flush (IsUntouched s.limit (holding_of request))
  request_came asked request flush all goes_on h offer limit between shut is ends bounded =
      let q = asked_of request in
      let long : 4 ≤ length used = four_bytes 0 used (ends.before ++ ends.own) []
      (subst (λ (own : List Given). ends.before ++ own ≢ []) (sym ends.asks.whole) (not_none ends.before ends.asks.front ends.asks.last))
      ends.splits.spelled in
      let counted : bytes_used stream ≡ length used = bytes_counted stream used (asked ++ q ∷ []) h in
      record {
        asked = asked ++ q ∷ [];
        reads = record {
          reads = h;
          wants = ap takes_bytes (between_is stream.stage between);
          offer = offer;
          limit = limit;
          goes_on = goes_on;
        };
        between = shut;
        are_asked = subst (λ (o : Offer). AreAsked o s.limit used (asked ++ q ∷ []) [] []) offer
            (subst (λ (n : ℕ). AreAsked (offer_of stream) n used (asked ++ q ∷ []) [] []) limit (all_asked stream used (asked ++ q ∷ []) h between shut));
        at = omega (arith, is, counted, long);
        last = last_begun s asked reported given q (IsUntouched s.limit (holding_of request)) all
            (record { same = refl; bounded = bounded; nothing = refl; none = refl });
      }

-- ---- what bytes bring to a server that reads
module _ {A : Type 0} (s : HostSetting) (so_far : List ℕ) (over : Bool) (reported : List Facts) (given : List ℕ) (old new : RequestStream A) (chunk : List ℕ)
    (read : ReadRequest A) (feeds : StreamFeeds old chunk read new) (h : IsReading s so_far over reported given old) where
  reads_now : HasRead (so_far ++ take read.used chunk) (h.asked ++ asked_by read.got) new
  reads_now = feeds.reads so_far h.asked h.reads.reads

  same_asked : asked_by read.got ≡ [] → HasRead (so_far ++ take read.used chunk) h.asked new
  same_asked none = subst (λ (qs : List Asked). HasRead (so_far ++ take read.used chunk) qs new) (ap (λ (l : List Asked). h.asked ++ l) none
      ∙ append-nil h.asked)
      reads_now

  none_begun : AllAnswered s h.asked (reported ++ []) given
  none_begun = subst (λ (fs : List Facts). AllAnswered s h.asked fs given) (sym (append-nil reported)) h.all

  pub brought_more : read.got ≡ More → IsReading s (so_far ++ take read.used chunk) over (reported ++ []) given new
  brought_more is = record {
    asked = h.asked;
    reads = record {
      reads = same_asked (ap asked_by is);
      wants = (subst (λ (got : ReadGot A). Leaves got read.used chunk old new) is feeds.leaves h.reads.wants).1;
      offer = feeds.offer ∙ h.reads.offer;
      limit = feeds.limit ∙ h.reads.limit;
      goes_on = h.reads.goes_on;
    };
    all = none_begun;
  }

  pub brought_request : (request : Request A) (flush : ℕ) → read.got ≡ RequestGot request → flush ≡ bytes_used new - 4 → stored_of request ≤ kept_of request
      → IsAtRequest s (so_far ++ take read.used chunk) over (reported ++ nothing_for (asked_of request) ∷ []) given new flush
      (IsUntouched s.limit (holding_of request))
  brought_request request flush is at covered =
      let leaves = subst (λ (got : ReadGot A). Leaves got read.used chunk old new) is feeds.leaves in
      request_came s (so_far ++ take read.used chunk) over reported given new h.asked request flush h.all h.reads.goes_on
      (subst (λ (got : ReadGot A). HasRead (so_far ++ take read.used chunk) (h.asked ++ asked_by got) new) is reads_now)
      (feeds.offer ∙ h.reads.offer) (feeds.limit ∙ h.reads.limit) leaves.1 leaves.2 at
      (subst (λ (got : ReadGot A). EndsWith got (so_far ++ take read.used chunk) new) is (feeds.counts so_far h.asked h.reads.reads))
      (record { covered = covered; within = omega (arith, leaves.4, feeds.limit, h.reads.limit) })

  pub brought_stop : read.got ≡ StopGot → IsHosted s (so_far ++ take read.used chunk) over (reported ++ []) given Flush
  brought_stop is =
      let leaves = subst (λ (got : ReadGot A). Leaves got read.used chunk old new) is feeds.leaves in
      left_by_flush new (so_far ++ take read.used chunk) h.asked (same_asked (ap asked_by is)) s over (reported ++ []) given none_begun
      (feeds.offer ∙ h.reads.offer) (feeds.limit ∙ h.reads.limit) h.reads.goes_on leaves.1 leaves.2

  pub brought_fault : (fault : Fault) → read.got ≡ FailedGot fault → StopsBy s (so_far ++ take read.used chunk) over (reported ++ []) given (Refused fault)
  brought_fault fault is =
      let leaves = subst (λ (got : ReadGot A). Leaves got read.used chunk old new) is feeds.leaves in
      let shown = feeds.news fault (no_fault old.stage h.reads.wants) is in
      stops_by new (so_far ++ take read.used chunk) h.asked (same_asked (ap asked_by is)) s over (reported ++ []) given none_begun
      (feeds.offer ∙ h.reads.offer) (feeds.limit ∙ h.reads.limit) fault leaves
      (subst (λ (b : Bool). ShowsWhere b fault.kind) (sym h.reads.goes_on) shown.not_the_end)

pub is_reading_now : {A : Type 0} (server : HostServer A) → reads_on server ≡ true → server.phase ≡ Reading
is_reading_now server is = reading_is server.phase is

-- no request began
none_came : (A : Type 0) (kind : Kind) (fault : Fault) → begun_in {A = A} Reading (refused_by kind fault) ≡ []
none_came A RemoteError fault = refl
none_came A kind fault = refl

refused_quiet : (A : Type 0) (kind : Kind) (fault : Fault) → is_reading {A = A} (refused_by kind fault) ≡ false
refused_quiet A RemoteError fault = refl
refused_quiet A kind fault = refl

module _ {A : Type 0} where
  -- a server that reads no bytes stays
  pub reads_itself : (phase : Phase A) → ReadsTo phase phase
  reads_itself Reading = refl
  reads_itself Advertising = refl
  reads_itself (Whole request) = refl
  reads_itself (Answering answer) = refl
  reads_itself (Refusing fault) = refl
  reads_itself (Ended outcome) = refl

  none_begun_in : (phase : Phase A) → begun_in phase phase ≡ []
  none_begun_in Reading = refl
  none_begun_in Advertising = refl
  none_begun_in (Whole request) = refl
  none_begun_in (Answering answer) = refl
  none_begun_in (Refusing fault) = refl
  none_begun_in (Ended outcome) = refl

  pub feeds_none : (old : HostServer A) → FeedsHost [] old old
  feeds_none old s used over reported given h = (
    subst (λ (u : List ℕ). Hosts s u over (reported ++ begun_in old.phase old.phase) given old) (sym (append-nil used))
        (subst (λ (fs : List Facts). Hosts s used over fs given old)
        (sym (ap (λ (l : List Facts). reported ++ l) (none_begun_in old.phase) ∙ append-nil reported)) h),
    reads_itself old.phase,
  )

  pub reading_leads : (old new : Phase A) → old ≡ Reading → is_answering new ≡ false → ReadsTo old new
  reading_leads old new was none = subst (λ (p : Phase A). ReadsTo p new) (sym was) none

  refused_unanswered : (kind : Kind) (fault : Fault) (new : Phase A) → new ≡ refused_by kind fault → is_answering new ≡ false
  refused_unanswered RemoteError fault new is = ap is_answering is
  refused_unanswered kind fault new is = ap is_answering is

  pub stopped_leads : (old : Phase A) (mid new : HostServer A) (fault : Fault) → old ≡ Reading → StopsHost fault mid new → ReadsTo old new.phase
  stopped_leads old mid new fault was stopped = reading_leads old new.phase was (refused_unanswered fault.kind fault new.phase stopped.phase)

-- ---- a server whose input is refused
module _ {A : Type 0} (mid new : HostServer A) (fault : Fault) (stopped : StopsHost fault mid new) where
  pub quiet_now : reads_on new ≡ false
  quiet_now = ap is_reading stopped.phase ∙ refused_quiet A fault.kind fault

  pub stopped_hosts : (s : HostSetting) (used : List ℕ) (over : Bool) (reported : List Facts) (given : List ℕ) → mid.offer ≡ s.offer → mid.limits.args ≡ s.limit
      → StopsBy s used over reported given (Refused fault) → Hosts s used over reported given new
  stopped_hosts s used over reported given offer limit stops = record {
    offer = stopped.offer ∙ offer;
    limit = ap (λ (l : Limits). l.args) stopped.limits ∙ limit;
    reads_within = stopped.within ∙ ap (λ (l : Limits). l.args) stopped.limits ∙ limit;
    stands = subst (λ (p : Phase A). HostsIn p s used over reported given new.stream new.flush) (sym stopped.phase)
        (refused_phase fault.kind fault s used over reported given new.stream new.flush refl (new_between new.stream stopped.anew stopped.wants) stops);
  }

  pub none_now : (old : HostServer A) (reported : List Facts) → old.phase ≡ Reading → reported ++ begun_in old.phase new.phase ≡ reported ++ []
  none_now old reported reading = ap (λ (l : List Facts). reported ++ l)
      (ap (λ (p : Phase A). begun_in p new.phase) reading ∙ ap (begun_in Reading) stopped.phase ∙ none_came A fault.kind fault)

-- the input ended inside a request

-- the input ended inside a request
pub cut_off : {A : Type 0} (s : HostSetting) (used : List ℕ) (over : Bool) (reported : List Facts) (given : List ℕ) (old new : RequestStream A) (fault : Fault)
    → IsReading s used over reported given old → Closes (Err fault) old new → StopsBy s used true reported given (Refused fault)
cut_off s used over reported given old new fault h closes =
    stops_by new used h.asked (closes.4 used h.asked h.reads.reads) s true reported given h.all (closes.2 ∙ h.reads.offer) (closes.3 ∙ h.reads.limit) fault
    closes.1 closes.0
