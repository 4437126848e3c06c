-- A reader of requests from bytes, one packet at a time.
use Rattle.std.proofs.Common.{◌≡◌, ◌≢◌, ℕ, ◌+◌, ◌-◌, ◌<◌, ◌≤◌, true, false, List, [], ◌∷◌, ◌++◌, length, take, drop, length-drop, Some, None, rules}
use Rattle.std.proofs.Common.{refl, sym, ap, ◌⊎◌, ◌∙◌, subst, append-nil, append_assoc, zero-add, inl, inr, arith}
use Rattle.std.proofs.Props.{props}
use Rattle.std.proofs.Math.Logic.{∥∥₁_elim, ∥∥₁_prop}
use Rattle.git_pkt.specs.Faults.{StopsBy}
use Rattle.git_pkt.specs.Splits.{Given, SpellsAll, Splits}
use Rattle.git_pkt.specs.Machine.PacketReader.{Feeds, Reads, ReadsOn, ShownByFeed, Announces, fault_of as packet_fault, given_by, is_open, position_of}
use Rattle.git_pkt.specs.declared.fault.Fault.{Fault}
use Rattle.git_pkt.specs.declared.fault.Kind.{Kind}
use Rattle.git_pkt.specs.declared.fault.Kind.TheVariants.{StreamTooLong, Truncated}
use Rattle.git_pkt.specs.declared.reader.Fed.{Fed}
use Rattle.git_pkt.specs.declared.reader.Got.{Got}
use Rattle.git_pkt.specs.declared.reader.PacketReader.{PacketReader}
use Rattle.git_pkt.proofs.Cuttings.{stopped}
use Rattle.git_pkt.proofs.KnownRest.{sound_rest, none_between}
use Rattle.git_pkt.proofs.Chunks.{joined, left_of}
use Rattle.git_pkt.proofs.Streams.{one_split}
use Rattle.git_msg.specs.declared.offers.Offer.{Offer}
use Rattle.git_msg.specs.Admission.{nothing_barred}
use Rattle.git_msg.specs.Asked.{Asked}
use Rattle.git_msg.specs.Machine.HeldRequest.{asked_of, kept_of}
use Rattle.git_msg.specs.Memory.{FaultNeedsRefusal}
use Rattle.git_msg.specs.Requests.{AreBegun, IsAnnounced}
use Rattle.git_msg.specs.Machine.RequestReader.{Brings, GotNeedsRefusal, IsBrought, Takes, offer_of as offer_in, limit_in}
use Rattle.git_msg.specs.Machine.RequestReader.{fault_of as reader_fault}
use Rattle.git_msg.specs.WholeRequests.{AreRequests}
use Rattle.git_msg.specs.Machine.StreamStages.{HasTaken, fault_in, stage_brought, takes_bytes, stage_is_between}
use Rattle.git_msg.specs.Machine.RequestStreams.{EndsWith, HasRead, IsLeftIn, IsOne, Leaves, asked_by, limit_of, offer_of, wants_input}
use Rattle.git_msg.specs.Machine.RequestStreamSteps.{StepLeaves, Steps}
use Rattle.git_msg.specs.declared.reader.RequestReader.{RequestReader}
use Rattle.git_msg.specs.declared.reader.ReadGot.{ReadGot}
use Rattle.git_msg.specs.declared.reader.ReadGot.TheVariants.{More, Request, Stop, Failed}
use Rattle.git_msg.specs.declared.streams.ReadRequest.{ReadRequest}
use Rattle.git_msg.specs.declared.streams.RequestStream.{RequestStream}
use Rattle.git_msg.specs.declared.streams.Stage.{Stage}
use Rattle.git_msg.specs.declared.streams.Stage.TheVariants.{Between, Within, Stopped, Failed as FailedStage}
use Rattle.git_msg.proofs.Admission.{announced_by_none}
use Rattle.git_msg.proofs.PacketFaults.{NotOfPackets, announced_of_packets}
use Rattle.git_msg.proofs.WholeRequests.{left_at_the_end, one_more_request, requests_more}

-- ---- the reader of packets

-- why the reading of a stream from offset 0 ended
pub stopped_by : (r : PacketReader) (bytes : List ℕ) (given : List Given) (rest : List ℕ) (f : Fault) → packet_fault r ≡ Some f → Reads r 0 bytes given rest
    → StopsBy (length bytes - length rest) rest (length bytes) f.kind f.offset
stopped_by r bytes given rest f is h = search (rules, zero-add, stopped)

-- after a whole packet there is no rest
pub rest_behind : (r : PacketReader) (bytes : List ℕ) (packets : List Given) (rest : List ℕ)
    → packet_fault r ≡ None → is_open r ≡ false → Reads r 0 bytes packets rest → rest ≡ []
rest_behind r bytes packets rest sound shut stream = none_between r rest (sound_rest r 0 bytes packets rest sound stream).0 shut

-- the effect of a call of `feed`, by its result
pub record FeedsWith (old : PacketReader) (chunk : List ℕ) (used : ℕ) (got : Got) (new : PacketReader) : Type 0 where
  pub reads : ReadsOn old (take used chunk) (given_by got) new
  pub announces : Announces got used chunk new

pub feeds_with : (old new : PacketReader) (chunk : List ℕ) (fed : Fed) (got : Got) → fed.got ≡ got → Feeds old chunk fed new
    → FeedsWith old chunk fed.used got new
feeds_with old new chunk fed got is feeds = record {
  reads = subst (λ (o : Got). ReadsOn old (take fed.used chunk) (given_by o) new) is feeds.reads;
  announces = subst (λ (o : Got). Announces o fed.used chunk new) is feeds.announces;
}

-- ---- the stages

-- a reader that reads on is between two requests or within one
pub reading : (P : Stage → Type 0) → P Between → P Within → (stage : Stage) → takes_bytes stage ≡ true → P stage
reading P between within Between on = between
reading P between within Within on = within
reading P between within Stopped on = absurd (cc)
reading P between within (FailedStage fault) on = absurd (cc)

-- then the packets left, if any, are lines that begin a request
pub left_begins : (offer : Offer) (limit : ℕ) (left : List Given) (rest : List ℕ) (end : ℕ) (stage : Stage)
    → takes_bytes stage ≡ true → IsLeftIn stage offer limit left rest end → AreBegun offer limit left
left_begins offer limit left rest end = search (rules, reading)

-- they do not depend on the bytes after them
pub left_stays : (offer : Offer) (limit : ℕ) (left : List Given) (rest later : List ℕ) (end further : ℕ) (stage : Stage)
    → takes_bytes stage ≡ true → IsLeftIn stage offer limit left rest end → IsLeftIn stage offer limit left later further
left_stays offer limit left rest later end further = search (rules, reading)

some_left : (left : List Given) (g : Given) → left ++ g ∷ [] ≢ []
some_left [] g e = cc
some_left (x ∷ left) g e = cc

-- ---- the result of a packet

module _ {A : Type 0} where
  -- the error of the stage comes with a refusal of memory if the error of the result does
  pub needed_behind : (refuses : ℕ → Type 0) (most : ℕ) (got : ReadGot A) (stage : Stage) → stage ≡ stage_brought got → GotNeedsRefusal refuses most got
      → FaultNeedsRefusal refuses most (fault_in stage)
  needed_behind refuses most More stage is h = subst (λ (s : Stage). FaultNeedsRefusal refuses most (fault_in s)) (sym is) tt
  needed_behind refuses most (Request request) stage is h = subst (λ (s : Stage). FaultNeedsRefusal refuses most (fault_in s)) (sym is) tt
  needed_behind refuses most Stop stage is h = subst (λ (s : Stage). FaultNeedsRefusal refuses most (fault_in s)) (sym is) tt
  needed_behind refuses most (Failed fault) stage is h = subst (λ (s : Stage). FaultNeedsRefusal refuses most (fault_in s)) (sym is) h

  -- if the reader of bytes reads on after this result, so does the reader of requests
  goes_on_behind : (old new : RequestReader A) (g : Given) (got : ReadGot A) → Brings nothing_barred old g got new
      → takes_bytes (stage_brought got) ≡ true → (reader_fault new ≡ None) × (HasTaken old → HasTaken new)
  goes_on_behind old new g More brings on = (brings.leaves, λ (left, takes). (left ++ g ∷ [], (brings.brings left takes).0))
  goes_on_behind old new g (Request request) brings on = (brings.leaves, λ (left, takes). ([], (brings.brings left takes).0))
  goes_on_behind old new g Stop brings on = absurd (cc)
  goes_on_behind old new g (Failed fault) brings on = absurd (cc)

  module _ (old : RequestStream A) (new : RequestReader A) (g : Given) (got : ReadGot A) (stage : Stage)
      (wants : wants_input old ≡ true) (brings : Brings nothing_barred old.requests g got new) (stage_is : stage ≡ stage_brought got) where
    goes_in : takes_bytes stage ≡ true → (reader_fault new ≡ None) × (HasTaken old.requests → HasTaken new)
    goes_in on = goes_on_behind old.requests new g got brings (sym (ap takes_bytes stage_is) ∙ on)

    -- the state of the inner readers after a packet
    pub sound_behind : takes_bytes stage ≡ true → reader_fault new ≡ None
    sound_behind on = (goes_in on).0

    pub some_taken_behind : takes_bytes stage ≡ true → ∥ HasTaken new ∥₁
    some_taken_behind on = ∥∥₁_elim (old.taken wants) ∥∥₁_prop (λ (h : HasTaken old.requests). ∣ (goes_in on).1 h ∣₁)

    -- an error of a packet is never one that the bytes show
    pub packet_news : (fault : Fault) (used : ℕ) (chunk : List ℕ) → got ≡ Failed fault → ShownByFeed fault used chunk
    packet_news fault used chunk is =
        let announced : HasTaken old.requests → (left : List Given) × IsAnnounced (offer_in new) (limit_in new) (left ++ g ∷ []) fault =
        λ (left, takes). (
          left,
          announced_by_none (offer_in new) (limit_in new) (left ++ g ∷ []) fault
              (subst (λ (o : ReadGot A). IsBrought nothing_barred (left ++ g ∷ []) o new) is (brings.brings left takes)),
        ) in
        let other : (kind : Kind) → NotOfPackets kind → fault.kind ≢ kind =
        λ kind strange name. ∥∥₁_elim (old.taken wants) (λ x y. absurd x) (λ (h : HasTaken old.requests).
        let (left, t) = announced h in announced_of_packets kind strange (offer_in new) (limit_in new) (left ++ g ∷ []) fault t name) in
        record { not_the_end = other Truncated tt; one_more = λ too_long. absurd (other StreamTooLong tt too_long) }

module _ {A : Type 0} (old new : RequestStream A) (g : Given) (used : ℕ) (chunk : List ℕ) (wants : wants_input old ≡ true) (some : 0 < used)
    (shut : is_open new.packets ≡ false) where
  -- the state that a packet leaves the reader in
  pub packet_leaves : (got : ReadGot A) → Brings nothing_barred old.requests g got new.requests → new.stage ≡ stage_brought got
      → StepLeaves got used chunk old new
  packet_leaves More brings is = (some, ap takes_bytes is)
  packet_leaves (Request request) brings is = (
    some,
    ap stage_is_between is,
    shut,
    ∥∥₁_elim (old.taken wants) (hlevel props) (λ (h : HasTaken old.requests). let (left, takes) = h in (brings.brings left takes).2),
    brings.within.1,
    brings.within.0,
  )
  packet_leaves Stop brings is = (some, ap takes_bytes is, ap fault_in is)
  packet_leaves (Failed fault) brings is = ap fault_in is

-- ---- how what was read continues

module _ {A : Type 0} (old new : RequestStream A) (u : List ℕ) (wants : wants_input old ≡ true)
    (offer : offer_of new ≡ offer_of old) (limit : limit_of new ≡ limit_of old) (used : List ℕ) (asked : List Asked) (h : HasRead used asked old) where
  -- the requests so far are requests for the new reader's offer and limit
  earlier_requests : AreRequests (IsOne (offer_of new) (limit_of new)) h.packets asked h.left
  earlier_requests = search rules

  -- the packets left are the same as before
  left_before : IsLeftIn old.stage (offer_of new) (limit_of new) h.left h.rest (length used)
  left_before = search rules

  begun_before : AreBegun (offer_of new) (limit_of new) h.left
  begun_before = left_begins (offer_of new) (limit_of new) h.left h.rest (length used) old.stage wants left_before

  -- everything read so far, in the stage reached
  has_read : (packets left : List Given) (rest : List ℕ) (now : List Asked) (stage : Stage) → new.stage ≡ stage
      → Reads new.packets 0 (used ++ u) packets rest → AreRequests (IsOne (offer_of new) (limit_of new)) packets now left
      → IsLeftIn stage (offer_of new) (limit_of new) left rest (length (used ++ u)) → (takes_bytes stage ≡ true → Takes left new.requests)
      → HasRead (used ++ u) now new
  has_read packets left rest now stage is stream requests left_is takes = record {
    packets = packets;
    left = left;
    rest = rest;
    reads = stream;
    requests = requests;
    left_is = subst (λ (s : Stage). IsLeftIn s (offer_of new) (limit_of new) left rest (length (used ++ u))) (sym is) left_is;
    onward = λ on. record {
      sound = new.sound on;
      takes = takes (sym (ap takes_bytes is) ∙ on);
      open_ended = new.open_ended on;
    };
    within = new.requests.bounded.within;
  }

  -- no further packet
  bytes_read : (rest : List ℕ) (stage : Stage) → new.stage ≡ stage → Reads new.packets 0 (used ++ u) (h.packets ++ []) rest
      → IsLeftIn stage (offer_of new) (limit_of new) h.left rest (length (used ++ u)) → (takes_bytes stage ≡ true → Takes h.left new.requests)
      → HasRead (used ++ u) (asked ++ []) new
  bytes_read rest stage is stream left_is takes = search (rules, has_read, append-nil, earlier_requests)

  -- the bytes complete no packet
  pub open_read : new.requests ≡ old.requests → new.stage ≡ old.stage → ReadsOn old.packets u [] new.packets → HasRead (used ++ u) (asked ++ []) new
  open_read same is reads = search (rules, bytes_read, left_stays, left_before)

  -- the bytes are refused
  pub refused_read : (fault : Fault) → new.stage ≡ FailedStage fault → packet_fault new.packets ≡ Some fault → fault.kind ≢ Truncated
      → ReadsOn old.packets u [] new.packets → HasRead (used ++ u) (asked ++ []) new
  refused_read fault is announced other reads = search (rules, bytes_read, begun_before, stopped_by)

  -- there are no more bytes, and the input ends
  pub cut_read : (fault : Fault) → new.stage ≡ FailedStage fault → fault.kind ≡ Truncated → packet_fault old.packets ≡ None
      → fault.offset + length h.rest ≡ position_of old.packets → (h.left ≢ []) ⊎ (h.rest ≢ []) → u ≡ [] → ReadsOn old.packets u [] new.packets
      → HasRead (used ++ u) (asked ++ []) new
  cut_read fault is name sound at inside none reads =
      let (rest, stream) = reads 0 used h.packets h.rest h.reads in
      let all : used ++ u ≡ used = ap (λ (l : List ℕ). used ++ l) none ∙ append-nil used in
      let same = one_split 0 used (h.packets ++ []) h.packets rest h.rest
      (subst (λ (l : List ℕ). SpellsAll 0 l (h.packets ++ []) rest) all stream.splits.spelled) h.reads.splits.spelled
      stream.splits.ends h.reads.splits.ends in
      bytes_read h.rest (FailedStage fault) is (subst (λ (l : List ℕ). Reads new.packets 0 (used ++ u) (h.packets ++ []) l) same.rest_is stream)
      (inr (inr (record {
        begun = begun_before;
        still_open = (sound_rest old.packets 0 used h.packets h.rest sound h.reads).1;
        inside = inside;
        kind = name;
        at = omega (arith, at, h.reads.position, ap length all);
      })))
      (λ on. absurd (cc))

  -- the bytes complete a packet
  pub packet_read : (g : Given) (got : ReadGot A) → Brings nothing_barred old.requests g got new.requests → new.stage ≡ stage_brought got
      → packet_fault new.packets ≡ None → is_open new.packets ≡ false → ReadsOn old.packets u (g ∷ []) new.packets
      → HasRead (used ++ u) (asked ++ asked_by got) new
  packet_read g got brings is sound shut reads =
      let (rest, stream) = reads 0 used h.packets h.rest h.reads in
      by rest stream (rest_behind new.packets (used ++ u) (h.packets ++ g ∷ []) rest sound shut stream) got brings is
    where
      takes : Takes h.left old.requests
      takes = (h.onward wants).takes

      with_packet : AreRequests (IsOne (offer_of new) (limit_of new)) (h.packets ++ g ∷ []) asked (h.left ++ g ∷ [])
      with_packet = requests_more (IsOne (offer_of new) (limit_of new)) h.packets (g ∷ []) asked h.left earlier_requests

      none_more : AreRequests (IsOne (offer_of new) (limit_of new)) (h.packets ++ g ∷ []) (asked ++ []) (h.left ++ g ∷ [])
      none_more = search (rules, append-nil, with_packet)

      by : (rest : List ℕ) → Reads new.packets 0 (used ++ u) (h.packets ++ g ∷ []) rest → rest ≡ [] → (got : ReadGot A)
          → Brings nothing_barred old.requests g got new.requests → new.stage ≡ stage_brought got → HasRead (used ++ u) (asked ++ asked_by got) new
      by rest stream none More brings is =
          let (now, begun, unbarred) = brings.brings h.left takes in
          has_read (h.packets ++ g ∷ []) (h.left ++ g ∷ []) rest (asked ++ []) Within is stream none_more (some_left h.left g, begun) (λ on. now)
      by rest stream none (Request request) brings is =
          let (now, asks, format) = brings.brings h.left takes in
          has_read (h.packets ++ g ∷ []) [] rest (asked ++ asked_by (Request request)) Between is stream
          (one_more_request (IsOne (offer_of new) (limit_of new)) (h.packets ++ g ∷ []) asked (h.left ++ g ∷ []) (asked_of request) with_packet
          (kept_of request, asks)) refl (λ on. now)
      by rest stream none Stop brings is = search (rules, has_read, none_more, takes)
      by rest stream none (Failed fault) brings is =
          let announced = announced_by_none (offer_of new) (limit_of new) (h.left ++ g ∷ []) fault (brings.brings h.left takes) in
          has_read (h.packets ++ g ∷ []) (h.left ++ g ∷ []) rest (asked ++ []) (FailedStage fault) is stream none_more
          (inl (record { front = h.left; last = g; whole = refl; begun = begun_before; announced = announced; no_rest = none })) (λ on. absurd (cc))

  -- a request that they complete is the last in the bytes
  pub packet_counts : (g : Given) (got : ReadGot A) → Brings nothing_barred old.requests g got new.requests → packet_fault new.packets ≡ None
      → is_open new.packets ≡ false → ReadsOn old.packets u (g ∷ []) new.packets → EndsWith got (used ++ u) new
  packet_counts g More brings sound shut reads = tt
  packet_counts g Stop brings sound shut reads = tt
  packet_counts g (Failed fault) brings sound shut reads = tt
  packet_counts g (Request request) brings sound shut reads =
      let (rest, stream) = reads 0 used h.packets h.rest h.reads in
      let none = rest_behind new.packets (used ++ u) (h.packets ++ g ∷ []) rest sound shut stream in
      let (before, parts) = left_at_the_end (IsOne (offer_of old) (limit_of old)) h.packets asked h.left h.requests in
      let whole : h.packets ++ g ∷ [] ≡ before ++ (h.left ++ g ∷ []) =
      ap (λ (gs : List Given). gs ++ g ∷ []) parts ∙ append_assoc before h.left (g ∷ []) in
      record {
        before = before;
        own = h.left ++ g ∷ [];
        splits = subst (λ (gs : List Given). Splits 0 (used ++ u) gs []) whole
            (subst (λ (bytes : List ℕ). Splits 0 (used ++ u) (h.packets ++ g ∷ []) bytes) none stream.splits);
        asks = (brings.brings h.left (h.onward wants).takes).1;
      }

-- ---- a step over the rest of a chunk

-- the effect of a step, by its result
pub steps_with : {A : Type 0} (old new : RequestStream A) (chunk : List ℕ) (read : ReadRequest A) (got : ReadGot A) → read.got ≡ got
    → Steps old chunk read new → Steps old chunk (record { used = read.used; got = got }) new
steps_with {A = A} old new chunk read got is steps = subst (λ (o : ReadGot A). Steps old chunk (record { used = read.used; got = o }) new) is steps

module _ {A : Type 0} (old mid new : RequestStream A) (chunk : List ℕ) (done : ℕ) (within : done ≤ length chunk)
    (more : ℕ) (got : ReadGot A) (steps : Steps mid (take (length chunk - done) (drop done chunk)) (record { used = more; got = got }) new) where
  pub reads_further : ((used : List ℕ) (asked : List Asked) → HasRead used asked old → HasRead (used ++ take done chunk) asked mid)
      → (used : List ℕ) (asked : List Asked) → HasRead used asked old → HasRead (used ++ take (done + more) chunk) (asked ++ asked_by got) new
  reads_further before used asked h = search (rules, joined)

  -- a request that is handed out is the last in the bytes
  pub counts_further : ((used : List ℕ) (asked : List Asked) → HasRead used asked old → HasRead (used ++ take done chunk) asked mid)
      → (used : List ℕ) (asked : List Asked) → HasRead used asked old → EndsWith got (used ++ take (done + more) chunk) new
  counts_further before used asked h =
      subst (λ (bytes : List ℕ). EndsWith got bytes new) (joined used chunk done more within)
      (steps.counts (used ++ take done chunk) asked (before used asked h))

  -- an error that the rest of a chunk shows is one that the chunk shows
  pub shows_further : wants_input mid ≡ true → (fault : Fault) → got ≡ Failed fault → ShownByFeed fault (done + more) chunk
  shows_further wants fault is = search (rules, reading, left_of, length-drop)

-- the state after the last step of a call
pub leaves_further : {A : Type 0} (old mid new : RequestStream A) (chunk rest : List ℕ) (done more : ℕ) (got : ReadGot A) → got ≢ More
    → StepLeaves got more rest mid new → Leaves got (done + more) chunk old new
leaves_further old mid new chunk rest done more More other leaves = absurd (other refl)
leaves_further old mid new chunk rest done more (Request request) other (some, between, shut, format, kept, limit) = search rules
leaves_further old mid new chunk rest done more Stop other (some, quiet, none) = (omega (arith, some), quiet, none)
leaves_further old mid new chunk rest done more (Failed fault) other leaves = leaves
