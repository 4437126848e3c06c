-- A reader of requests from bytes, at the end of its input.
use Rattle.std.proofs.Common.{[], arith, inr, ◌≡◌, ◌≢◌, ◌⊎◌, ℕ, ◌+◌, true, false, List, ◌++◌, length, None, refl, sym, ap, ◌∙◌, subst, append-nil, rules}
use Rattle.std.proofs.Props.{props}
use Rattle.git_pkt.specs.Splits.{Given}
use Rattle.git_pkt.specs.Machine.PacketReader.{ReadsOn, fault_of as packet_fault, is_open, open_length, passes_of, position_of}
use Rattle.git_pkt.specs.declared.fault.Fault.{Fault}
use Rattle.git_pkt.specs.declared.fault.Kind.TheVariants.{Truncated}
use Rattle.git_pkt.specs.declared.reader.PacketReader.{PacketReader}
use Rattle.git_pkt.proofs.KnownRest.{rest_length, some_inside, sound_rest}
use Rattle.git_msg.specs.declared.offers.Offer.{Offer}
use Rattle.git_msg.specs.Asked.{Asked}
use Rattle.git_msg.specs.Machine.RequestReader.{fault_of as reader_fault}
use Rattle.git_msg.specs.Machine.StreamStages.{HasTaken, takes_bytes}
use Rattle.git_msg.specs.Machine.RequestStreams.{AreAsked, HasRead, IsLeftIn, limit_of, offer_of, wants_input}
use Rattle.git_msg.specs.declared.streams.RequestStream.{RequestStream}
use Rattle.git_msg.specs.declared.streams.Stage.{Stage}
use Rattle.git_msg.specs.declared.streams.Stage.TheVariants.{Between, Failed, Stopped, Within}
use Rattle.git_msg.proofs.StreamSteps.{cut_read, rest_behind}
use Rattle.std.proofs.lemmas.Grind.{common_steps}

module _ {A : Type 0} (s : RequestStream A)
    (open_ended : takes_bytes s.stage ≡ true → reader_fault s.requests ≡ None)
    (taken : takes_bytes s.stage ≡ true → ∥ HasTaken s.requests ∥₁) where
  -- the reader with another packet reader
  abbrev pub with_packets : (p : PacketReader) → (takes_bytes s.stage ≡ true → packet_fault p ≡ None) → passes_of p ≡ false → RequestStream A
  with_packets p sound gathers = record {
    packets = p;
    requests = s.requests;
    stage = s.stage;
    sound = sound;
    gathers = gathers;
    open_ended = open_ended;
    taken = taken;
  }

  same_facts : (sound : takes_bytes s.stage ≡ true → packet_fault s.packets ≡ None) (gathers : passes_of s.packets ≡ false)
      → with_packets s.packets sound gathers ≡ s
  same_facts sound gathers =
      let sound_prop : IsProp (takes_bytes s.stage ≡ true → packet_fault s.packets ≡ None) = hlevel props in
      let gathers_prop : IsProp (passes_of s.packets ≡ false) = hlevel props in
      let open_prop : IsProp (takes_bytes s.stage ≡ true → reader_fault s.requests ≡ None) = hlevel props in
      let taken_prop : IsProp (takes_bytes s.stage ≡ true → ∥ HasTaken s.requests ∥₁) = hlevel props in
      ap (λ (x : takes_bytes s.stage ≡ true → packet_fault s.packets ≡ None). with_packets s.packets x gathers) (sound_prop sound s.sound)
      ∙ ap (λ (x : passes_of s.packets ≡ false).
      record s { gathers = x; open_ended = open_ended; taken = taken }) (gathers_prop gathers s.gathers)
      ∙ ap (λ (x : takes_bytes s.stage ≡ true → reader_fault s.requests ≡ None).
      record s { open_ended = x; taken = taken }) (open_prop open_ended s.open_ended)
      ∙ ap (λ (x : takes_bytes s.stage ≡ true → ∥ HasTaken s.requests ∥₁). record s { taken = x }) (taken_prop taken s.taken)

  -- it is the same if the packet reader is the same
  pub same_reader : (p : PacketReader) (sound : takes_bytes s.stage ≡ true → packet_fault p ≡ None) (gathers : passes_of p ≡ false)
      → p ≡ s.packets → with_packets p sound gathers ≡ s
  same_reader p sound gathers same =
      subst (λ (x : PacketReader). (h : takes_bytes s.stage ≡ true → packet_fault x ≡ None) (k : passes_of x ≡ false) → with_packets x h k ≡ s)
      (sym same) same_facts sound gathers

-- inside a request some packets are left
some_begun : (offer : Offer) (limit : ℕ) (left : List Given) (rest : List ℕ) (end : ℕ) (stage : Stage) → takes_bytes stage ≡ true → (stage ≡ Between → ⊥)
    → IsLeftIn stage offer limit left rest end → left ≢ []
some_begun offer limit left rest end Between on inside h = absurd (inside refl)
some_begun offer limit left rest end Within on inside (some, begun) = some
some_begun offer limit left rest end Stopped on inside h = absurd (cc)
some_begun offer limit left rest end (Failed fault) on inside h = absurd (cc)

-- the input ends inside a request
module _ {A : Type 0} (old new : RequestStream A) (fault : Fault) (wants : wants_input old ≡ true)
    (offer : offer_of new ≡ offer_of old) (limit : limit_of new ≡ limit_of old) (is : new.stage ≡ Failed fault) (name : fault.kind ≡ Truncated)
    (sound : packet_fault old.packets ≡ None) (reads : ReadsOn old.packets [] [] new.packets) where
  closed_read : (used : List ℕ) (asked : List Asked) (h : HasRead used asked old) → fault.offset + length h.rest ≡ position_of old.packets
      → (h.left ≢ []) ⊎ (h.rest ≢ []) → HasRead used asked new
  closed_read used asked h at inside =
      subst (λ (l : List ℕ). HasRead l asked new) (append-nil used)
      (subst (λ (qs : List Asked). HasRead (used ++ []) qs new) (append-nil asked)
      (cut_read old new [] wants offer limit used asked h fault is name sound at inside refl reads))

  -- and inside a packet
  pub closed_open : is_open old.packets ≡ true → fault.offset + open_length old.packets ≡ position_of old.packets
      → (used : List ℕ) (asked : List Asked) → HasRead used asked old → HasRead used asked new
  closed_open opened at used asked h =
      let held = (sound_rest old.packets 0 used h.packets h.rest sound h.reads).0 in
      closed_read used asked h (omega (arith, rest_length old.packets h.rest held, at)) (inr (some_inside old.packets h.rest held opened))

  -- or between two packets
  pub closed_within : is_open old.packets ≡ false → (old.stage ≡ Between → ⊥) → fault.offset ≡ position_of old.packets
      → (used : List ℕ) (asked : List Asked) → HasRead used asked old → HasRead used asked new
  closed_within shut within at used asked h = search (rules, rest_behind, closed_read, some_begun)

-- between two requests, if no packet is open, nothing is left
pub nothing_left : {A : Type 0} (s : RequestStream A) → s.stage ≡ Between → packet_fault s.packets ≡ None → is_open s.packets ≡ false
    → {used : List ℕ} {asked : List Asked} (h : HasRead used asked s) → (h.left ≡ []) × (h.rest ≡ [])
nothing_left s is sound shut {used = used} h = (
  subst (λ (g : Stage). IsLeftIn g (offer_of s) (limit_of s) h.left h.rest (length used)) is h.left_is,
  rest_behind s.packets used h.packets h.rest sound shut h.reads,
)

-- and all bytes read are whole requests
pub all_whole : {A : Type 0} (s : RequestStream A) → s.stage ≡ Between → packet_fault s.packets ≡ None → is_open s.packets ≡ false
    → (used : List ℕ) (asked : List Asked) → HasRead used asked s → AreAsked (offer_of s) (limit_of s) used asked [] []
all_whole s is sound shut used asked h = grind (arith, common_steps, nothing_left)
