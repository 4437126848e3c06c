-- Bytes have only one first error.
use Rattle.std.proofs.Common.{arith, ◌≡◌, ◌≢◌, ℕ, ◌-◌, List, [], ◌∷◌, length, inl, inr, ap, sym, ◌∙◌, subst}
use Rattle.std.proofs.lemmas.List.{append-nil}
use Rattle.git_pkt.specs.Splits.{Given, Splits}
use Rattle.git_pkt.specs.Faults.{StopsBy}
use Rattle.git_pkt.specs.declared.fault.Fault.{Fault}
use Rattle.git_pkt.specs.declared.fault.Kind.{Kind}
use Rattle.git_pkt.specs.declared.fault.Kind.TheVariants.{Truncated, StreamTooLong}
use Rattle.git_pkt.proofs.Streams.{one_split, SameSplit}
use Rattle.git_pkt.proofs.Rests.{same_fault}
use Rattle.git_pkt.proofs.Cuttings.{one_offset, stops_once, not_open}
use Rattle.git_msg.specs.Asked.{Asked}
use Rattle.git_client.specs.Parts.{Terms}
use Rattle.git_client.specs.Events.{EventValue}
use Rattle.git_client.specs.Conversation.{GiveAll, FirstFault, MalformedPacket, MalformedRest, CutShort, FirstMalformed}
use Rattle.git_client.proofs.Determined.{one_first_fault, same_cut}

-- packets without an error have no first one
pub none_among : (t : Terms) (asked : List Asked) (given : List Given) (events : List EventValue) (kind : Kind) (offset : ℕ) → GiveAll t asked [] given events
    → FirstFault t asked given kind offset → ⊥
none_among t asked given events kind offset gives h =
    let same = same_cut t asked [] h.clean given (h.bad ∷ h.more) [] h.events events (sym h.cut ∙ sym (append-nil given)) h.sound gives (kind, h.refused) tt in
    let none : h.bad ∷ h.more ≡ [] = same.more_is in cc

module _ (t : Terms) (asked : List Asked) (bytes : List ℕ) (f g : Fault) where
  same_split : (given others : List Given) (rest other : List ℕ) → Splits 0 bytes given rest → Splits 0 bytes others other → SameSplit given others rest other
  same_split given others rest other h k = one_split 0 bytes given others rest other h.spelled k.spelled h.ends k.ends

  packets : MalformedPacket t asked bytes f → MalformedPacket t asked bytes g → f ≡ g
  packets h k =
      let given = (same_split h.given k.given h.rest k.rest h.splits k.splits).packets in
      let moved : FirstFault t asked h.given g.kind g.offset = subst (λ (l : List Given). FirstFault t asked l g.kind g.offset) (sym given) k.first in
      let same = one_first_fault t asked h.given f.kind g.kind f.offset g.offset h.first moved in
      same_fault f g same.0 same.1

  packet_or_none : (given : List Given) (rest : List ℕ) (events : List EventValue) → Splits 0 bytes given rest → GiveAll t asked [] given events
      → (x : Fault) → MalformedPacket t asked bytes x → ⊥
  packet_or_none given rest events splits gives x h =
      let same = (same_split given h.given rest h.rest splits h.splits).packets in
      none_among t asked given events x.kind x.offset gives (subst (λ (l : List Given). FirstFault t asked l x.kind x.offset) (sym same) h.first)

  moved_rest : (h : MalformedRest t asked bytes f) (k : MalformedRest t asked bytes g)
      → StopsBy (length bytes - length h.rest) h.rest (length bytes) g.kind g.offset
  moved_rest h k =
      subst (λ (l : List ℕ). StopsBy (length bytes - length l) l (length bytes) g.kind g.offset)
      (sym (same_split h.given k.given h.rest k.rest h.splits k.splits).rest_is) k.by

  rests_shown : f.kind ≢ Truncated → f.kind ≢ StreamTooLong → MalformedRest t asked bytes f → MalformedRest t asked bytes g → f ≡ g
  rests_shown a b h k =
      let same =
      stops_once (length bytes - length h.rest) (length bytes) h.rest f.kind g.kind f.offset g.offset a b h.by
      (moved_rest h k) in same_fault f g same.0 same.1

  rests_named : f.kind ≡ g.kind → MalformedRest t asked bytes f → MalformedRest t asked bytes g → f ≡ g
  rests_named name h k =
      let by : StopsBy (length bytes - length h.rest) h.rest (length bytes) f.kind g.offset =
      subst (λ (n : Kind). StopsBy (length bytes - length h.rest) h.rest (length bytes) n g.offset) (sym name) (moved_rest h k) in
      same_fault f g name (one_offset (length bytes - length h.rest) h.rest (length bytes) f.kind f.offset g.offset h.by by)

  cuts_named : f.kind ≡ g.kind → CutShort t asked bytes f → CutShort t asked bytes g → f ≡ g
  cuts_named name h k =
      let same = (same_split h.given k.given h.rest k.rest h.splits k.splits).rest_is in same_fault f g name (omega (arith, h.at, k.at, ap length same))

module _ (t : Terms) (asked : List Asked) (bytes : List ℕ) (f g : Fault) where
  -- an input that was cut short ends in an open rest
  rest_not_cut : f.kind ≢ Truncated → f.kind ≢ StreamTooLong → MalformedRest t asked bytes f → CutShort t asked bytes g → ⊥
  rest_not_cut a b h k =
      let same = (same_split t asked bytes f g h.given k.given h.rest k.rest h.splits k.splits).rest_is in
      not_open (length bytes - length k.rest) (length bytes) k.rest f.kind f.offset a b
      (subst (λ (l : List ℕ). StopsBy (length bytes - length l) l (length bytes) f.kind f.offset) same h.by) k.still_open

  rest_and_cut : f.kind ≡ g.kind → MalformedRest t asked bytes f → CutShort t asked bytes g → f.offset ≡ g.offset
  rest_and_cut name h k =
      let same = (same_split t asked bytes f g h.given k.given h.rest k.rest h.splits k.splits).rest_is in
      let by : StopsBy (length bytes - length h.rest) h.rest (length bytes) Truncated f.offset =
      subst (λ (n : Kind). StopsBy (length bytes - length h.rest) h.rest (length bytes) n f.offset) (name ∙ k.kind) h.by in
      omega (arith, by.2, k.at, ap length same)

-- the bytes show only one error
pub one_shown : (t : Terms) (asked : List Asked) (bytes : List ℕ) (f g : Fault) → FirstMalformed t asked bytes f
    → FirstMalformed t asked bytes g → f.kind ≢ Truncated → f.kind ≢ StreamTooLong → f ≡ g
one_shown t asked bytes f g (inl h) (inl k) a b = packets t asked bytes f g h k
one_shown t asked bytes f g (inl h) (inr (inl k)) a b = absurd (packet_or_none t asked bytes f g k.given k.rest k.events k.splits k.sound f h)
one_shown t asked bytes f g (inl h) (inr (inr k)) a b = absurd (packet_or_none t asked bytes f g k.given k.rest k.events k.splits k.sound f h)
one_shown t asked bytes f g (inr (inl h)) (inl k) a b = absurd (packet_or_none t asked bytes f g h.given h.rest h.events h.splits h.sound g k)
one_shown t asked bytes f g (inr (inl h)) (inr (inl k)) a b = rests_shown t asked bytes f g a b h k
one_shown t asked bytes f g (inr (inl h)) (inr (inr k)) a b = absurd (rest_not_cut t asked bytes f g a b h k)
one_shown t asked bytes f g (inr (inr h)) k a b = absurd (a h.kind)

-- two errors of the same kind are equal
pub one_by_name : (t : Terms) (asked : List Asked) (bytes : List ℕ) (f g : Fault) → FirstMalformed t asked bytes f
    → FirstMalformed t asked bytes g → f.kind ≡ g.kind → f ≡ g
one_by_name t asked bytes f g (inl h) (inl k) name = packets t asked bytes f g h k
one_by_name t asked bytes f g (inl h) (inr (inl k)) name = absurd (packet_or_none t asked bytes f g k.given k.rest k.events k.splits k.sound f h)
one_by_name t asked bytes f g (inl h) (inr (inr k)) name = absurd (packet_or_none t asked bytes f g k.given k.rest k.events k.splits k.sound f h)
one_by_name t asked bytes f g (inr (inl h)) (inl k) name = absurd (packet_or_none t asked bytes f g h.given h.rest h.events h.splits h.sound g k)
one_by_name t asked bytes f g (inr (inl h)) (inr (inl k)) name = rests_named t asked bytes f g name h k
one_by_name t asked bytes f g (inr (inl h)) (inr (inr k)) name = same_fault f g name (rest_and_cut t asked bytes f g name h k)
one_by_name t asked bytes f g (inr (inr h)) (inl k) name = absurd (packet_or_none t asked bytes f g h.given h.rest h.events h.splits h.sound g k)
one_by_name t asked bytes f g (inr (inr h)) (inr (inl k)) name = same_fault f g name (sym (rest_and_cut t asked bytes g f (sym name) k h))
one_by_name t asked bytes f g (inr (inr h)) (inr (inr k)) name = cuts_named t asked bytes f g name h k
