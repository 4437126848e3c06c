-- A session ends in one way, want of memory aside.
use Rattle.std.proofs.Common.{arith, ◌≡◌, ◌≢◌, ◌⊎◌, ℕ, ◌-◌, Bool, true, false, List, [], ◌∷◌, ◌++◌, length, refl, sym, ap, ◌∙◌, append-nil, subst, inl, inr}
use Rattle.git_pkt.specs.Packets.{Pkt, flush}
use Rattle.git_pkt.specs.Splits.{Given}
use Rattle.git_pkt.specs.Faults.{IsOpen, StopsBy}
use Rattle.git_pkt.specs.declared.fault.Fault.{Fault}
use Rattle.git_pkt.specs.declared.fault.Kind.{Kind}
use Rattle.git_pkt.specs.declared.fault.Kind.TheVariants.{StreamTooLong, Truncated}
use Rattle.git_pkt.proofs.Cuttings.{one_offset, stops_once, not_open}
use Rattle.git_pkt.proofs.Streams.{one_split}
use Rattle.git_msg.specs.Admission.{IsAnnouncedFor}
use Rattle.git_msg.specs.Asked.{Asked}
use Rattle.git_msg.specs.Lines.{commands_of, HasFault}
use Rattle.git_msg.specs.Requests.{Asks, FirstFault, IsStop}
use Rattle.git_msg.specs.WholeRequests.{AreRequests}
use Rattle.git_msg.proofs.LineLaws.{one_list_of_lines}
use Rattle.git_msg.proofs.WholeRequests.{NoFlush, NoRequest, flush_inside, flush_is_no_line, last_same, whole_then}
use Rattle.git_msg.proofs.Admission.{admitted_unbarred, no_flush_barred, one_barred}
use Rattle.git_msg.proofs.Cuts.{not_empty, two_cuts}
use Rattle.git_msg.proofs.FaultLaws.{fault_at_last, no_fault_in_lines, no_fault_in_request, one_first_fault}
use Rattle.git_server.specs.Admission.{barred}
use Rattle.git_server.specs.Sessions.{Setting, Begins, FirstMalformed, GoesOn, IsRequest, EndsBy, IsOfTheBytes, IsRefusedAsRead, IsRefusedAtPacket}
use Rattle.git_server.specs.Sessions.{IsSession, Stream}
use Rattle.git_server.specs.Sessions.{WantsMemory, WantsPack}
use Rattle.git_server.specs.declared.outcome.Outcome.{Outcome}
use Rattle.git_server.specs.declared.outcome.Outcome.TheVariants.{Flush, Closed, Refused}
use Rattle.git_server.proofs.Begun.{begun_has_no_flush}
use Rattle.git_server.proofs.OneSession.{no_request, one_list}

-- before the only packet there is none
nothing_before : (xs more : List Given) (l m : Given) → xs ++ l ∷ more ≡ m ∷ [] → xs ≡ []
nothing_before xs more l m e = elim (two_cuts xs [] l m more [] e) [
  | inl here ↦ here.0
  | inr (inl (mid, is, left)) ↦ absurd (not_empty mid l more left)
  | inr (inr (mid, is, left)) ↦ absurd (not_empty xs l mid is)
]

-- what comes up to a packet ends before the last one, or is all
last_or_before : (xs more front : List Given) (l m : Given) → xs ++ l ∷ more ≡ front ++ m ∷ []
    → (more ≡ []) ⊎ ((others : List Given) × (front ≡ xs ++ l ∷ others))
last_or_before xs more front l m e = elim (two_cuts xs front l m more [] e) [
  | inl here ↦ inl here.2
  | inr (inl (mid, is, left)) ↦ absurd (not_empty mid l more left)
  | inr (inr (mid, is, left)) ↦ inr (mid, is)
]

same_fault : (f g : Fault) → f.kind ≡ g.kind → f.offset ≡ g.offset → f ≡ g
same_fault f g kinds offsets = ap (λ (k : Kind). let h : Fault = record { kind = k; offset = f.offset } in h) kinds
    ∙ ap (λ (n : ℕ). let h : Fault = record { kind = g.kind; offset = n } in h) offsets

-- what refuses bytes, while the input goes on
bytes_once : (p end : ℕ) (rest : List ℕ) (kind other : Kind) (m n : ℕ) → kind ≢ Truncated → other ≢ Truncated → StopsBy p rest end kind m
    → StopsBy p rest end other n → (kind ≡ other) × (m ≡ n)
bytes_once p end rest Truncated other m n a b h k = absurd (a refl)
bytes_once p end rest kind Truncated m n a b h k = absurd (b refl)
bytes_once p end rest StreamTooLong StreamTooLong m n a b h k = (refl, one_offset p rest end StreamTooLong m n h k)
bytes_once p end rest StreamTooLong other m n a b h k = absurd (not_open p end rest other n b (λ e. cc) k h.0)
bytes_once p end rest kind other m n a b h k = stops_once p end rest kind other m n a (λ e. cc) h k

module _ (s : Setting) where
  none_in_stop : (left : List Given) → IsStop left → NoRequest (IsRequest s) left
  none_in_stop left stop front more q e (kept, asks, had) =
      let none_before = nothing_before asks.front more asks.last stop.last (sym (whole_then s.offer s.limit front more left q kept asks e) ∙ stop.alone) in
      let lines : asks.lines ≡ [] = one_list_of_lines s.offer s.limit [] [] asks.lines [] (rw none_before at asks.taken) tt in
      let once : commands_of asks.lines ≡ asks.command ∷ [] = asks.once in
      let none : commands_of asks.lines ≡ [] = ap commands_of lines in
      cc

  -- a whole request is not refused at its last packet
  not_announced_whole : (left : List Given) (q : Asked) (kept : ℕ) (fault : Fault) → Asks s.offer s.limit left q kept
      → IsAnnouncedFor s.offer s.limit (barred s.repo) left fault → ⊥
  not_announced_whole left q kept fault asks (inl b) =
      no_flush_barred s.offer s.limit (barred s.repo) left asks.front asks.last fault.kind fault.offset asks.whole asks.ends b
  not_announced_whole left q kept fault asks (inr (unbarred, inl first)) = no_fault_in_request s.offer s.limit left q kept fault.kind fault.offset asks first
  not_announced_whole left q kept fault asks (inr (unbarred, inr w)) =
      let same : w.last ≡ asks.last = last_same w.front asks.front w.last asks.last (sym w.whole ∙ asks.whole) in
      flush_is_no_line s.offer s.limit w.lines w.last.packet _ w.is_line (ap (λ (g : Given). g.packet) same ∙ asks.ends)

  none_in_refused : (left : List Given) (rest : List ℕ) (fault : Fault) → IsRefusedAtPacket s left rest fault → NoRequest (IsRequest s) left
  none_in_refused left rest fault r front more q e (kept, asks, had) =
      at (last_or_before asks.front more r.front asks.last r.last (sym (whole_then s.offer s.limit front more left q kept asks e) ∙ r.whole))
    where
      at : (more ≡ []) ⊎ ((others : List Given) × (r.front ≡ asks.front ++ asks.last ∷ others)) → ⊥
      at (inl none) =
          let all : left ≡ front = e ∙ ap (λ (gs : List Given). front ++ gs) none ∙ append-nil front in
          not_announced_whole left q kept fault (subst (λ (gs : List Given). Asks s.offer s.limit gs q kept) (sym all) asks) r.announced
      at (inr (others, inside)) = flush_inside asks.front others r.front asks.last (begun_has_no_flush s r.front r.begins) asks.ends inside

  pub none_at_end : (over : Bool) (left : List Given) (rest : List ℕ) (end : ℕ) (outcome : Outcome) → ¬ WantsPack outcome
      → EndsBy s over left rest end outcome → NoRequest (IsRequest s) left
  none_at_end over left rest end Flush has_pack h = none_in_stop left h.0
  none_at_end over left rest end Closed has_pack h = subst (NoRequest (IsRequest s)) (sym h.1) (no_request s [] tt)
  none_at_end over left rest end (Refused fault) has_pack (inl (inl r)) = none_in_refused left rest fault r
  none_at_end over left rest end (Refused fault) has_pack (inl (inr (inl r))) = no_request s left (begun_has_no_flush s left r.begins)
  none_at_end over left rest end (Refused fault) has_pack (inl (inr (inr r))) = no_request s left (begun_has_no_flush s left r.begins)
  none_at_end over left rest end (Refused fault) has_pack (inr r) = absurd (has_pack r.name)

  -- a flush alone is no fault
  stop_or_announced : (left : List Given) (fault : Fault) → IsStop left → IsAnnouncedFor s.offer s.limit (barred s.repo) left fault → ⊥
  stop_or_announced left fault stop (inl b) = no_flush_barred s.offer s.limit (barred s.repo) left [] stop.last fault.kind fault.offset stop.alone stop.ends b
  stop_or_announced left fault stop (inr (unbarred, inl first)) =
      let refused : HasFault s.offer s.limit [] flush fault.kind =
      subst (λ (p : Pkt). HasFault s.offer s.limit [] p fault.kind) stop.ends (fault_at_last s.offer s.limit [] stop.last [] fault.kind fault.offset tt
      (subst (λ (gs : List Given). FirstFault s.offer s.limit gs fault.kind fault.offset) stop.alone first)) in
      refused.0 refl
  stop_or_announced left fault stop (inr (unbarred, inr w)) =
      let same : w.last ≡ stop.last = last_same w.front [] w.last stop.last (sym w.whole ∙ stop.alone) in
      flush_is_no_line s.offer s.limit w.lines w.last.packet _ w.is_line (ap (λ (g : Given). g.packet) same ∙ stop.ends)

  stop_or_begun : (left : List Given) → IsStop left → NoFlush left → ⊥
  stop_or_begun left stop none = let it = subst NoFlush stop.alone none in it.0 stop.ends

  announced_once : (left : List Given) (f g : Fault) → ¬ WantsMemory (Refused f) → ¬ WantsMemory (Refused g)
      → IsAnnouncedFor s.offer s.limit (barred s.repo) left f → IsAnnouncedFor s.offer s.limit (barred s.repo) left g → f ≡ g
  announced_once left f g a b (inl h) (inl k) =
      let same = one_barred s.offer s.limit (barred s.repo) left f.kind g.kind f.offset g.offset h k in same_fault f g same.0 same.1
  announced_once left f g a b (inl h) (inr (unbarred, k)) = absurd (unbarred f.kind f.offset h)
  announced_once left f g a b (inr (unbarred, h)) (inl k) = absurd (unbarred g.kind g.offset k)
  announced_once left f g a b (inr (none, inl h)) (inr (clear, inl k)) =
      let same = one_first_fault s.offer s.limit left f.kind g.kind f.offset g.offset h k in same_fault f g same.0 same.1
  announced_once left f g a b (inr (none, inr w)) (inr (clear, k)) = absurd (a w.name)
  announced_once left f g a b (inr (none, inl h)) (inr (clear, inr w)) = absurd (b w.name)

  announced_in_lines : (left : List Given) (f : Fault) → ¬ WantsMemory (Refused f) → IsAnnouncedFor s.offer s.limit (barred s.repo) left f → Begins s left → ⊥
  announced_in_lines left f a (inl h) begins =
      admitted_unbarred s.offer s.limit (barred s.repo) left begins.lines begins.taken begins.admitted f.kind f.offset h
  announced_in_lines left f a (inr (unbarred, inl h)) begins = no_fault_in_lines s.offer s.limit left begins.lines f.kind f.offset begins.taken h
  announced_in_lines left f a (inr (unbarred, inr w)) begins = a w.name

  over_or_not : (over : Bool) → over ≡ true → over ≡ false → ⊥
  over_or_not over h k = cc

  refused_once : (over : Bool) (left : List Given) (rest : List ℕ) (end : ℕ) (f g : Fault) → ¬ WantsMemory (Refused f) → ¬ WantsMemory (Refused g)
      → IsRefusedAsRead s over left rest end f → IsRefusedAsRead s over left rest end g → f ≡ g
  refused_once over left rest end f g a b (inl h) (inl k) = announced_once left f g a b h.announced k.announced
  refused_once over left rest end f g a b (inl h) (inr (inl k)) = absurd (announced_in_lines left f a h.announced k.begins)
  refused_once over left rest end f g a b (inl h) (inr (inr k)) = absurd (announced_in_lines left f a h.announced k.begins)
  refused_once over left rest end f g a b (inr (inl h)) (inl k) = absurd (announced_in_lines left g b k.announced h.begins)
  refused_once over left rest end f g a b (inr (inr h)) (inl k) = absurd (announced_in_lines left g b k.announced h.begins)
  refused_once over left rest end f g a b (inr (inl h)) (inr (inl k)) =
      let same = bytes_once
      (end - length rest) end rest f.kind g.kind f.offset g.offset h.not_the_end k.not_the_end h.stops k.stops in same_fault f g same.0 same.1
  refused_once over left rest end f g a b (inr (inl h)) (inr (inr k)) = absurd (over_or_not over k.ended h.goes_on)
  refused_once over left rest end f g a b (inr (inr h)) (inr (inl k)) = absurd (over_or_not over h.ended k.goes_on)
  refused_once over left rest end f g a b (inr (inr h)) (inr (inr k)) = same_fault f g (h.name ∙ sym k.name) (omega (arith, h.at, k.at))

  stop_or_refused : (over : Bool) (left : List Given) (rest : List ℕ) (end : ℕ) (f : Fault) → IsStop left → IsRefusedAsRead s over left rest end f → ⊥
  stop_or_refused over left rest end f stop (inl h) = stop_or_announced left f stop h.announced
  stop_or_refused over left rest end f stop (inr (inl h)) = stop_or_begun left stop (begun_has_no_flush s left h.begins)
  stop_or_refused over left rest end f stop (inr (inr h)) = stop_or_begun left stop (begun_has_no_flush s left h.begins)

  closed_or_refused : (over : Bool) (left : List Given) (rest : List ℕ) (end : ℕ) (f : Fault) → (over ≡ true) × (left ≡ []) × (rest ≡ [])
      → IsRefusedAsRead s over left rest end f → ⊥
  closed_or_refused over left rest end f closed (inl h) = not_empty h.front h.last [] (sym closed.1 ∙ h.whole)
  closed_or_refused over left rest end f closed (inr (inl h)) = over_or_not over closed.0 h.goes_on
  closed_or_refused over left rest end f closed (inr (inr h)) = inside h.inside
    where
      inside : (left ≢ []) ⊎ (rest ≢ []) → ⊥
      inside (inl some) = some closed.1
      inside (inr some) = some closed.2

  stop_or_closed : (left : List Given) → IsStop left → left ≡ [] → ⊥
  stop_or_closed left stop none = let e : stop.last ∷ [] ≡ [] = sym stop.alone ∙ none in cc

  ends_once : (over : Bool) (left : List Given) (rest : List ℕ) (end : ℕ) (o p : Outcome) → IsOfTheBytes o → IsOfTheBytes p
      → EndsBy s over left rest end o → EndsBy s over left rest end p → o ≡ p
  ends_once over left rest end Flush Flush a b h k = refl
  ends_once over left rest end Closed Closed a b h k = refl
  ends_once over left rest end Flush Closed a b h k = absurd (stop_or_closed left h.0 k.1)
  ends_once over left rest end Closed Flush a b h k = absurd (stop_or_closed left k.0 h.1)
  ends_once over left rest end Flush (Refused f) a b h (inl k) = absurd (stop_or_refused over left rest end f h.0 k)
  ends_once over left rest end Flush (Refused f) a b h (inr k) = absurd (b.by_pack k.name)
  ends_once over left rest end (Refused f) Flush a b (inl h) k = absurd (stop_or_refused over left rest end f k.0 h)
  ends_once over left rest end (Refused f) Flush a b (inr h) k = absurd (a.by_pack h.name)
  ends_once over left rest end Closed (Refused f) a b h (inl k) = absurd (closed_or_refused over left rest end f h k)
  ends_once over left rest end Closed (Refused f) a b h (inr k) = absurd (b.by_pack k.name)
  ends_once over left rest end (Refused f) Closed a b (inl h) k = absurd (closed_or_refused over left rest end f k h)
  ends_once over left rest end (Refused f) Closed a b (inr h) k = absurd (a.by_pack h.name)
  ends_once over left rest end (Refused f) (Refused g) a b (inl h) (inl k) = ap Refused (refused_once over left rest end f g a.by_memory b.by_memory h k)
  ends_once over left rest end (Refused f) (Refused g) a b (inr h) k = absurd (a.by_pack h.name)
  ends_once over left rest end (Refused f) (Refused g) a b (inl h) (inr k) = absurd (b.by_pack k.name)

  -- what is left after the whole requests of some bytes, if it has none, is one thing, and so is what they ask for
  pub one_left : (used : List ℕ) (asked others : List Asked) (left more : List Given) (rest end : List ℕ) → Stream s used asked left rest
      → Stream s used others more end
      → NoRequest (IsRequest s) left → NoRequest (IsRequest s) more → (left ≡ more) × (rest ≡ end) × (asked ≡ others)
  one_left used asked others left more rest end h k none clear =
      let split = one_split 0 used h.packets k.packets rest end h.splits.spelled k.splits.spelled h.splits.ends k.splits.ends in
      let same = one_list s k.packets asked others left more none clear
      (subst (λ (gs : List Given). AreRequests (IsRequest s) gs asked left) split.packets h.requests) k.requests in
      (same.1, split.rest_is, same.0)

  -- the same bytes end in one way
  pub one_end : (used : List ℕ) (over : Bool) (asked others : List Asked) (left more : List Given) (rest end : List ℕ) (o p : Outcome)
      → Stream s used asked left rest → Stream s used others more end → EndsBy s over left rest (length used) o → EndsBy s over more end (length used) p
      → IsOfTheBytes o → IsOfTheBytes p → o ≡ p
  one_end used over asked others left more rest end o p h k ends also a b =
      let same = one_left used asked others left more rest end h k (none_at_end over left rest (length used) o a.by_pack ends)
      (none_at_end over more end (length used) p b.by_pack also) in
      ends_once over more end (length used) o p a b
      (subst (λ (gs : List Given). EndsBy s over gs end (length used) o) same.0
      (subst (λ (l : List ℕ). EndsBy s over left l (length used) o) same.1 ends)) also

  pub one_outcome : (used : List ℕ) (over : Bool) (given others : List ℕ) (o p : Outcome) → IsSession s used over given o → IsSession s used over others p
      → IsOfTheBytes o → IsOfTheBytes p → o ≡ p
  one_outcome used over given others o p h k a b = one_end used over h.asked k.asked h.left k.left h.rest k.rest o p h.stream k.stream h.ends k.ends a b

  -- what begins a request, and may become more of it, is not refused while the input goes on; that the stream is too long shows with a
  -- further byte
  refused_later : (left : List Given) (rest : List ℕ) (end : ℕ) (fault : Fault) → Begins s left → IsOpen rest → ¬ WantsMemory (Refused fault)
      → IsRefusedAsRead s false left rest end fault → fault.kind ≢ StreamTooLong → ⊥
  refused_later left rest end fault begins unrefused memory (inl h) other = announced_in_lines left fault memory h.announced begins
  refused_later left rest end fault begins unrefused memory (inr (inl h)) other =
      not_open (end - length rest) end rest fault.kind fault.offset h.not_the_end other h.stops unrefused
  refused_later left rest end fault begins unrefused memory (inr (inr h)) other = over_or_not false h.ended refl

  -- bytes with which a session goes on have no malformed packet
  pub clean_so_far : (used given : List ℕ) (fault : Fault) → GoesOn s used given → FirstMalformed s used false fault → fault.kind ≢ StreamTooLong → ⊥
  clean_so_far used given fault h k other =
      let same = one_left used h.asked k.asked h.left k.left h.rest k.rest h.stream k.stream (no_request s h.left (begun_has_no_flush s h.left h.begins))
      (none_at_end false k.left k.rest (length used) (Refused fault) k.of_the_bytes.by_pack (inl k.refused)) in
      refused_later h.left h.rest (length used) fault h.begins h.unrefused k.of_the_bytes.by_memory
      (subst (λ (gs : List Given). IsRefusedAsRead s false gs h.rest (length used) fault) (sym same.0)
      (subst (λ (l : List ℕ). IsRefusedAsRead s false k.left l (length used) fault) (sym same.1) k.refused)) other
