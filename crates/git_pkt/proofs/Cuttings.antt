-- Readers of the same bytes, whatever the chunks were.
use Rattle.std.proofs.Common.{◌≡◌, ◌≢◌, ℕ, ◌+◌, ◌-◌, List, length, Option, Some, None, sym, ◌∙◌, ap, subst, refl}
use Rattle.git_pkt.specs.Splits.{Given}
use Rattle.git_pkt.specs.Faults.{IsOpen, IsRefused, RestFault, StopsBy}
use Rattle.git_pkt.specs.Machine.PacketReader.{Reads, StandsAt, HoldsAll, fault_of, rest_of}
use Rattle.git_pkt.specs.declared.fault.Fault.{Fault}
use Rattle.git_pkt.specs.declared.fault.Kind.{Kind}
use Rattle.git_pkt.specs.declared.fault.Kind.TheVariants.{Truncated, StreamTooLong}
use Rattle.git_pkt.specs.declared.reader.PacketReader.{PacketReader}
use Rattle.git_pkt.proofs.KnownRest.{sound_rest, whole_rest}
use Rattle.git_pkt.proofs.Streams.{one_split, SameSplit}
use Rattle.git_pkt.proofs.Rests.{not_open_and_faulty, one_fault, same_fault}

pub same_split : (r s : PacketReader) (start : ℕ) (bytes : List ℕ) (given others : List Given) (rest other_rest : List ℕ)
    → Reads r start bytes given rest → Reads s start bytes others other_rest → SameSplit given others rest other_rest
same_split r s start bytes given others rest other_rest h k =
    one_split start bytes given others rest other_rest h.splits.spelled k.splits.spelled h.splits.ends k.splits.ends

-- the error that a reader reports is in its stream
pub stopped : (r : PacketReader) (f : Fault) (start : ℕ) (bytes : List ℕ) (given : List Given) (rest : List ℕ)
    → Reads r start bytes given rest → fault_of r ≡ Some f → StopsBy (start + length bytes - length rest) rest (start + length bytes) f.kind f.offset
stopped r f start bytes given rest h announced =
    (subst (λ (o : Option Fault). StandsAt o (start + length bytes - length rest) (start + length bytes) rest r) announced h.state).1

-- an error of one kind is at one offset
pub one_offset : (p : ℕ) (rest : List ℕ) (end : ℕ) (kind : Kind) (m n : ℕ) → StopsBy p rest end kind m → StopsBy p rest end kind n → m ≡ n
one_offset p rest end Truncated m n a b = a.2 ∙ sym b.2
one_offset p rest end StreamTooLong m n a b = a.2 ∙ sym b.2
one_offset p rest end kind m n a b =
    let f : Fault = record { kind = kind; offset = m } in
    let g : Fault = record { kind = kind; offset = n } in
    ap (λ (x : Fault). x.offset) (one_fault p rest f g a.0 b.0)

-- an open rest has neither
announced_again_at : (p end : ℕ) (rest : List ℕ) (f : Fault) (kind : Kind) (offset : ℕ)
    → RestFault p rest f → StopsBy p rest end kind offset → (f.kind ≡ kind) × (f.offset ≡ offset)
announced_again_at p end rest f Truncated offset h k = absurd (not_open_and_faulty p rest f k.0 h)
announced_again_at p end rest f StreamTooLong offset h k = absurd (not_open_and_faulty p rest f k.0 h)
announced_again_at p end rest f kind offset h k =
    let g : Fault = record { kind = kind; offset = offset } in
    let same : f ≡ g = one_fault p rest f g h k.0 in
    (ap (λ (x : Fault). x.kind) same, ap (λ (x : Fault). x.offset) same)

-- an error other than one of an ending is an error of the rest
of_bytes : (p end : ℕ) (rest : List ℕ) (kind : Kind) (offset : ℕ)
    → kind ≢ Truncated → kind ≢ StreamTooLong → StopsBy p rest end kind offset → IsRefused p rest kind offset
of_bytes p end rest Truncated offset a b h = absurd (a refl)
of_bytes p end rest StreamTooLong offset a b h = absurd (b refl)
of_bytes p end rest kind offset a b h = h.0

-- an error other than one of an ending is the only one, and an open rest has none
pub stops_once : (p end : ℕ) (rest : List ℕ) (kind other : Kind) (m n : ℕ)
    → kind ≢ Truncated → kind ≢ StreamTooLong → StopsBy p rest end kind m → StopsBy p rest end other n → (kind ≡ other) × (m ≡ n)
stops_once p end rest kind other m n a b h k =
    announced_again_at p end rest (record { kind = kind; offset = m }) other n (of_bytes p end rest kind m a b h) k

pub not_open : (p end : ℕ) (rest : List ℕ) (kind : Kind) (offset : ℕ)
    → kind ≢ Truncated → kind ≢ StreamTooLong → StopsBy p rest end kind offset → IsOpen rest → ⊥
not_open p end rest kind offset a b h sound =
    not_open_and_faulty p rest (record { kind = kind; offset = offset }) sound (of_bytes p end rest kind offset a b h)

announced_by : (s : PacketReader) (f : Fault) (o : Option Fault) (p end : ℕ) (rest : List ℕ) → RestFault p rest f → StandsAt o p end rest s → o ≡ Some f
announced_by s f None p end rest h stands = absurd (not_open_and_faulty p rest f stands.1 h)
announced_by s f (Some g) p end rest h stands =
    let same = announced_again_at p end rest f g.kind g.offset h stands.1 in
    ap (λ (x : Fault). Some x) (sym (same_fault f g same.0 same.1))

-- an error that the bytes show is reported by each of their readers
pub announced_by_all : (r s : PacketReader) (f : Fault) (start : ℕ) (bytes : List ℕ) (given others : List Given) (rest other_rest : List ℕ)
    → Reads r start bytes given rest → Reads s start bytes others other_rest
    → fault_of r ≡ Some f → f.kind ≢ Truncated → f.kind ≢ StreamTooLong → fault_of s ≡ Some f
announced_by_all r s f start bytes given others rest other_rest h k announced a b =
    let same = (same_split r s start bytes given others rest other_rest h k).rest_is in
    let p : ℕ = start + length bytes - length rest in
    let fault = of_bytes p (start + length bytes) rest f.kind f.offset a b (stopped r f start bytes given rest h announced) in
    announced_by s f (fault_of s) p (start + length bytes) rest fault
    (subst (λ (l : List ℕ). StandsAt (fault_of s) (start + length bytes - length l) (start + length bytes) l s) (sym same) k.state)

-- two errors of one kind are equal
pub one_by_name : (r s : PacketReader) (f g : Fault) (start : ℕ) (bytes : List ℕ) (given others : List Given) (rest other_rest : List ℕ)
    → Reads r start bytes given rest → Reads s start bytes others other_rest → fault_of r ≡ Some f → fault_of s ≡ Some g → f.kind ≡ g.kind → f ≡ g
one_by_name r s f g start bytes given others rest other_rest h k announced other name =
    let same = (same_split r s start bytes given others rest other_rest h k).rest_is in
    let p : ℕ = start + length bytes - length rest in
    let a = stopped r f start bytes given rest h announced in
    let b : StopsBy p rest (start + length bytes) g.kind g.offset =
    subst (λ (l : List ℕ). StopsBy (start + length bytes - length l) l (start + length bytes) g.kind g.offset)
    (sym same) (stopped s g start bytes others other_rest k other) in
    let c : StopsBy p rest (start + length bytes) f.kind g.offset =
    subst (λ (n : Kind). StopsBy p rest (start + length bytes) n g.offset) (sym name) b in
    same_fault f g name (one_offset p rest (start + length bytes) f.kind f.offset g.offset a c)

-- two readers without an error that hold all of the rest hold the same
pub one_rest : (r s : PacketReader) (start : ℕ) (bytes : List ℕ) (given others : List Given) (rest other_rest : List ℕ) → Reads r start bytes given rest
    → Reads s start bytes others other_rest → fault_of r ≡ None → fault_of s ≡ None → HoldsAll r → HoldsAll s → rest_of r ≡ rest_of s
one_rest r s start bytes given others rest other_rest h k sound well all others_all =
    let same = (same_split r s start bytes given others rest other_rest h k).rest_is in
    whole_rest r rest all (sound_rest r start bytes given rest sound h).0
    ∙ same
    ∙ sym (whole_rest s other_rest others_all (sound_rest s start bytes others other_rest well k).0)
