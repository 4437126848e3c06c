-- How a split continues with more bytes, and that it is unique.
use Rattle.std.proofs.Common.{◌≡◌, ℕ, ◌+◌, ◌≤◌, List, [], ◌∷◌, ◌++◌, length, arith, refl, sym, ◌∙◌, ap, append_assoc, length-append}
use Rattle.std.proofs.lemmas.List.{append-nil}
use Rattle.git_pkt.specs.Packets.{Pkt, Spells}
use Rattle.git_pkt.specs.Splits.{Given, SpellsAll, NoneBegins}
use Rattle.git_pkt.proofs.Spelling.{same_start}

-- more bytes make the rest longer
pub spells_all_more : (p : ℕ) (bytes : List ℕ) (given : List Given) (rest more : List ℕ)
    → SpellsAll p bytes given rest → SpellsAll p (bytes ++ more) given (rest ++ more)
spells_all_more p bytes [] rest more h = ap (λ (b : List ℕ). b ++ more) h
spells_all_more p bytes (g ∷ gs) rest more (s, later, e, o, spells, tail) =
    (s, later ++ more, ap (λ (b : List ℕ). b ++ more) e ∙ append_assoc s later more, o, spells, spells_all_more (p + length s) later gs rest more tail)

-- the length of the rest
pub spells_all_length : (p : ℕ) (bytes : List ℕ) (given : List Given) (rest : List ℕ) → SpellsAll p bytes given rest → length rest ≤ length bytes
spells_all_length p bytes [] rest h = omega (arith, ap length h)
spells_all_length p bytes (g ∷ gs) rest (s, later, e, o, spells, tail) =
    omega (arith, spells_all_length (p + length s) later gs rest tail, ap length e, length-append s later)

pub spells_all_front : (p : ℕ) (bytes : List ℕ) (given : List Given) (rest : List ℕ) → SpellsAll p bytes given rest
    → (front : List ℕ) × (bytes ≡ front ++ rest)
spells_all_front p bytes [] rest h = ([], h)
spells_all_front p bytes (g ∷ gs) rest (s, later, e, o, spells, tail) =
    let front = spells_all_front (p + length s) later gs rest tail in
    (s ++ front.0, e ∙ ap (λ (l : List ℕ). s ++ l) front.1 ∙ sym (append_assoc s front.0 rest))

-- a rest that spells a packet is one more packet
pub spells_all_whole : (p : ℕ) (bytes : List ℕ) (given : List Given) (rest : List ℕ) (g : Given)
    → SpellsAll p bytes given rest → Spells g.packet rest → g.offset + length rest ≡ p + length bytes → SpellsAll p bytes (given ++ g ∷ []) []
spells_all_whole p bytes [] rest g h spells o =
    (rest, [], h ∙ sym (append-nil rest), omega (arith, o, ap length h), spells, refl)
spells_all_whole p bytes (f ∷ fs) rest g (s, later, e, at, fs_spell, tail) spells o =
    (s, later, e, at, fs_spell, spells_all_whole (p + length s) later fs rest g tail spells (omega (arith, o, ap length e, length-append s later)))

-- the split is unique
pub record SameSplit (gs hs : List Given) (rest others : List ℕ) : Type 0 where
  pub packets : gs ≡ hs
  pub rest_is : rest ≡ others

same_given : (g h : Given) → g.packet ≡ h.packet → g.offset ≡ h.offset → g ≡ h
same_given g h e o =
    let packets = ap (λ (p : Pkt). let made : Given = record { packet = p; offset = g.offset } in made) e in
    let offsets = ap (λ (n : ℕ). let made : Given = record { packet = h.packet; offset = n } in made) o in
    packets ∙ offsets

pub one_split : (p : ℕ) (bytes : List ℕ) (gs hs : List Given) (rest others : List ℕ)
    → SpellsAll p bytes gs rest → SpellsAll p bytes hs others → NoneBegins rest → NoneBegins others → SameSplit gs hs rest others
one_split p bytes [] [] rest others a b n m = record { packets = refl; rest_is = sym a ∙ b }
one_split p bytes [] (h ∷ hs) rest others a (s, more, e, o, spells, tail) n m = absurd (n h.packet s more (sym a ∙ e) spells)
one_split p bytes (g ∷ gs) [] rest others (s, more, e, o, spells, tail) b n m = absurd (m g.packet s more (sym b ∙ e) spells)
one_split p bytes (g ∷ gs) (h ∷ hs) rest others (s, more, e, o, spells, tail) (t, later, f, i, k, end) n m =
    let same = same_start g.packet h.packet s t more later spells k (sym e ∙ f) in
    let moved : SpellsAll (p + length s) more hs others = rw (same.spelling, same.rest) end in
    let others_same = one_split (p + length s) more gs hs rest others tail moved n m in
    record {
      packets = ap (λ (x : Given). x ∷ gs) (same_given g h same.packet (o ∙ sym i)) ∙ ap (λ (xs : List Given). h ∷ xs) others_same.packets;
      rest_is = others_same.rest_is;
    }
