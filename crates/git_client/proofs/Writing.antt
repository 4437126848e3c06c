-- A line that is written part by part.
use Rattle.std.proofs.Common.{Bool, true, false, ◌||◌, ◌≡◌, ℕ, ◌+◌, ◌-◌, ◌<◌, ◌≤◌, List, [], ◌∷◌, ◌++◌, take, drop, length, codes, slice_index_or, Option}
use Rattle.std.proofs.Common.{Result, Ok, Err, IsErrAnd, refl, ap, ap₂, sym, ◌∙◌, subst, append_assoc, append-nil}
use Rattle.std.proofs.Common.{arith, take-add, take-take, take_at, drop_at}
use Rattle.std.proofs.lemmas.List.{drop_more, drop_all}
use Rattle.git_names.specs.ObjectFormat.{digits_of}
use Rattle.git_names.specs.declared.object_format.Format.{Format}
use Rattle.git_names.specs.declared.object_format.Format.TheVariants.{Sha1, Sha256}
use Rattle.git_pkt.specs.Escape.{escaped_of}
use Rattle.git_pkt.specs.Machine.Sends.{Puts, Sends}
use Rattle.git_pkt.specs.declared.fault.RunFault.{RunFault}
use Rattle.git_pkt.specs.declared.recorded.Recorded.{Recorded}
use Rattle.git_pkt.proofs.Escapes.{escaped-append, escaped-parts}
use Rattle.git_pkt.proofs.EngineLemmas.{take-next}
use Rattle.git_pkt.proofs.Sends.{puts_then, puts_front, sends_all, sends_stopped}
use Rattle.git_client.specs.Machine.LineParts.{part_shown, line_shown}
use Rattle.git_client.specs.declared.line.Part.{Part}

-- the parts before an index were put, and the line's parts from there on are left
pub record PutsSome {W : Type 0} (contents : W → Option (List ℕ)) (old : Recorded W) (before : List ℕ) (parts : List Part) (at : ℕ) (new : Recorded W)
    (waiting : List ℕ) : Type 0 where
  pub put : List ℕ
  pub puts : Puts {T = Unit {0}} contents old before put (Ok tt) new waiting
  pub left : line_shown parts ≡ put ++ line_shown (drop at parts)

module _ {W : Type 0} {contents : W → Option (List ℕ)} where
  module _ {old mid : Recorded W} {before : List ℕ} {parts : List Part} {at : ℕ} {waiting : List ℕ} (part : Part)
      (some : PutsSome contents old before parts at mid waiting) (within : at < length parts) (is : part ≡ slice_index_or parts at part) where
    -- this part, and those after it
    left_from : line_shown parts ≡ (some.put ++ part_shown part) ++ line_shown (drop (at + 1) parts)
    left_from =
        some.left ∙ ap (λ (l : List Part). some.put ++ line_shown l) (drop_more parts at part within)
        ∙ ap (λ (p : Part). some.put ++ (part_shown p ++ line_shown (drop (at + 1) parts))) (sym is)
        ∙ sym (append_assoc some.put (part_shown part) (line_shown (drop (at + 1) parts)))

    pub puts_part : {new : Recorded W} {after : List ℕ} → Puts {T = Unit {0}} contents mid waiting (part_shown part) (Ok tt) new after
        → PutsSome contents old before parts (at + 1) new after
    puts_part puts = record { put = some.put ++ part_shown part; puts = puts_then some.puts puts; left = left_from }

    -- this part could not be put
    pub part_stopped : {S : Type 0} {new : Recorded W} {after last : List ℕ} {met : RunFault} {result : Result (Unit {0}) RunFault}
        → Puts {T = S} contents mid waiting (part_shown part) (Err met) new after
        → IsErrAnd result (λ e. e ≡ met) → Puts contents old before (line_shown parts) result new last
    part_stopped {new = new} {last = last} {result = result} stopped answered =
        subst (λ (l : List ℕ). Puts contents old before l result new last) (sym left_from)
        (puts_front (line_shown (drop (at + 1) parts)) (puts_then some.puts stopped) answered)

  -- all parts were put, and what is left is the line's end
  pub all_put : {old new : Recorded W} {before : List ℕ} {parts : List Part} {at : ℕ} {waiting : List ℕ}
      (some : PutsSome contents old before parts at new waiting)
      → length parts ≤ at → some.put ++ codes "\n" ≡ line_shown parts
  all_put {parts = parts} some end =
      sym (some.left ∙ ap (λ (l : List Part). some.put ++ line_shown l) (drop_all _ parts end))

  -- nothing waited before, and at the end all waiting bytes are sent
  pub sends_lines : {S T : Type 0} {a b c : Recorded W} {s u t : List ℕ} {x : S} {result : Result T RunFault} → s ≡ [] → Puts contents a s u (Ok x) b t
      → Sends contents b t result c → Sends contents a u result c
  sends_lines {a = a} {b = b} {u = u} {t = t} {x = x} none puts sends =
      sends_all (subst (λ (l : List ℕ). Puts contents a l u (Ok x) b t) none puts) sends

  pub lines_stopped : {S T : Type 0} {a c : Recorded W} {s u t : List ℕ} {met : RunFault} {result : Result T RunFault} → s ≡ []
      → Puts {T = S} contents a s u (Err met) c t → IsErrAnd result (λ e. e ≡ met) → Sends contents a u result c
  lines_stopped {S = S} {a = a} {c = c} {u = u} {t = t} {met = met} none puts answered =
      sends_stopped (subst (λ (l : List ℕ). Puts {T = S} contents a l u (Err met) c t) none puts) answered

-- bytes joined one after another, from the first on and from the last on
abbrev pub after_all : List ℕ → List (List ℕ) → List ℕ
after_all so_far [] = so_far
after_all so_far (part ∷ parts) = after_all (so_far ++ part) parts

abbrev pub joined : List (List ℕ) → List ℕ
joined [] = []
joined (part ∷ parts) = part ++ joined parts

pub one_line : (so_far : List ℕ) (parts : List (List ℕ)) → so_far ++ joined parts ≡ after_all so_far parts
one_line so_far [] = append-nil so_far
one_line so_far (part ∷ parts) = sym (append_assoc so_far part (joined parts)) ∙ one_line (so_far ++ part) parts

-- the line of parts with these bytes
abbrev pub line_by : List (List ℕ) → List ℕ
line_by [] = codes "\n"
line_by (bytes ∷ more) = bytes ++ line_by more

abbrev pub AreSame : List (List ℕ) → List (List ℕ) → Type 0
AreSame [] [] = Unit {0}
AreSame (bytes ∷ more) (others ∷ rest) = (bytes ≡ others) × AreSame more rest
AreSame _ _ = ⊥

pub line_same : (given shown : List (List ℕ)) → AreSame given shown → line_by given ≡ line_by shown
line_same [] [] same = refl
line_same (bytes ∷ more) (others ∷ rest) (same, all) = ap₂ (λ (l m : List ℕ). l ++ m) same (line_same more rest all)
line_same [] (others ∷ rest) same = absurd same
line_same (bytes ∷ more) [] same = absurd same

pub no_failure : (now was first : Bool) → now ≡ (was || false) → was ≡ first → now ≡ first
no_failure now true first e h = e ∙ h
no_failure now false first e h = e ∙ h

-- the escapes of the bytes so far, and of the next
next_escaped : (bytes : List ℕ) (done count : ℕ)
    → escaped_of (take done bytes) ++ escaped_of (take (done + count - done) (drop done bytes)) ≡ escaped_of (take (done + count) bytes)
next_escaped bytes done count =
    sym (escaped-append (take done bytes) (take (done + count - done) (drop done bytes))) ∙ ap escaped_of (sym (take-next done count bytes))

module _ {W : Type 0} {contents : W → Option (List ℕ)} (bytes : List ℕ) (done count : ℕ) {a b c : Recorded W} {s t x : List ℕ} where
  -- one more block
  pub block_put : {T : Type 0} {result : Result T RunFault} → Puts {T = Unit {0}} contents a s (escaped_of (take done bytes)) (Ok tt) b t
      → Puts contents b t (escaped_of (take (done + count - done) (drop done bytes))) result c x
      → Puts contents a s (escaped_of (take (done + count) bytes)) result c x
  block_put {result = result} one two =
      subst (λ (l : List ℕ). Puts contents a s l result c x) (next_escaped bytes done count) (puts_then one two)

  -- a block that failed
  pub block_stopped : {S : Type 0} {met : RunFault} {result : Result (Unit {0}) RunFault}
      → Puts {T = Unit {0}} contents a s (escaped_of (take done bytes)) (Ok tt) b t
      → Puts {T = S} contents b t (escaped_of (take (done + count - done) (drop done bytes))) (Err met) c x → IsErrAnd result (λ e. e ≡ met)
      → Puts contents a s (escaped_of bytes) result c x
  block_stopped {result = result} one two answered =
      subst (λ (l : List ℕ). Puts contents a s l result c x) (escaped-parts bytes (done + count))
      (puts_front (escaped_of (drop (done + count) bytes)) (block_put one two) answered)

-- bytes were copied over a place, and only the first of them count
pub take_placed : (bytes new placed : List ℕ) (at k n : ℕ) → take (at + k) placed ≡ take at bytes ++ new → length (take at bytes) ≡ at → n ≤ k
    → take (at + n) placed ≡ take at bytes ++ take n new
take_placed bytes new placed at k n is front few =
    sym (take-take (at + n) (at + k) placed (omega arith)) ∙ ap (take (at + n)) is ∙ take-add at n (take at bytes ++ new)
    ∙ ap₂ (λ (l m : List ℕ). l ++ take n m) (take_at (take at bytes) new at front) (drop_at (take at bytes) new at front)

pub digits_within : (format : Format) → digits_of format ≤ 64
digits_within Sha1 = omega arith
digits_within Sha256 = omega arith
