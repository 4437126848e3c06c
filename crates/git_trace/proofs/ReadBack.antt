-- What is written of bytes is read back.
use Rattle.std.proofs.Common.{◌≡◌, ℕ, ◌+◌, ◌-◌, ◌*◌, ◌/◌, ◌%◌, ◌<◌, ◌≤◌, ◌==◌, Bool, true, false, ◌&&◌, not, nat_eq, nat_lt, nat_le, List, [], ◌∷◌, ◌++◌}
use Rattle.std.proofs.Common.{Some, codes, length, refl, sym, ap, ◌∙◌, arith, if◌then◌else◌, subst}
use Rattle.std.specs.List.{All, filter}
use Rattle.std.proofs.lemmas.Bool.{and_parts, eqb-true, eqb-false, leb-true, ltb-true, ltb-false}
use Rattle.git_trace.specs.declared.escapes.Escape.{Escape}
use Rattle.git_trace.specs.Escapes.{digits_of, escape_at, has_eleven, is_printable, octal, octal_at, octal_value, read_after, three_at, unescaped}
use Rattle.git_trace.specs.Escapes.{IsClear, NoDigit, is_written, written, written_byte}
use Rattle.std.proofs.Math.Seq.{drop-append_seam}
use Rattle.std.proofs.lemmas.List.Elements.{All-head, All-tail}
use Rattle.git_trace.proofs.Reading.{read_skip}

octal_digit : (a : ℕ) → a < 8 → octal_value (Some (a + 48)) ≡ a
octal_digit a below = grind (arith)

-- a character that is no octal digit
other : (d c : ℕ) → octal_value (Some d) < 8 → octal_value (Some c) ≡ 8 → nat_eq d c ≡ false
other d c digit none = at (nat_eq d c) refl where
  at : (same : Bool) → nat_eq d c ≡ same → same ≡ false
  at true e = absurd (omega (arith, digit, subst (λ (n : ℕ). octal_value (Some n) ≡ 8) (sym (eqb-true d c e)) none))
  at false e = refl

and_false : (b : Bool) → (b && false) ≡ false
and_false true = refl
and_false false = refl

-- the longest digits, by the values of the first three
abbrev by : Bool → ℕ → ℕ → ℕ → ℕ → Escape
by eleven n a b c =
    if eleven
    then record { byte = n - 256; digits = 11 }
    else (if nat_lt a 8 && nat_lt b 8 && nat_lt c 8 && nat_le 127 (a * 64 + b * 8 + c) && nat_le (a * 64 + b * 8 + c) 255
    then record { byte = a * 64 + b * 8 + c; digits = 3 }
    else (if nat_lt a 8 && nat_lt b 8 && nat_le 8 (a * 8 + b) && nat_lt (a * 8 + b) 32 && not (a * 8 + b == 10)
    then record { byte = a * 8 + b; digits = 2 }
    else (if nat_lt a 8 then record { byte = a; digits = 1 } else record { byte = 92; digits = 0 })))

by_one : (n a c : ℕ) → a < 8 → by false n a 8 c ≡ record { byte = a; digits = 1 }
by_one n a c below = grind (arith)

by_two : (n a b : ℕ) → a < 8 → b < 8 → 8 ≤ a * 8 + b → a * 8 + b < 32 → (a * 8 + b ≡ 10 → ⊥) → by false n a b 8 ≡ record { byte = a * 8 + b; digits = 2 }
by_two n a b below under least most no_lf = grind (arith)

by_three : (n a b c : ℕ) → a < 8 → b < 8 → c < 8 → 127 ≤ a * 64 + b * 8 + c → a * 64 + b * 8 + c ≤ 255
    → by false n a b c ≡ record { byte = a * 64 + b * 8 + c; digits = 3 }
by_three n a b c below under last least most = grind (arith)

-- no digits
pub escape_none : (rest : List ℕ) → octal_at rest 0 ≡ 8 → escape_at rest ≡ record { byte = 92; digits = 0 }
escape_none [] none = refl
escape_none (c ∷ rest) none = rw (other 51 c (omega arith) none, none) refl

no_eleven_1 : (d : ℕ) (rest : List ℕ) → octal_at rest 0 ≡ 8 → has_eleven (d ∷ rest) ≡ false
no_eleven_1 d [] none = rw (and_false) refl
no_eleven_1 d (c ∷ rest) none = rw (other 55 c (omega arith) none, and_false) refl

no_eleven_2 : (d e : ℕ) (rest : List ℕ) → octal_at rest 0 ≡ 8 → has_eleven (d ∷ e ∷ rest) ≡ false
no_eleven_2 d e [] none = simp and_false refl
no_eleven_2 d e (c ∷ rest) none = rw (other 55 c (omega arith) none) (simp and_false refl)

no_eleven_3 : (d e f : ℕ) (rest : List ℕ) → octal_at rest 0 ≡ 8 → has_eleven (d ∷ e ∷ f ∷ rest) ≡ false
no_eleven_3 d e f [] none = simp and_false refl
no_eleven_3 d e f (c ∷ rest) none = rw (other 55 c (omega arith) none) (simp and_false refl)

octal_1 : (n : ℕ) → n < 8 → octal n ≡ (n + 48) ∷ []
unfolding octal
octal_1 n below = grind (arith)

octal_2 : (n : ℕ) → 8 ≤ n → n < 64 → octal n ≡ (n / 8 + 48) ∷ (n % 8 + 48) ∷ []
unfolding octal
octal_2 n least below = grind (arith)

octal_3 : (n : ℕ) → 64 ≤ n → octal n ≡ (n / 64 + 48) ∷ (n / 8 % 8 + 48) ∷ (n % 8 + 48) ∷ []
unfolding octal
octal_3 n least = grind (arith)

two_digits : (n : ℕ) → n / 8 * 8 + n % 8 ≡ n
two_digits n = omega arith

three_digits : (n : ℕ) → n / 64 * 64 + n / 8 % 8 * 8 + n % 8 ≡ n
three_digits n = omega arith

one_read : (n : ℕ) (rest : List ℕ) → n < 8 → octal_at rest 0 ≡ 8 → escape_at ((n + 48) ∷ rest) ≡ record { byte = n; digits = 1 }
one_read n rest below none =
    let text = (n + 48) ∷ rest in
    ap (λ (e : Bool). by e (three_at text 8) (octal_at text 0) (octal_at text 1) (octal_at text 2)) (no_eleven_1 (n + 48) rest none)
    ∙ ap (λ (a : ℕ). by false (three_at text 8) a (octal_at text 1) (octal_at text 2)) (octal_digit n below)
    ∙ ap (λ (b : ℕ). by false (three_at text 8) n b (octal_at text 2)) none
    ∙ by_one (three_at text 8) n (octal_at text 2) below

two_read : (a b : ℕ) (rest : List ℕ) → a < 8 → b < 8 → 8 ≤ a * 8 + b → a * 8 + b < 32 → (a * 8 + b ≡ 10 → ⊥) → octal_at rest 0 ≡ 8
    → escape_at ((a + 48) ∷ (b + 48) ∷ rest) ≡ record { byte = a * 8 + b; digits = 2 }
two_read a b rest below under least most no_lf none =
    let text = (a + 48) ∷ (b + 48) ∷ rest in
    ap (λ (e : Bool). by e (three_at text 8) (octal_at text 0) (octal_at text 1) (octal_at text 2)) (no_eleven_2 (a + 48) (b + 48) rest none)
    ∙ ap (λ (x : ℕ). by false (three_at text 8) x (octal_at text 1) (octal_at text 2)) (octal_digit a below)
    ∙ ap (λ (x : ℕ). by false (three_at text 8) a x (octal_at text 2)) (octal_digit b under)
    ∙ ap (λ (x : ℕ). by false (three_at text 8) a b x) none
    ∙ by_two (three_at text 8) a b below under least most no_lf

three_read : (a b c : ℕ) (rest : List ℕ) → a < 8 → b < 8 → c < 8 → 127 ≤ a * 64 + b * 8 + c → a * 64 + b * 8 + c ≤ 255 → octal_at rest 0 ≡ 8
    → escape_at ((a + 48) ∷ (b + 48) ∷ (c + 48) ∷ rest) ≡ record { byte = a * 64 + b * 8 + c; digits = 3 }
three_read a b c rest below under last least most none =
    let text = (a + 48) ∷ (b + 48) ∷ (c + 48) ∷ rest in
    ap (λ (e : Bool). by e (three_at text 8) (octal_at text 0) (octal_at text 1) (octal_at text 2)) (no_eleven_3 (a + 48) (b + 48) (c + 48) rest none)
    ∙ ap (λ (x : ℕ). by false (three_at text 8) x (octal_at text 1) (octal_at text 2)) (octal_digit a below)
    ∙ ap (λ (x : ℕ). by false (three_at text 8) a x (octal_at text 2)) (octal_digit b under)
    ∙ ap (λ (x : ℕ). by false (three_at text 8) a b x) (octal_digit c last)
    ∙ by_three (three_at text 8) a b c below under last least most

-- eleven digits, whatever comes after them
eleven_read : (a b c : ℕ) (rest : List ℕ) → a < 8 → b < 8 → c < 8 → 384 ≤ a * 64 + b * 8 + c
    → escape_at (51 ∷ 55 ∷ 55 ∷ 55 ∷ 55 ∷ 55 ∷ 55 ∷ 55 ∷ (a + 48) ∷ (b + 48) ∷ (c + 48) ∷ rest) ≡ record { byte = a * 64 + b * 8 + c - 256; digits = 11 }
eleven_read a b c rest below under last least =
    let text = 51 ∷ 55 ∷ 55 ∷ 55 ∷ 55 ∷ 55 ∷ 55 ∷ 55 ∷ (a + 48) ∷ (b + 48) ∷ (c + 48) ∷ rest in
    let number : three_at text 8 ≡ a * 64 + b * 8 + c = rw (octal_digit a below, octal_digit b under, octal_digit c last) refl in
    let is : has_eleven text ≡ true =
    by_digits (octal_at text 8) (octal_at text 9) (octal_at text 10) a b c (octal_digit a below) (octal_digit b under)
    (octal_digit c last) below under last least in
    ap (λ (e : Bool). by e (three_at text 8) (octal_at text 0) (octal_at text 1) (octal_at text 2)) is
    ∙ ap (λ (n : ℕ). by true n (octal_at text 0) (octal_at text 1) (octal_at text 2)) number
  where
    by_digits : (x y z a b c : ℕ) → x ≡ a → y ≡ b → z ≡ c → a < 8 → b < 8 → c < 8 → 384 ≤ a * 64 + b * 8 + c
        → (nat_lt x 8 && nat_lt y 8 && nat_lt z 8 && nat_le 384 (x * 64 + y * 8 + z)) ≡ true
    by_digits x y z a b c e f g below under last least = grind (arith)

-- ---- a byte, and what comes after it

not_above : (b : ℕ) → is_printable b ≡ false → b < 64 → b < 32
not_above b not_printable under = grind (arith)

above : (b : ℕ) → is_printable b ≡ false → 64 ≤ b → 127 ≤ b
above b not_printable least = grind (arith)

-- the byte's digits are read back
digits_read : (signed : Bool) (b : ℕ) (rest : List ℕ) → b < 256 → is_printable b ≡ false → (b ≡ 10 → ⊥) → octal_at rest 0 ≡ 8
    → escape_at (digits_of signed b ++ rest) ≡ record { byte = b; digits = length (digits_of signed b) }
digits_read signed b rest below not_printable no_lf none = at (signed && nat_le 128 b) refl where
  long : (n : ℕ) → 384 ≤ n → n < 512
      → escape_at (codes "37777777" ++ octal n ++ rest) ≡ record { byte = n - 256; digits = length (codes "37777777" ++ octal n) }
  long n least most =
      rw (octal_3 n (omega (arith, least))) (eleven_read (n / 64) (n / 8 % 8) (n % 8) rest (omega (arith, most)) (omega arith) (omega arith)
      (omega (arith, least, three_digits n)) ∙ ap (λ (k : ℕ). record { byte = k - 256; digits = 11 }) (three_digits n))

  short : (below_8 below_64 : Bool) → nat_lt b 8 ≡ below_8 → nat_lt b 64 ≡ below_64
      → escape_at (octal b ++ rest) ≡ record { byte = b; digits = length (octal b) }
  short true below_64 e f = rw (octal_1 b (ltb-true b 8 e)) (one_read b rest (ltb-true b 8 e) none)
  short false true e f =
      let least = ltb-false b 8 e in
      let under = ltb-true b 64 f in
      let small : b < 32 = not_above b not_printable under in
      rw (octal_2 b least under) (two_read (b / 8) (b % 8) rest (omega (arith, under)) (omega arith) (omega (arith, least, two_digits b))
      (omega (arith, small, two_digits b)) (λ is. no_lf (sym (two_digits b) ∙ is)) none ∙ ap (λ (k : ℕ). record { byte = k; digits = 2 }) (two_digits b))
  short false false e f =
      let least = ltb-false b 64 f in
      let large : 127 ≤ b = above b not_printable least in
      rw (octal_3 b least) (three_read (b / 64) (b / 8 % 8) (b % 8) rest (omega (arith, below)) (omega arith) (omega arith)
      (omega (arith, large, three_digits b)) (omega (arith, below, three_digits b)) none ∙ ap (λ (k : ℕ). record { byte = k; digits = 3 }) (three_digits b))

  at : (eleven : Bool) → (signed && nat_le 128 b) ≡ eleven
      → escape_at (digits_of signed b ++ rest) ≡ record { byte = b; digits = length (digits_of signed b) }
  at true e =
      let least : 128 ≤ b = leb-true 128 b ((and_parts signed (nat_le 128 b) e).1) in
      rw e (long (b + 256) (omega (arith, least)) (omega (arith, below))
      ∙ ap (λ (k : ℕ). record { byte = k; digits = length (codes "37777777" ++ octal (b + 256)) }) (omega arith))
  at false e = rw e (short (nat_lt b 8) (nat_lt b 64) refl refl)

-- the first character of what is written of bytes is no octal digit, where their first but LFs is none
written_no : (signed : Bool) (bytes : List ℕ) → NoDigit (filter is_written bytes) → octal_at (written signed bytes) 0 ≡ 8
written_no signed [] none = refl
written_no signed (b ∷ bytes) none = at (b == 10) (is_printable b) refl refl (written_no signed bytes) where
  at : (lf printable : Bool) → (b == 10) ≡ lf → is_printable b ≡ printable → (NoDigit (filter is_written bytes) → octal_at (written signed bytes) 0 ≡ 8)
      → octal_at (written signed (b ∷ bytes)) 0 ≡ 8
  at true printable e f next = rw e (next (rw e at none))
  at false true e f next = rw (e, f) (rw e at none)
  at false false e f next = rw (e, f) refl

byte_read : (signed : Bool) (b : ℕ) (rest : List ℕ) → b < 256 → (is_printable b && not (b == 92) ≡ false → octal_at rest 0 ≡ 8)
    → unescaped (written_byte signed b ++ rest) ≡ filter is_written (b ∷ []) ++ unescaped rest
byte_read signed b rest below none = at (b == 10) (is_printable b) (b == 92) refl refl refl where
  skipped : (digits : List ℕ) → read_after (length digits) (digits ++ rest) ≡ unescaped rest
  skipped digits = read_skip (length digits) (digits ++ rest) ∙ ap unescaped (drop-append_seam digits rest)

  at : (lf printable backslash : Bool) → (b == 10) ≡ lf → is_printable b ≡ printable → (b == 92) ≡ backslash
      → unescaped (written_byte signed b ++ rest) ≡ filter is_written (b ∷ []) ++ unescaped rest
  at true printable backslash e f g = rw e refl
  at false true true e f g =
      let nothing = escape_none rest (none (rw (f, g) refl)) in
      let same : 92 ≡ b = sym (eqb-true b 92 g) in
      rw (e, f, g, nothing) (ap (λ (c : ℕ). c ∷ unescaped rest) same)
  at false true false e f g = rw (e, f, g) refl
  at false false backslash e f g =
      let digits = digits_of signed b in
      let read = digits_read signed b rest below f (eqb-false b 10 e) (none (rw f refl)) in
      rw (e, f, read) (ap (λ (l : List ℕ). b ∷ l) (skipped digits))

filter_two : (b : ℕ) (bytes : List ℕ) → filter is_written (b ∷ bytes) ≡ filter is_written (b ∷ []) ++ filter is_written bytes
filter_two b bytes = at (b == 10) refl where
  at : (lf : Bool) → (b == 10) ≡ lf → filter is_written (b ∷ bytes) ≡ filter is_written (b ∷ []) ++ filter is_written bytes
  at true e = rw e refl
  at false e = rw e refl

-- what is clear of bytes is clear of those after the first, and of the first
clear_tail : (b : ℕ) (bytes : List ℕ) → IsClear (filter is_written (b ∷ bytes)) → IsClear (filter is_written bytes)
clear_tail b bytes clear = at (b == 10) refl where
  at : (lf : Bool) → (b == 10) ≡ lf → IsClear (filter is_written bytes)
  at true e = rw e at clear
  at false e = (rw e at clear).1

clear_head : (b : ℕ) (bytes : List ℕ) → IsClear (filter is_written (b ∷ bytes)) → (b == 10) ≡ false → is_printable b && not (b == 92) ≡ false
    → NoDigit (filter is_written bytes)
clear_head b bytes clear e = (rw e at clear).0

pub read_back : (signed : Bool) (bytes : List ℕ) → All (λ b. b < 256) bytes → IsClear (filter is_written bytes)
    → unescaped (written signed bytes) ≡ filter is_written bytes
read_back signed [] fit clear = refl
read_back signed (b ∷ bytes) fit clear = at (b == 10) refl (read_back signed bytes (All-tail (λ b. b < 256) b bytes fit) (clear_tail b bytes clear)) where
  at : (lf : Bool) → (b == 10) ≡ lf → unescaped (written signed bytes) ≡ filter is_written bytes
      → unescaped (written signed (b ∷ bytes)) ≡ filter is_written (b ∷ bytes)
  at true e next = rw e next
  at false e next =
      byte_read signed b (written signed bytes) (All-head (λ b. b < 256) b bytes fit) (λ other. written_no signed bytes (clear_head b bytes clear e other))
      ∙ ap (λ (l : List ℕ). filter is_written (b ∷ []) ++ l) next ∙ sym (filter_two b bytes)
