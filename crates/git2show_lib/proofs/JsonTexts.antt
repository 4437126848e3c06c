-- Texts inside the quotes of JSON.
use Rattle.std.proofs.Common.{◌≡◌, ℕ, ◌<◌, ◌≤◌, ◌^◌, Some, ◌/◌, ◌%◌, nat_eq, Bool, true, false}
use Rattle.std.proofs.Common.{List, [], ◌∷◌, ◌++◌, append_assoc, codes, decimal, length, flat_map, refl, ap, ◌∙◌, arith}
use Rattle.std.specs.Str.{IsUtf8, bytes_eq, is_utf8}
use Rattle.std.proofs.lemmas.Str.{IsUtf8-from_is_utf8}
use Rattle.std.proofs.lemmas.Bool.{eqb-true, lt-ltb}
use Rattle.std.specs.Char.{digit_char}
use Rattle.json.specs.Print.{escape_byte, escape_letter, print, print_from}
use Rattle.json.specs.Json.{document, max_depth}
use Rattle.json.specs.Tree.{HasNumbers, MembersHaveNumbers, depth, json_tokens, members_depth, members_tokens}
use Rattle.json.proofs.Printed.Decimals.{IsNumber-decimal}
use Rattle.json.proofs.Printed.Trees.{document-print}
use Rattle.git_pkt.specs.Packets.{Pkt, flush, delim, resp_end, payload, body_of}
use Rattle.git_pkt.specs.Splits.{Given}
use Rattle.git2show_lib.specs.declared.json_lines.Coding.{Coding}
use Rattle.git2show_lib.specs.JsonLines.{coded, json_end, json_line, json_start, payload_coded}
use Rattle.git2show_lib.specs.JsonLines.{payload_key, payload_member, coding_of, hex_pair, json_value, kind_members}
use Rattle.git_names.specs.Digits.{lower_digit}
use Rattle.std.proofs.lemmas.Slice.Eq.{bytes_eq-Decides}
use Rattle.git_names.proofs.Tables.{all_pass, all_pass-at}

false_by : (b : Bool) → (b ≡ true → ⊥) → b ≡ false
false_by true h = absurd (h refl)
false_by false h = refl

pub no_text : (bytes : List ℕ) → (IsUtf8 bytes → ⊥) → is_utf8 bytes ≡ false
no_text bytes not_utf8 = false_by (is_utf8 bytes) (λ is. not_utf8 (IsUtf8-from_is_utf8 bytes is))

-- a control character without a short escape
abbrev same_digit : ℕ → Bool
same_digit d = nat_eq (lower_digit d) (digit_char d)

all_same : all_pass same_digit 16 ≡ true
unfolding lower_digit
all_same = refl

digit_as : (d : ℕ) → d < 16 → lower_digit d ≡ digit_char d
digit_as d below = eqb-true _ _ (all_pass-at same_digit 16 d all_same below)

pub control : (b high low : ℕ) → escape_letter b ≡ 0 → b < 32 → high ≡ lower_digit (b / 16) → low ≡ lower_digit (b % 16)
    → 92 ∷ 117 ∷ 48 ∷ 48 ∷ high ∷ low ∷ [] ≡ escape_byte b
unfolding escape_byte
control b high low none below e f =
    rw (none, lt-ltb b 32 below, e, f, digit_as (b / 16) (omega (arith, below)), digit_as (b % 16) (omega arith)) refl

-- ---- the line and its parts

-- digits are their own escapes
is_plain_digit : ℕ → Bool
is_plain_digit d = bytes_eq (escape_byte (lower_digit d)) (lower_digit d ∷ [])

all_plain : all_pass is_plain_digit 16 ≡ true
unfolding is_plain_digit escape_byte lower_digit
all_plain = refl

plain_digit : (d : ℕ) → d < 16 → escape_byte (lower_digit d) ≡ lower_digit d ∷ []
unfolding is_plain_digit
plain_digit d below = (bytes_eq-Decides _ _).0 (all_pass-at is_plain_digit 16 d all_plain below)

plain_hex : (bytes : List ℕ) → flat_map escape_byte (flat_map hex_pair bytes) ≡ flat_map hex_pair bytes
plain_hex [] = refl
plain_hex (b ∷ bytes) =
    rw (plain_digit (b / 16 % 16) (omega arith), plain_digit (b % 16) (omega arith), plain_hex bytes) refl

payload_parts : (coding : Coding) (bytes : List ℕ)
    → payload_key coding ++ flat_map (coded coding) bytes ++ codes "\"}" ≡ print_from true (members_tokens (payload_member coding bytes))
unfolding print_from escape_byte
payload_parts Coding.Text bytes = simp append_assoc refl
payload_parts Coding.Hex bytes = rw (plain_hex bytes, append_assoc (flat_map hex_pair bytes) (34 ∷ []) (125 ∷ [])) refl

regroup : (a b c d e f g h i : List ℕ)
    → ((((a ++ b) ++ c) ++ ((d ++ e) ++ f)) ++ g) ++ (h ++ i) ≡ (a ++ (b ++ (c ++ (d ++ (e ++ ((f ++ g) ++ h)))))) ++ i
regroup a b c d e f g h i = simp append_assoc refl

pub json_parts : (g : Given) → (json_start g ++ payload_coded g.packet) ++ json_end g.packet ≡ json_line g
unfolding print_from escape_byte
json_parts g = at g.packet where
  at : (packet : Pkt) → (json_start (record { packet = packet; offset = g.offset }) ++ payload_coded packet) ++ json_end packet
      ≡ json_line (record { packet = packet; offset = g.offset })
  at flush = simp append_assoc refl
  at delim = simp append_assoc refl
  at resp_end = simp append_assoc refl
  at (payload bytes) =
      let parts = payload_parts (coding_of (is_utf8 bytes)) bytes in
      rw (← parts) (regroup (codes "{\"offset\":") (decimal g.offset) (codes ",\"kind\":") (codes "\"data\",\"length\":") (decimal (length bytes))
      (payload_key (coding_of (is_utf8 bytes))) (payload_coded (payload bytes)) (codes "\"}") (codes "\n"))

-- three parts written one after another
pub three_more : (first a b c : List ℕ) {x y z : List ℕ} → x ≡ first ++ a → y ≡ x ++ b → z ≡ y ++ c → z ≡ first ++ ((a ++ b) ++ c)
three_more first a b c {x} {y} {z} one two three =
    three ∙ ap (λ (l : List ℕ). l ++ c) (two ∙ ap (λ (l : List ℕ). l ++ b) one) ∙ simp append_assoc refl

-- ---- a line is a JSON text

numbers : (g : Given) → g.offset < 2 ^ 64 → length (body_of g.packet) < 2 ^ 64 → HasNumbers (json_value g)
numbers g offset long = (IsNumber-decimal g.offset offset, at g.packet long) where
  payload_has : (coding : Coding) (bytes : List ℕ) → MembersHaveNumbers (payload_member coding bytes)
  payload_has Coding.Text bytes = (tt, tt)
  payload_has Coding.Hex bytes = (tt, tt)

  at : (packet : Pkt) → length (body_of packet) < 2 ^ 64 → MembersHaveNumbers (kind_members packet)
  at flush long = (tt, tt)
  at delim long = (tt, tt)
  at resp_end long = (tt, tt)
  at (payload bytes) long = (tt, (IsNumber-decimal (length bytes) long, payload_has (coding_of (is_utf8 bytes)) bytes))

shallow : (g : Given) → depth (json_value g) ≤ max_depth
shallow g = at g.packet where
  of_payload : (coding : Coding) (bytes : List ℕ) → members_depth (payload_member coding bytes) ≡ 0
  of_payload Coding.Text bytes = refl
  of_payload Coding.Hex bytes = refl

  at : (packet : Pkt) → depth (json_value (record { packet = packet; offset = g.offset })) ≤ max_depth
  at flush = omega arith
  at delim = omega arith
  at resp_end = omega arith
  at (payload bytes) = omega (arith, of_payload (coding_of (is_utf8 bytes)) bytes)

pub reads_back : (g : Given) → g.offset < 2 ^ 64 → length (body_of g.packet) < 2 ^ 64
    → document (print (json_tokens (json_value g))) ≡ Some (json_value g)
reads_back g offset long = document-print (json_value g) (numbers g offset long) (shallow g)

-- the parts of a line, written one after another, are the line
pub as_json : (first : List ℕ) (g : Given) {x y z : List ℕ} → x ≡ first ++ json_start g → y ≡ x ++ payload_coded g.packet → z ≡ y ++ json_end g.packet
    → z ≡ first ++ json_line g
as_json first g start coded end =
    three_more first (json_start g) (payload_coded g.packet) (json_end g.packet) start coded end ∙ ap (λ (l : List ℕ). first ++ l) (json_parts g)
