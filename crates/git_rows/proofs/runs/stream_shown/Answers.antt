use Rattle.std.proofs.Common.{◌≡◌, ℕ, List, [], ◌∷◌, ◌++◌, codes, refl, sym, ap, arith, ◌∙◌, append-nil, subst}
use Rattle.std.specs.Fmt.{digits}
use Rattle.git_names.specs.Digits.{digit_value, lower_digit}
use Rattle.git_pkt.specs.Digits.{digits_value}
use Rattle.git_pkt.specs.Escape.{escape_of}
use Rattle.git_pkt.specs.Packets.{flush, payload}
use Rattle.git_pkt.specs.Splits.{Splits}
use Rattle.git_pkt.proofs.Spelling.{none_begins_nothing, none_begins_refused, none_begins_short}
use Rattle.git_pkt.proofs.Streams.{one_split}
use Rattle.git2show_lib.specs.PacketLines.{lines_of}
use Rattle.git_rows.specs.Worked.{at}
use Rattle.git_rows.proofs.OpenRests.{digits_by, shows_by}
use Rattle.git_rows.proofs.TextsByComputing.{differ}
use Rattle.git_rows.proofs.WrittenPackets.{splits_written}
use Rattle.git_rows.proofs.runs.stream_shown.Goals as goal

head : (a b : List ℕ) → a ∷ [] ≡ b ∷ [] → a ≡ b
head a b e = cc

-- if a stream was used whole, the bytes used are those read
all_used : (read used unused : List ℕ) → read ∷ [] ≡ (used ++ unused) ∷ [] → unused ≡ [] → used ≡ read
all_used read used unused e none = sym (append-nil used) ∙ ap (λ (l : List ℕ). used ++ l) (sym none) ∙ sym (head read (used ++ unused) e)

pub returns-clause-whole : goal.returns-clause-whole
unfolding digits escape_of lower_digit
returns-clause-whole c = record {
  used = codes "0006a\n00040000";
  unused = [];
  packets = at 0 (payload (codes "a\n")) ∷ at 6 (payload []) ∷ at 10 flush ∷ [];
  rest = [];
  cut = refl;
  splits = splits_written 0 (payload (codes "a\n") ∷ payload [] ∷ flush ∷ []) [] refl none_begins_nothing;
  lines = refl;
  ends = (refl, refl, refl);
}

pub returns-clause-refused : goal.returns-clause-refused
unfolding digit_value digits digits_value escape_of lower_digit
returns-clause-refused c = record {
  used = codes "0005a0003";
  unused = [];
  packets = at 0 (payload (codes "a")) ∷ [];
  rest = codes "0003";
  cut = refl;
  splits = splits_written 0 (payload (codes "a") ∷ []) (codes "0003") refl (none_begins_refused (codes "0003") (λ allowed. allowed.0 refl));
  lines = refl;
  ends = (
    ((digits_by (codes "0003") (omega arith) (omega arith) (omega arith) (omega arith) (omega arith), refl, refl), shows_by (codes "0003") refl),
    tt,
  );
}

pub returns-clause-not_without_its_line : goal.returns-clause-not_without_its_line
unfolding digits lower_digit
returns-clause-not_without_its_line c = λ h.
    let used = all_used (codes "0000") h.used h.unused h.cut h.ends.1 in
    let splits = subst (λ (bytes : List ℕ). Splits 0 bytes h.packets h.rest) used h.splits in
    let k = splits_written 0 (flush ∷ []) [] refl none_begins_nothing in
    let same = one_split 0 (codes "0000") h.packets (at 0 flush ∷ []) h.rest [] splits.spelled k.spelled splits.ends k.ends in
    differ [] (codes "0 flush\n") refl (head [] (lines_of h.packets) h.lines ∙ ap lines_of same.packets)

pub returns-clause-not_of_a_part : goal.returns-clause-not_of_a_part
unfolding lower_digit
returns-clause-not_of_a_part c = λ h.
    let used = all_used (codes "00000") h.used h.unused h.cut h.ends.1 in
    let splits = subst (λ (bytes : List ℕ). Splits 0 bytes h.packets h.rest) used h.splits in
    let k = splits_written 0 (flush ∷ []) (codes "0") refl (none_begins_short (codes "0") (omega arith)) in
    let same = one_split 0 (codes "00000") h.packets (at 0 flush ∷ []) h.rest (codes "0") splits.spelled k.spelled splits.ends k.ends in
    differ [] (codes "0") refl (sym h.ends.0 ∙ same.rest_is)
