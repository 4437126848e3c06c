use Rattle.std.proofs.Common.{◌≡◌, [], ◌∷◌, ◌++◌, codes, refl, ap, arith, sym, ◌∙◌}
use Rattle.git_pkt.specs.Packets.{delim, flush}
use Rattle.git_pkt.specs.Splits.{Given}
use Rattle.git_msg.specs.Arguments.{with_id}
use Rattle.git_msg.specs.Lines.{argument}
use Rattle.git_msg.specs.declared.words.ObjectWord.{ObjectWord}
use Rattle.git_msg.specs.WrittenRequest.{text_line}
use Rattle.git_msg.proofs.WholeRequests.{flush_is_no_line, last_same}
use Rattle.git_rows.specs.Worked.{all_a, at, name_a, offer_all}
use Rattle.git_rows.proofs.RequestLines.{fetch_begun, fetch_command, want_line}
use Rattle.git_rows.proofs.requests.memory_for_an_argument.Goals as goal

pub returns-clause-at_a_want : goal.returns-clause-at_a_want
returns-clause-at_a_want c = record {
  front = at 0 (text_line (codes "command=fetch")) ∷ at 18 delim ∷ [];
  last = at 22 (text_line (codes "want " ++ all_a));
  lines = fetch_begun;
  line = argument (with_id ObjectWord.Want name_a) 45;
  whole = refl;
  taken = (fetch_command 49, ((refl, (tt, tt)), tt));
  is_line = want_line 49 (omega arith);
  needs_memory = tt;
  name = refl;
  at = refl;
}

pub returns-clause-not_at_the_delimiter : goal.returns-clause-not_at_the_delimiter
returns-clause-not_at_the_delimiter c = λ h.
    let last : h.last ≡ at 22 (text_line (codes "want " ++ all_a)) =
    sym (last_same (at 0 (text_line (codes "command=fetch")) ∷ at 18 delim ∷ []) h.front _ h.last h.whole) in
    let offset : 18 ≡ 22 = h.at ∙ ap (λ (g : Given). g.offset) last in
    omega (arith, offset)

pub returns-clause-not_at_a_flush : goal.returns-clause-not_at_a_flush
returns-clause-not_at_a_flush c = λ h.
    let last : h.last ≡ at 20 flush = sym (last_same (at 0 (text_line (codes "command=ls-refs")) ∷ []) h.front _ h.last h.whole) in
    flush_is_no_line offer_all 49 h.lines h.last.packet _ h.is_line (ap (λ (g : Given). g.packet) last)
