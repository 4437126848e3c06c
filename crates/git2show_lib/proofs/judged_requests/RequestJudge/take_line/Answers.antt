use Rattle.std.proofs.Common.{rules, arith, ◌≡◌, ◌≤◌, ◌+◌, ◌∙◌, min, ap, refl, sym, subst, take, ℕ, List, None, Some}
use Rattle.git_pkt.specs.Packets.{seen}
use Rattle.git_pkt.specs.Splits.{Given}
use Rattle.git_msg.specs.Machine.RequestReader.{limit_in}
use Rattle.git2show_lib.specs.Others.{counted_at, judged_packet}
use Rattle.git2show_lib.specs.OtherLines.{shown_at}
use Rattle.git2show_lib.specs.Machine.JudgedRequests.{limited_got, place_brought, stage_brought}
use Rattle.git2show_lib.specs.Machine.KeptLines.{IsNotKept, KeepsWithin, noted_in}
use Rattle.git2show_lib.proofs.JudgedSteps.{keeps_line, packet_leaves, packet_news, packet_read, passed_leaves, passed_read, same_kept, same_noted, same_place}
use Rattle.git2show_lib.proofs.JudgedSteps.{same_advertised, unkept_news, unkept_read}
use Rattle.git2show_lib.proofs.judged_requests.RequestJudge.take_line.Goals as goal

pub returns-in-Some-refused : goal.returns-in-Some-refused
returns-in-Some-refused g c =
    let old = c.args.self.now in
    let given : Given = record { packet = seen c.args.packet; offset = c.args.offset } in
    let ready = c.requires.judging in
    let limit_now = old.limits.args in
    let all = old.kept + counted_at old.advertised.items old.place given.packet in
    let sum : c.saturating_add-kept.result ≡ min (old.kept + c.counted-more.result) 18446744073709551615 = search rules in
    let line = keeps_line c.keep_within-refused.result old.advertised.items old.place given.packet old.kept c.counted-more.result
    c.saturating_add-kept.result limit_now (noted_in old.others) (noted_in c.keep_within-refused.new.self) c.deref.ensures.value c.counted-more.ensures sum
    ready.fits c.deref-2.ensures.value c.keep_within-refused.ensures in
    let kind = c.in-Some-refused.kind in
    let shown = shown_at old.advertised.items old.place given.packet in
    let why : IsNotKept kind all limit_now shown = rw c.in-Some-refused.is at line.keeps_counts in
    rw (c.fail.ensures.got, c.fail.ensures.failed) (λ before after chunk used some ends. record {
      reads = λ read asked h.
          unkept_read (record { packets = before; judge = old }) _ (take used chunk) ready.wants refl refl read asked h c.requires.lines given ends.reads
          kind (omega (arith, ready.within, ready.same_limit)) (subst (λ (n : ℕ). IsNotKept kind all n shown) ready.same_limit why) refl
          ends.sound ends.shut;
      leaves = refl;
      news = λ fault is. unkept_news kind c.args.offset all limit_now shown why fault used chunk (cc);
      by = refl;
      limit = refl;
    })

pub returns-in_default : goal.returns-in_default
returns-in_default g c =
    let old = c.args.self.now in
    let given : Given = record { packet = seen c.args.packet; offset = c.args.offset } in
    let ready = c.requires.judging in
    let limit_now = old.limits.args in
    let all = old.kept + counted_at old.advertised.items old.place given.packet in
    let sum : c.saturating_add-kept.result ≡ min (old.kept + c.counted-more.result) 18446744073709551615 = search rules in
    let line = keeps_line c.keep_within-refused.result old.advertised.items old.place given.packet old.kept c.counted-more.result
    c.saturating_add-kept.result limit_now (noted_in old.others) (noted_in c.keep_within-refused.new.self) c.deref.ensures.value c.counted-more.ensures sum
    ready.fits c.deref-2.ensures.value c.keep_within-refused.ensures in
    let none : judged_packet old.advertised.items old.place given.packet ≡ None =
    ap (λ (l : List ℕ). judged_packet l old.place given.packet) (sym c.deref-3.ensures.value) ∙ c.in_default.ensures in
    let fine : c.keep_within-refused.result ≡ None = search rules in
    let (within, noted) = rw fine at line.keeps in
    λ before after chunk used some ends. record {
      reads = λ read asked h.
          passed_read (record { packets = before; judge = old }) _ (take used chunk) ready.wants refl refl read asked h c.requires.lines given ends.reads
          c.requires.unnamed none c.after-next.ensures (line.exact fine) noted refl refl;
      leaves =
          passed_leaves (record { packets = before; judge = old }) _ used ready some ends.sound ends.gathers refl refl refl within refl;
      news = λ fault is. absurd (cc);
      by = refl;
      limit = refl;
    }

pub returns : goal.returns
returns g c =
    let old = c.args.self.now in
    let given : Given = record { packet = seen c.args.packet; offset = c.args.offset } in
    let ready = c.requires.judging in
    let limit_old = old.limits.args in
    let all = old.kept + counted_at old.advertised.items old.place given.packet in
    let sum : c.saturating_add-kept.result ≡ min (old.kept + c.counted-more.result) 18446744073709551615 = search rules in
    let line = keeps_line c.keep_within-refused.result old.advertised.items old.place given.packet old.kept c.counted-more.result
    c.saturating_add-kept.result limit_old (noted_in old.others) (noted_in c.keep_within-refused.new.self) c.deref.ensures.value c.counted-more.ensures sum
    ready.fits c.deref-2.ensures.value c.keep_within-refused.ensures in
    let judged : judged_packet old.advertised.items old.place given.packet ≡ Some (seen c.in-Some.judged) =
    ap (λ (l : List ℕ). judged_packet l old.place given.packet) (sym c.deref-3.ensures.value) ∙ c.in-Some.ensures in
    let own : Given = record { packet = seen c.in-Some.judged; offset = c.args.offset } in
    let taken = c.take-taken.result in
    let brings = c.take-taken.ensures.brings in
    let refused = c.keep_within-refused.result in
    let others = c.keep_within-refused.new.self in
    let by = same_advertised old.advertised.items _ _ brings.offer in
    let limit = ready.same_limit ∙ sym brings.limit in
    let limit_now = limit_in c.take-taken.new.self in
    let before_now : old.kept ≤ limit_now = omega (arith, ready.within, limit) in
    let so = c.limited-got.ensures in
    let stage = c.stage_after-self.ensures ∙ ap stage_brought so in
    let place = c.place_brought-self.ensures ∙ same_place _ _ _ so ∙ ap (place_brought (limited_got refused c.args.offset taken)) c.after-next.ensures in
    let kept = c.kept_brought-self.ensures ∙ same_kept _ _ _ so in
    let noted = c.judged_got.ensures.noted ∙ same_noted _ _ _ so in
    rw (c.judged_got.ensures.got, so) (λ before after chunk used some ends. record {
      reads = λ read asked h.
          packet_read (record { packets = before; judge = old }) _ (take used chunk) ready.wants by brings.limit read asked h c.requires.lines given
          ends.reads c.requires.unnamed (seen c.in-Some.judged) judged taken refused brings before_now others
          (subst (λ (n : ℕ). KeepsWithin refused old.advertised.items old.place given.packet all n (noted_in old.others) (noted_in others)) limit
          line.keeps_counts) c.saturating_add-kept.result line.exact stage place kept noted ends.sound ends.shut;
      leaves =
          packet_leaves (record { packets = before; judge = old }) _ used ready some ends.sound ends.gathers refl refl ends.shut own taken refused
          c.args.offset c.saturating_add-kept.result others brings (λ fine. (rw fine at line.keeps).0) stage kept;
      news = λ fault is.
          packet_news (record { packets = before; judge = old }) c.take-taken.new.self own taken refused old.advertised.items old.place
          given.packet all limit_old (noted_in old.others) (noted_in others) c.args.offset others line.keeps_counts ready brings fault used chunk is;
      by = by;
      limit = brings.limit;
    })
