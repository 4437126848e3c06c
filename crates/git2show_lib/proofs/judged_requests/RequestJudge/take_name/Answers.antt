use Rattle.std.proofs.Common.{rules, ◌≡◌, ◌≤◌, ◌∙◌, ◌++◌, refl, sym, subst, take, ℕ}
use Rattle.git_pkt.specs.Packets.{seen}
use Rattle.git_pkt.specs.Splits.{Given}
use Rattle.git_msg.specs.Machine.RequestReader.{limit_in, offer_of as offer_in}
use Rattle.git2show_lib.specs.OtherLines.{name_shown}
use Rattle.git2show_lib.specs.Machine.KeptLines.{noted_in}
use Rattle.git2show_lib.proofs.JudgedSteps.{named_leaves, named_read, same_advertised, unnamed_news, unnamed_read}
use Rattle.git2show_lib.proofs.judged_requests.RequestJudge.take_name.Goals as goal

pub returns-then-is_err : goal.returns-then-is_err
returns-then-is_err g c =
    let old = c.args.self.now in
    let given : Given = record { packet = seen c.args.packet; offset = c.args.offset } in
    let judging = c.requires.judging in
    let within : old.kept ≤ limit_in old.requests = subst (λ (n : ℕ). old.kept ≤ n) judging.same_limit judging.within in
    rw (c.fail.ensures.got, c.fail.ensures.failed) (λ before after chunk used some ends. record {
      reads = λ read asked h.
          unnamed_read (record { packets = before; judge = old }) _ (take used chunk) judging.wants refl refl read asked h c.requires.lines given
          ends.reads c.requires.names within refl ends.sound ends.shut;
      leaves = refl;
      news = λ fault is. unnamed_news c.args.offset fault used chunk (cc);
      by = refl;
      limit = refl;
    })

pub returns : goal.returns
returns g c =
    let old = c.args.self.now in
    let given : Given = record { packet = seen c.args.packet; offset = c.args.offset } in
    let judging = c.requires.judging in
    let fresh = c.new.ensures in
    let offer : offer_in c.new.result ≡ offer_in old.requests = fresh.offer ∙ judging.same_offer in
    let limit : limit_in c.new.result ≡ limit_in old.requests = fresh.limit ∙ judging.same_limit in
    let by = same_advertised old.advertised.items _ _ offer in
    let within : old.kept ≤ limit_in c.new.result = subst (λ (n : ℕ). old.kept ≤ n) (sym fresh.limit) judging.within in
    let noted : noted_in c.keep_name.new.self
    ≡ record { lines = (noted_in old.others).lines ++ name_shown given.packet; asks = (noted_in old.others).asks } = search rules in
    λ before after chunk used some ends. record {
      reads = λ read asked h.
          named_read (record { packets = before; judge = old }) _ (take used chunk) judging.wants by limit read asked h c.requires.lines given
          ends.reads c.requires.names within refl c.first-self.ensures refl noted fresh.takes;
      leaves =
          named_leaves (record { packets = before; judge = old }) _ used judging some ends.sound ends.gathers refl refl refl fresh.open
          fresh.takes fresh.offer fresh.limit refl;
      news = λ fault is. absurd (cc);
      by = by;
      limit = limit;
    }
