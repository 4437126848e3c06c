use Rattle.std.proofs.Common.{refl, take}
use Rattle.git_pkt.specs.Packets.{seen}
use Rattle.git2show_lib.proofs.JudgedSteps.{no_news, passing_leaves, passing_read}
use Rattle.git2show_lib.proofs.judged_requests.RequestJudge.take.Goals as goal

pub returns-in-Passing : goal.returns-in-Passing
returns-in-Passing g c =
    let old = c.args.self.now in
    let p = seen c.args.packet in
    let judging = c.requires in
    rw c.got_passed.ensures.got (λ before after chunk used some ends. record {
      reads = λ read asked h.
          passing_read (record { packets = before; judge = old }) _ (take used chunk) judging.wants refl refl read asked h p c.args.offset ends.reads
          c.in-Passing.is c.stage_passed-self.ensures refl refl c.got_passed.ensures.noted refl;
      leaves =
          passing_leaves (record { packets = before; judge = old }) _ used judging some ends.sound ends.gathers refl refl ends.shut p old.others refl
          judging.within c.stage_passed-self.ensures;
      news = λ fault is. no_news p old.others fault used chunk is;
      by = refl;
      limit = refl;
    })
