use Rattle.std.proofs.Common.{refl, ap, subst, take, Option}
use Rattle.git_msg.specs.Asked.{Asked}
use Rattle.git_store.specs.Questions.{ask_pack, part, part_in, progress}
use Rattle.git_store.specs.StoreMoves.{question_by}
use Rattle.git_host.specs.declared.report.Need.TheVariants as Needs
use Rattle.git_store.specs.declared.store.Part.{Part}
use Rattle.git_store.proofs.asking.ask_pack.Goals as goal

pub returns-in-Pack : goal.returns-in-Pack
returns-in-Pack g c = record {
  question = ask_pack c.in-Some.request.now.asked;
  reply = part (take c.in-Pack.count c.pack.new.out);
  report = _;
  is_asked = ap (λ (o : Option Asked). question_by o Needs.Pack) c.in-Some.ensures;
  replied = subst (λ (p : Part). g.S.Store.replies c.args.store.now (ask_pack c.in-Some.request.now.asked) (part_in c.pack.new.out p) c.pack.new.self)
      c.in-Pack.is c.in_ok-count.ensures.replies;
  is = refl;
  reports = c.report.ensures.reports;
}

pub returns-in-Progress : goal.returns-in-Progress
returns-in-Progress g c = record {
  question = ask_pack c.in-Some.request.now.asked;
  reply = progress (take c.in-Progress.count c.pack.new.out);
  report = _;
  is_asked = ap (λ (o : Option Asked). question_by o Needs.Pack) c.in-Some.ensures;
  replied = subst (λ (p : Part). g.S.Store.replies c.args.store.now (ask_pack c.in-Some.request.now.asked) (part_in c.pack.new.out p) c.pack.new.self)
      c.in-Progress.is c.in_ok-count.ensures.replies;
  is = refl;
  reports = c.report-in-Progress.ensures.reports;
}
