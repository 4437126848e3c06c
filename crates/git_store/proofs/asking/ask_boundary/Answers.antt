use Rattle.std.proofs.Common.{refl, ap, subst, Option, Some, None}
use Rattle.git_msg.specs.Asked.{Asked}
use Rattle.git_msg.specs.declared.Boundary.{Boundary}
use Rattle.git_store.specs.Questions.{ask_boundary, line}
use Rattle.git_store.specs.StoreMoves.{question_by}
use Rattle.git_host.specs.declared.report.Need.TheVariants as Needs
use Rattle.git_store.proofs.asking.ask_boundary.Goals as goal

pub returns-in-Some-2 : goal.returns-in-Some-2
returns-in-Some-2 g c = record {
  question = ask_boundary c.in-Some.request.now.asked;
  reply = line (Some c.in-Some-2.line);
  report = _;
  is_asked = ap (λ (o : Option Asked). question_by o Needs.Boundary) c.in-Some.ensures;
  replied = subst (λ (l : Option Boundary). g.S.Store.replies c.args.store.now (ask_boundary c.in-Some.request.now.asked) (line l) c.boundary.new.self)
      c.in-Some-2.is c.in_ok-line.ensures;
  is = refl;
  reports = c.report.ensures.reports;
}

pub returns-in-None : goal.returns-in-None
returns-in-None g c = record {
  question = ask_boundary c.in-Some.request.now.asked;
  reply = line None;
  report = _;
  is_asked = ap (λ (o : Option Asked). question_by o Needs.Boundary) c.in-Some.ensures;
  replied = subst (λ (l : Option Boundary). g.S.Store.replies c.args.store.now (ask_boundary c.in-Some.request.now.asked) (line l) c.boundary.new.self)
      c.in-None.is c.in_ok-line.ensures;
  is = refl;
  reports = c.report-in-None.ensures.reports;
}
