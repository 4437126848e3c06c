use Rattle.std.proofs.Common.{subst, take}
use Rattle.git_store.specs.Questions.{ask_reference, listed_in, unborn}
use Rattle.git_host.specs.HostLookups.{request_of}
use Rattle.git_store.specs.declared.store.Listed.{Listed}
use Rattle.git_store.proofs.StoreReaches.{reference_asked}
use Rattle.git_store.proofs.asking.ask_reference.Goals as goal

pub returns-in-Ok : goal.returns-in-Ok
returns-in-Ok g c = record {
  question = ask_reference;
  reply = unborn (take c.in-Unborn.count c.reference.new.out);
  report = _;
  is_asked = reference_asked (request_of c.args.server.now) c.requires.asked;
  replied = subst (λ (l : Listed). g.S.Store.replies c.args.store.now ask_reference (listed_in c.reference.new.out l) c.reference.new.self)
      c.in-Unborn.is c.in_ok-entry.ensures.replies;
  is = c.in-Ok.ensures.name.0;
  reports = c.report-in-Ok.ensures.reports;
}
