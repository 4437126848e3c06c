use Rattle.std.proofs.Common.{arith, ◌≡◌, refl, ap, subst, sym}
use Rattle.git_host.specs.HostServer.{Hosts, Stays, credit_of}
use Rattle.git_host.specs.declared.host_server.HostServer.{HostServer}
use Rattle.git_host.specs.declared.report.Report.TheVariants.{Reference}
use Rattle.git_host.proofs.HostFaults.{same_phase}
use Rattle.git_host.proofs.laws.methods_make_calls.Goals as goal

stays_same : {A : Type 0} (old new : HostServer A) → new ≡ old → Stays old new
stays_same old new same s used over reported given h = subst (λ (x : HostServer _). Hosts s used over reported given x) (sym same) h

pub returns : goal.returns
returns g c = record {
  fed = λ old new chunk used before after within feeds pays memory.
      record { within = within; begun_is = refl; feeds = feeds; pays = pays; memory = memory };
  closed = λ old new steps closes credit. (closes, record { steps = refl; credit = credit });
  unclosed = λ old new steps closes. (
    stays_same old new closes.0,
    record { steps = refl; credit = omega (arith, ap credit_of closes.0) },
    same_phase old new (ap (λ (x : HostServer g.row.A.Denot). x.phase) closes.0),
  );
  stepped = λ old new step steps does credit fault. (does, refl, record { steps = refl; credit = credit }, fault);
  reported = λ old new fact what steps does credit fault memory. (does, refl, record { steps = refl; credit = credit }, fault, memory);
  texts = λ old new texts what steps does some credit fault.
      let (entry, spells, reports) = does in
      (Reference entry, (reports, refl, record { steps = refl; credit = credit }, fault, λ is. absurd (some is)));
  unread = λ old new texts fault steps does. (
    stays_same old new does.1,
    record { steps = refl; credit = omega (arith, ap credit_of does.1) },
    same_phase old new (ap (λ (x : HostServer g.row.A.Denot). x.phase) does.1),
  );
  accepted = λ old new steps does credit fault. (does, record { steps = refl; credit = credit }, fault);
  unaccepted = λ old new steps does. (
    stays_same old new does.1,
    record { steps = refl; credit = omega (arith, ap credit_of does.1) },
    same_phase old new (ap (λ (x : HostServer g.row.A.Denot). x.phase) does.1),
  );
  refused = λ old new text steps does credit fault. (does, refl, record { steps = refl; credit = credit }, fault);
  unrefused = λ old new text steps does credit fault. (does.0, record { steps = refl; credit = credit }, fault);
  none = λ server steps. (refl, refl);
  more = λ call calls before between after first next last made others. (between, next, made, others);
}
