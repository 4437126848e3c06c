use Rattle.std.proofs.Common.{rules, ◌≡◌, ◌∷◌, [], sym, subst}
use Rattle.git_pkt.specs.Machine.Recorded.{has_ended, inner_of}
use Rattle.git_pkt.specs.Streams.{flow, is_broken, Moves}
use Rattle.git_pkt.specs.declared.recorded.Recorded.{Recorded}
use Rattle.git_client.specs.Machine.Client.{Converses, nothing_yet}
use Rattle.git_client.specs.Machine.Runs.{Conversed}
use Rattle.git_client.specs.Parts.{Terms}
use Rattle.git_client.proofs.conversing.converse.Goals as goal

pub returns-clause-reads : goal.returns-clause-reads
returns-clause-reads g c =
    let same : c.reader-1.given.0 ≡ c.converse_over.new.input.reader.now = search rules in rw same c.converse_over.ensures.reads

pub returns-clause-conversed : goal.returns-clause-conversed
returns-clause-conversed g c =
    let new = c.converse_over.new in
    let Ran : Recorded _ → Recorded _ → Type 0 = λ before r. (t : Terms) → Converses t nothing_yet c.args.client.now
    → Moves (is_broken c.converse_over.result) (Conversed t c.args.requests.items c.converse_over.result (has_ended r) new.client)
    (flow (g.R.Read.remaining (inner_of before)) (g.R.Read.remaining (inner_of r)) ∷ [])
    (flow (g.W.Write.contents (inner_of c.args.writer.now)) (g.W.Write.contents (inner_of new.writer))
    ∷ flow (g.O.Write.contents (inner_of c.args.out.now)) (g.O.Write.contents (inner_of new.out))
    ∷ flow (g.P.Write.contents (inner_of c.args.pack.now)) (g.P.Write.contents (inner_of new.pack))
    ∷ flow (g.E.Output.contents c.args.progress.now) (g.E.Output.contents new.progress) ∷ []) in
    let same : c.reader-1.given.0 ≡ new.input.reader.now = search rules in
    subst (Ran c.args.reader.now) (sym same)
    (subst (λ (before : Recorded _). Ran before new.input.reader.now) c.new-input.ensures.reader c.converse_over.ensures.conversed)

pub returns-clause-fault : goal.returns-clause-fault
returns-clause-fault g c =
    let same : c.reader-1.given.0 ≡ c.converse_over.new.input.reader.now = search rules in rw same c.converse_over.ensures.fault

pub returns-clause-announced : goal.returns-clause-announced
returns-clause-announced g c =
    let same : c.reader-1.given.0 ≡ c.converse_over.new.input.reader.now = search rules in rw same c.converse_over.ensures.announced
