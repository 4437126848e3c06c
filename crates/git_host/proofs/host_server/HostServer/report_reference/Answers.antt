use Rattle.std.proofs.Common.{arith, ◌≡◌, Bool, refl, rules, sym, ap, subst, ◌∙◌}
use Rattle.std.specs.Option.{option_copied}
use Rattle.git_pkt.specs.Packets.{spelling_of}
use Rattle.git_server.specs.Answers.{reference_packet}
use Rattle.git_host.specs.HostAnswers.{asks_peel, asks_symrefs}
use Rattle.git_host.specs.HostServer.{fault_in}
use Rattle.git_host.specs.ReferenceTexts.{AreAttributes, FitLine, Texts, texts_line, texts_of}
use Rattle.git_host.specs.WrittenDigits.{SpellsId}
use Rattle.git_host.specs.declared.host_server.Phase.{Phase}
use Rattle.git_host.specs.declared.host_server.Phase.TheVariants.{Answering}
use Rattle.git_host.specs.declared.report.HostReported.TheVariants.{OutOfMemory, Packet}
use Rattle.git_host.specs.declared.report.Report.TheVariants.{Reference}
use Rattle.git_host.proofs.EntryLines.{entry_fits, of_format, packet_is, spelled_entry, spells_entry, written_are, written_texts}
use Rattle.git_host.proofs.HostAnswering.{falls, reports_on}
use Rattle.git_host.proofs.HostFaults.{same_fault}
use Rattle.git_host.proofs.LentStreams.{on_some}
use Rattle.git_host.proofs.ReferenceReports.{attributes_refused, name_refused, no_memory, texts_refused, texts_unasked}
use Rattle.git_host.proofs.ReferenceReports.{unasked_memory, unasked_never, written_report}
use Rattle.git_host.proofs.host_server.HostServer.report_reference.Goals as goal

pub returns-in-Err-clause-reports : goal.returns-in-Err-clause-reports
returns-in-Err-clause-reports g c = (
  attributes_refused c.args.self.now (texts_of c.args.texts) c.in-Some.digits.now c.in-Err.fault c.in-Some.ensures c.in-Err.ensures
      c.in_ok-check_name-in-Err.ensures,
  refl,
)

pub returns-in_default-phase-clause-reports : goal.returns-in_default-phase-clause-reports
returns-in_default-phase-clause-reports g c =
    texts_unasked c.args.self.now (texts_of c.args.texts) c.in-Some.digits.now (option_copied c.in-Ok.peeled) c.unasked.result c.in-Some.ensures
    c.in-Ok.ensures c.in_default-phase.not-Answering c.unasked.ensures

pub returns-in_default-phase-clause-memory : goal.returns-in_default-phase-clause-memory
returns-in_default-phase-clause-memory g c = λ is. absurd (unasked_memory c.args.texts.name.now c.unasked.result c.unasked.ensures is)

pub returns-in_default-phase-clause-never : goal.returns-in_default-phase-clause-never
returns-in_default-phase-clause-never g c = λ is. unasked_never c.args.texts.name.now c.unasked.result c.unasked.ensures is

pub returns-in_default-phase-clause-credit : goal.returns-in_default-phase-clause-credit
returns-in_default-phase-clause-credit g c = omega arith

pub returns-in_default-phase-clause-fault : goal.returns-in_default-phase-clause-fault
returns-in_default-phase-clause-fault g c s used over facts given h = same_fault (fault_in c.args.self.now.phase)

pub returns-in_err-reported-clause-reports : goal.returns-in_err-reported-clause-reports
returns-in_err-reported-clause-reports g c =
    let old = c.args.self.now in
    let (refused, same) = c.in_err-reported.ensures.takes in
    texts_refused old _ (texts_of c.args.texts) c.from_residual-in_err-reported.result _ c.from_residual-in_err-reported.ensures.1
    (name_refused old (texts_of c.args.texts) c.in-Some.digits.now (option_copied c.in-Ok.peeled) _ c.in-Some.ensures c.in-Ok.ensures refused)
    (ap (λ (p : Phase g.row.A.Denot). record old { phase = p }) (ap Answering same ∙ sym c.in-Answering.is))

pub returns-in_default-lend-clause-reports : goal.returns-in_default-lend-clause-reports
returns-in_default-lend-clause-reports g c =
    let format = c.args.self.now.offer.format in
    let texts = texts_of c.args.texts in
    let spells : SpellsId format texts.digits c.in-Some.digits.now = c.in-Some.ensures in
    let attributes : AreAttributes format texts.target texts.peeled (option_copied c.in-Ok.peeled) = c.in-Ok.ensures in (
      spelled_entry format texts c.in-Some.digits.now (option_copied c.in-Ok.peeled) spells attributes,
      spells_entry format texts c.in-Some.digits.now (option_copied c.in-Ok.peeled) spells attributes c.in_ok-reported.ensures.takes.0,
      λ s used over facts given h. search rules,
    )

pub put_reported-requires : goal.put_reported-requires
put_reported-requires g c =
    let format = c.args.self.now.offer.format in
    let texts = texts_of c.args.texts in
    let digits = c.in-Some.digits.now in
    let peeled = option_copied c.in-Ok.peeled in
    let spells : SpellsId format texts.digits digits = c.in-Some.ensures in
    let attributes : AreAttributes format texts.target texts.peeled peeled = c.in-Ok.ensures in
    let entry = spelled_entry format texts digits peeled spells attributes in
    subst FitLine (sym (written_are format texts digits peeled spells attributes c.symrefs.result c.peel.result (option_copied c.where_asked-target.result)
    (option_copied c.where_asked-peeled.result) c.where_asked-target.ensures c.where_asked-peeled.ensures))
    (entry_fits c.symrefs.result c.peel.result entry
    (spells_entry format texts digits peeled spells attributes c.in_ok-reported.ensures.takes.0).named)

pub returns-clause-reports : goal.returns-clause-reports
returns-clause-reports g c =
    let format = c.args.self.now.offer.format in
    let texts = texts_of c.args.texts in
    let digits = c.in-Some.digits.now in
    let peeled = option_copied c.in-Ok.peeled in
    let spells : SpellsId format texts.digits digits = c.in-Some.ensures in
    let attributes : AreAttributes format texts.target texts.peeled peeled = c.in-Ok.ensures in
    let entry = spelled_entry format texts digits peeled spells attributes in
    let answer = c.in-Answering.answer in
    let r = c.in_ok-reported.reported in
    let w = c.put_reported.new.hold in
    let (named, does) = c.in_ok-reported.ensures.takes in
    let spelled = spells_entry format texts digits peeled spells attributes named in
    let packet = reference_packet (asks_symrefs answer) (asks_peel answer) entry in
    let written = written_are format texts digits peeled spells attributes c.symrefs.result c.peel.result (option_copied c.where_asked-target.result)
    (option_copied c.where_asked-peeled.result) c.where_asked-target.ensures c.where_asked-peeled.ensures in
    let asked = ap (λ (b : Bool). written_texts b c.peel.result entry) c.symrefs.ensures
    ∙ ap (λ (b : Bool). written_texts (asks_symrefs answer) b entry) c.peel.ensures in
    let held : r ≡ Packet → w.items ≡ spelling_of packet =
    λ is. c.put_reported.ensures is ∙ ap (λ (t : Texts). spelling_of (texts_line t)) (written ∙ asked)
    ∙ sym (ap spelling_of (packet_is (asks_symrefs answer) (asks_peel answer) entry)) in
    let done = written_report (Reference entry) answer c.take_reference.new.self r (spelling_of packet) w.items held
    (does entry refl spelled.named (of_format format texts digits peeled spells attributes)) in (
      entry,
      spelled,
      reports_on c.args.self.now answer c.take_reference.new.self c.in-Answering.is w (c.lend.follows.lender w)
          (on_some c.lend.result c.in-Some-lend.hold _ c.in-Some-lend.is (c.lend.follows.holds w)) (omega (arith, c.len.ensures.value, c.len.ensures.fits))
          (Reference entry) r done,
    )

pub returns-clause-never : goal.returns-clause-never
returns-clause-never g c =
    let format = c.args.self.now.offer.format in
    let texts = texts_of c.args.texts in
    let digits = c.in-Some.digits.now in
    let peeled = option_copied c.in-Ok.peeled in
    let spells : SpellsId format texts.digits digits = c.in-Some.ensures in
    let attributes : AreAttributes format texts.target texts.peeled peeled = c.in-Ok.ensures in
    let entry = spelled_entry format texts digits peeled spells attributes in
    let (named, does) = c.in_ok-reported.ensures.takes in
    λ is.
    let same : c.in_ok-reported.reported ≡ OutOfMemory = cc is in
    no_memory entry c.in-Answering.answer c.take_reference.new.self c.in_ok-reported.reported _
    (does entry refl (spells_entry format texts digits peeled spells attributes named).named (of_format format texts digits peeled spells attributes)) same

pub returns-clause-credit : goal.returns-clause-credit
returns-clause-credit g c =
    let w = c.put_reported.new.hold in
    let lent = on_some c.lend.result c.in-Some-lend.hold _ c.in-Some-lend.is (c.lend.follows.holds w) in
    falls c.args.self.now c.in-Answering.answer c.take_reference.new.self c.in-Answering.is w (c.lend.follows.lender w)
    lent (Answering c.take_reference.new.self)
