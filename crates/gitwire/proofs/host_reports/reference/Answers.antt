use Rattle.std.proofs.Common.{arith, ◌≡◌, ℕ, List, Option, length, Ok, Err, refl, sym, ap, subst, ◌∙◌}
use Rattle.git_host.specs.HostLookups.{format_of}
use Rattle.git_host.specs.HostServer.{bytes_of}
use Rattle.git_host.specs.ReferenceTexts.{RefusesTexts, SpellsEntry, Texts, texts_with}
use Rattle.git_host.specs.declared.report.Report.{Report}
use Rattle.gitwire.specs.HostAnswers.{reporting, unread_as, unread_by}
use Rattle.gitwire.proofs.Reporting.{reported_in}
use Rattle.gitwire.proofs.TextReferences.{no_part, passed_read, passed_unread}
use Rattle.gitwire.proofs.host_reports.reference.Goals as goal

-- the texts that are passed on are those that C passes
same_texts : (digits name : List ℕ) {target targets peeled peels : Option (List ℕ)} → target ≡ targets → peeled ≡ peels
    → texts_with name digits target peeled ≡ texts_with name digits targets peels
same_texts digits name {target} {targets} {peeled} {peels} p q =
    ap (λ (t : Option (List ℕ)). texts_with name digits t peeled) p ∙ ap (λ (t : Option (List ℕ)). texts_with name digits targets t) q

pub returns-in-Ok : goal.returns-in-Ok
returns-in-Ok c =
    let (entry, spells, reports) = c.in-Ok.ensures.reports in
    let format = format_of c.args.server.now in
    let same = same_texts c.args.id.now c.args.name.now c.given-target.ensures c.given-peeled.ensures in
    reported_in _ (Ok (Report.Reference entry)) _ _ _ _ _ (omega (arith, c.if-buffer-lt-LONGEST_PACKET.false)) (
      entry,
      refl,
      passed_read format c.args.id.now c.args.name.now c.args.target.now c.args.peeled.now entry
          (subst (λ (t : Texts). SpellsEntry format t entry) same spells),
    )
    (record {
      reported = c.in-Ok.reported;
      reports = reports;
      answer_is = c.show.ensures.answer
          ∙ ap (λ (part : ℕ). reporting c.in-Ok.reported part 0 (length (bytes_of c.report_reference.new.self))) (sym no_part);
      buffer_is = c.show.ensures.buffer;
    })

pub returns-in-Err : goal.returns-in-Err
returns-in-Err c =
    let (refused, unchanged) = c.in-Err.ensures.reports in
    let format = format_of c.args.server.now in
    let same = same_texts c.args.id.now c.args.name.now c.given-target.ensures c.given-peeled.ensures in
    reported_in _ (Err (unread_by c.in-Err.fault)) _ _ _ _ _ (omega (arith, c.if-buffer-lt-LONGEST_PACKET.false))
    (passed_unread format c.args.id.now c.args.name.now c.args.target.now c.args.peeled.now c.in-Err.fault
    (subst (λ (t : Texts). RefusesTexts format t c.in-Err.fault) same refused))
    (c.answer.ensures ∙ ap unread_as c.unread_by.ensures, refl, unchanged)
