use Rattle.std.proofs.Common.{ℕ, Bool, true, List, [], ◌∷◌, ◌++◌, sym, subst, ◌∙◌}
use Rattle.git_names.specs.declared.object_format.Format.{Format}
use Rattle.git_msg.specs.Asked.{fetch, ls_refs, object_info}
use Rattle.git_host.specs.HostAnswers.{GivesOn, on_references}
use Rattle.git_host.specs.HostSessions.{of_fetch, of_references, of_sizes}
use Rattle.git_host.specs.ReferencesPlaces.{Ends, IsReferencesAnswerOf, StandsAtReferences, last_reported, with_references_end}
use Rattle.git_host.specs.declared.host_answer.HostAnswer.{HostAnswer}
use Rattle.git_host.specs.declared.host_answer.HostAnswer.TheVariants.{References, Whole}
use Rattle.git_host.specs.declared.references_answer.ReferencesAnswer.{ReferencesAnswer}
use Rattle.git_host.specs.declared.references_answer.ReferencesPlace.{ReferencesPlace}
use Rattle.git_host.proofs.host_answer.HostAnswer.references_end.Goals as goal

-- the end of the references makes the answer whole
whole_by : {A : Type 0} (a b : ReferencesAnswer A) (bytes : List ℕ) → Ends a true bytes b
    → GivesOn (on_references with_references_end) (References a) bytes Whole
whole_by a b bytes (same, gives, over) m (ls_refs q) (of_references t) front h =
    let (packet, held, holds) = gives q t front h.represents in
    let now = front ++ packet ∷ [] in (
      packet,
      held.spelled,
      subst (λ (format : Format). IsReferencesAnswerOf format q (with_references_end t) now) (same.format ∙ h.format_is)
          (subst (λ (place : ReferencesPlace). StandsAtReferences place b.format q (with_references_end t) (last_reported b) now) over holds.stands),
    )
whole_by a b bytes ends m (ls_refs q) (of_fetch x t) front h = absurd h
whole_by a b bytes ends m (ls_refs q) (of_sizes t) front h = absurd h
whole_by a b bytes ends m (fetch q) f front h = absurd h
whole_by a b bytes ends m (object_info q) f front h = absurd h

pub returns : goal.returns
returns g c =
    let a = c.in-References.answer in
    let b = c.end.new.self in
    let bytes = c.end.new.hold.items in (
      subst (λ (old : HostAnswer g.row.A.Denot). GivesOn (on_references with_references_end) old bytes Whole) (sym c.in-References.is)
          (whole_by a b bytes (subst (λ (ended : Bool). Ends a ended bytes b) c.if-not-end.false c.end.ensures)),
      tt,
    )
