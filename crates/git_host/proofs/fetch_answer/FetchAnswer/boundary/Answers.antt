use Rattle.std.proofs.Common.{rules, ◌≡◌, ◌++◌, ◌∷◌, [], ◌∙◌, ap, codes, refl, subst, sym, Bool, true, false, List}
use Rattle.git_names.specs.ObjectName.{ObjectName}
use Rattle.git_msg.specs.declared.Boundary.{Boundary}
use Rattle.git_msg.specs.Asked.{shallows_in}
use Rattle.git_msg.specs.WrittenRequest.{text_line}
use Rattle.git_msg.specs.ResponseLines.{boundary_text}
use Rattle.git_server.specs.FetchAnswers.{boundary_packet}
use Rattle.git_host.specs.FetchFacts.{may_have}
use Rattle.git_host.specs.FetchPlaces.{StandsAt, with_line}
use Rattle.git_host.specs.declared.fetch_answer.Place.{Place}
use Rattle.git_host.specs.declared.fetch_answer.Place.TheVariants.{Shallow}
use Rattle.git_host.proofs.FetchMoves.{after_first_line, after_line, line_held, line_sound, may_have_it, may_not_have}
use Rattle.git_host.proofs.fetch_answer.FetchAnswer.boundary.Goals as goal

-- what the test of these commits shows of the request's own
of_request : (ids shallows : List ObjectName) (line : Boundary) (tested is : Bool) → ids ≡ shallows → tested ≡ may_have ids line → tested ≡ is
    → may_have shallows line ≡ is
of_request ids shallows line tested is same test answer = ap (λ (l : List ObjectName). may_have l line) (sym same) ∙ sym test ∙ answer

pub returns-then-not-may_have-clause-reported : goal.returns-then-not-may_have-clause-reported
returns-then-not-may_have-clause-reported g c =
    let shallows = shallows_in c.args.self.now.request.asked in
    let line = c.args.line in
    (refl, may_not_have shallows line (of_request _ shallows line _ false c.shallows.ensures c.may_have.ensures c.if-not-may_have.true))

pub returns-then-any-clause-reported : goal.returns-then-any-clause-reported
returns-then-any-clause-reported g c t given h =
    let old = c.args.self.now in
    let q = old.request.asked in
    let line = c.args.line in
    let at = subst (λ (p : Place). StandsAt p q t given) c.in-Shallow.is h.stands in
    let more = subst (λ (b : Bool). StandsAt (Shallow b) q t given) c.if-any.true at in
    let was = c.in-Shallow.is ∙ ap Shallow c.if-any.true in
    let known = of_request _ (shallows_in q) line _ true c.shallows.ensures c.may_have.ensures c.if-not-may_have.false in
    let same : c.format.result ≡ old.format = search rules in
    let of_format = sym (c.format.ensures.value ∙ ap (λ (id : ObjectName). id.format) c.commit_of.ensures) ∙ same in
    record {
      packet = boundary_packet line;
      held = line_held _ (boundary_text line) c.put_boundary.ensures.written c.put_boundary.ensures.fits;
      same = record { request = refl; format = refl; wanted = refl };
      holds = record {
        wanted = h.wanted;
        all = h.all;
        sound = line_sound old.format q t line (record { of_format = of_format; unshallow = may_have_it (shallows_in q) line known }) h.sound;
        stands = subst (λ (p : Place). StandsAt p q (with_line line t) (given ++ boundary_packet line ∷ [])) (sym was) (after_line q t given line more);
      };
    }

pub returns-clause-reported : goal.returns-clause-reported
returns-clause-reported g c t given h =
    let old = c.args.self.now in
    let q = old.request.asked in
    let line = c.args.line in
    let at = subst (λ (p : Place). StandsAt p q t given) c.in-Shallow.is h.stands in
    let first = subst (λ (b : Bool). StandsAt (Shallow b) q t given) c.if-any.false at in
    let known = of_request _ (shallows_in q) line _ true c.shallows.ensures c.may_have.ensures c.if-not-may_have.false in
    let same : c.format.result ≡ old.format = search rules in
    let of_format = sym (c.format.ensures.value ∙ ap (λ (id : ObjectName). id.format) c.commit_of.ensures) ∙ same in
    record {
      packet = text_line (codes "shallow-info");
      held = line_held _ (codes "shallow-info") c.put_line.ensures.written c.put_line.ensures.fits;
      same = record { request = refl; format = refl; wanted = refl };
      holds = record {
        wanted = h.wanted;
        all = h.all;
        sound = line_sound old.format q t line (record { of_format = of_format; unshallow = may_have_it (shallows_in q) line known }) h.sound;
        stands = after_first_line q t given line first;
      };
    }
