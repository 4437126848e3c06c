use Rattle.std.proofs.Common.{refl, sym, subst, ◌∙◌}
use Rattle.git_server.specs.Answers.{unborn_packet}
use Rattle.git_host.specs.LastNames.{last_name}
use Rattle.git_host.specs.ReferencesPlaces.{StandsAtReferences}
use Rattle.git_host.specs.declared.references_answer.ReferencesPlace.{ReferencesPlace}
use Rattle.git_host.proofs.ReferencesMoves.{after_head, after_no_head, asks_alike, ordered_alike}
use Rattle.git_host.proofs.references_answer.ReferencesAnswer.unborn.Goals as goal

pub returns-in_default : goal.returns-in_default
returns-in_default g c = (refl, c.in_default.not-First)

pub returns-then-not-asks_for_unborn : goal.returns-then-not-asks_for_unborn
returns-then-not-asks_for_unborn g c = (
  record { format = refl; keeps = record { kept = c.put_in_order.ensures.same.kept; stored = c.put_in_order.ensures.same.stored } },
  λ q t given h.
      let old = c.args.self.now in
      let alike = ordered_alike q old.listing c.put_in_order.new.self h.alike c.put_in_order.ensures.same in
      let at = subst (λ (p : ReferencesPlace). StandsAtReferences p old.format q t (last_name old.last) given) c.in-First.is h.stands in
      record {
        alike = alike;
        stands = (
          refl,
          after_no_head old.format q t (last_name old.last) given c.args.target.now at c.requires
              (asks_alike q _ _ alike (sym c.asks_for_unborn.ensures ∙ c.if-not-asks_for_unborn.true)),
        );
      },
)

pub returns : goal.returns
returns g c = (
  record { format = refl; keeps = record { kept = c.put_in_order.ensures.same.kept; stored = c.put_in_order.ensures.same.stored } },
  λ q t given h.
      let old = c.args.self.now in
      let alike = ordered_alike q old.listing c.put_in_order.new.self h.alike c.put_in_order.ensures.same in
      let at = subst (λ (p : ReferencesPlace). StandsAtReferences p old.format q t (last_name old.last) given) c.in-First.is h.stands in (
        unborn_packet c.args.target.now,
        c.put_unborn.ensures,
        record {
          alike = alike;
          stands = (
            refl,
            after_head old.format q t (last_name old.last) given c.args.target.now at c.requires
                (asks_alike q _ _ alike (sym c.asks_for_unborn.ensures ∙ c.if-not-asks_for_unborn.false)),
          );
        },
      ),
)
