use Rattle.std.proofs.Common.{◌≡◌, [], ◌∷◌, ◌++◌, Some, refl, sym, subst, ◌∙◌, true, false}
use Rattle.git_pkt.specs.Packets.{Pkt}
use Rattle.git_msg.specs.Asked.{peel_in, symrefs_in}
use Rattle.git_server.specs.Answers.{reference_packet}
use Rattle.git_host.specs.FetchPlaces.{Holds}
use Rattle.git_host.specs.LastNames.{last_name}
use Rattle.git_host.specs.ReferencesPlaces.{StandsAtReferences, with_ref}
use Rattle.git_host.specs.declared.references_answer.ReferencesPlace.{ReferencesPlace}
use Rattle.git_host.proofs.ReferencesMoves.{after_hidden, after_shown, entries_of, head_allowed, one_more_sound, ordered_alike, packet_alike, shown_alike}
use Rattle.git_host.proofs.ReferencesMoves.{stands_after, unsound_format, unsound_head, unsound_order}
use Rattle.git_host.proofs.references_answer.ReferencesAnswer.reference.Goals as goal

true_false : true ≡ false → ⊥
true_false e = cc

pub put_entry-requires : goal.put_entry-requires
put_entry-requires g c =
    let h = c.is_of.ensures.of_format.0 c.if-not-is_of.false in
    record { by_peeled = λ id is. h.by_peeled id is ∙ sym h.by_id }

pub returns-then-not-is_of : goal.returns-then-not-is_of
returns-then-not-is_of g c = (
  refl,
  λ q t given h. unsound_format c.args.self.now.format t c.args.entry (λ of. true_false (sym (c.is_of.ensures.of_format.1 of) ∙ c.if-not-is_of.true)),
)

pub returns-then-refuses_head : goal.returns-then-refuses_head
returns-then-refuses_head g c = (
  refl,
  λ q t given h.
      let old = c.args.self.now in
      unsound_head old.place old.format q t (last_name old.last) given c.args.entry (sym c.refuses_head.ensures ∙ c.if-refuses_head.true) h.stands,
)

pub returns-then-not-comes_next : goal.returns-then-not-comes_next
returns-then-not-comes_next g c = (
  refl,
  λ q t given h.
      let old = c.args.self.now in
      let at = entries_of old.place old.format q t (last_name old.last) given c.in_default.not-Whole h.stands in
      unsound_order old.format t (last_name old.last) c.args.entry at.last_is (sym c.comes_next.ensures ∙ c.if-not-comes_next.true),
)

pub returns-then-not-shows : goal.returns-then-not-shows
returns-then-not-shows g c = (
  record { format = refl; keeps = record { kept = c.put_in_order.ensures.same.kept; stored = c.put_in_order.ensures.same.stored } },
  λ q t given h.
      let old = c.args.self.now in
      let entry = c.args.entry in
      let kept = c.put_in_order.new.self in
      let alike = ordered_alike q old.listing kept h.alike c.put_in_order.ensures.same in
      let at = entries_of old.place old.format q t (last_name old.last) given c.in_default.not-Whole h.stands in
      let hidden = shown_alike q kept.asked entry.name false alike (sym c.shows.ensures ∙ c.if-not-shows.true) in
      let sound = one_more_sound old.format t (last_name old.last) entry at.sound at.last_is (sym c.comes_next.ensures ∙ c.if-not-comes_next.false)
      c.is_of.ensures.named (c.is_of.ensures.of_format.0 c.if-not-is_of.false)
      (head_allowed old.place old.format q t (last_name old.last) given entry.name c.in_default.not-Whole
      (sym c.refuses_head.ensures ∙ c.if-refuses_head.false) h.stands) in
      record {
        alike = alike;
        stands = subst (λ (p : ReferencesPlace). StandsAtReferences p old.format q (with_ref entry t) (Some entry.name) given)
            (sym c.after_reference-self.ensures)
            (stands_after old.place old.format q t (last_name old.last) given entry given c.in_default.not-Whole h.stands
            (after_hidden old.format q t (last_name old.last) given at entry sound hidden));
      },
)

pub returns : goal.returns
returns g c = (
  record { format = refl; keeps = record { kept = c.put_in_order.ensures.same.kept; stored = c.put_in_order.ensures.same.stored } },
  λ q t given h.
      let old = c.args.self.now in
      let entry = c.args.entry in
      let kept = c.put_in_order.new.self in
      let alike = ordered_alike q old.listing kept h.alike c.put_in_order.ensures.same in
      let at = entries_of old.place old.format q t (last_name old.last) given c.in_default.not-Whole h.stands in
      let shown = shown_alike q kept.asked entry.name true alike (sym c.shows.ensures ∙ c.if-not-shows.false) in
      let sound = one_more_sound old.format t (last_name old.last) entry at.sound at.last_is (sym c.comes_next.ensures ∙ c.if-not-comes_next.false)
      c.is_of.ensures.named (c.is_of.ensures.of_format.0 c.if-not-is_of.false)
      (head_allowed old.place old.format q t (last_name old.last) given entry.name c.in_default.not-Whole
      (sym c.refuses_head.ensures ∙ c.if-refuses_head.false) h.stands) in
      let packet = reference_packet (symrefs_in q) (peel_in q) entry in (
        packet,
        subst (λ (p : Pkt). Holds c.put_entry.new.hold.items p) (packet_alike q kept.asked entry alike) c.put_entry.ensures,
        record {
          alike = alike;
          stands = subst (λ (p : ReferencesPlace). StandsAtReferences p old.format q (with_ref entry t) (Some entry.name) (given ++ packet ∷ []))
              (sym c.after_reference-self.ensures)
              (stands_after old.place old.format q t (last_name old.last) given entry (given ++ packet ∷ []) c.in_default.not-Whole h.stands
              (after_shown old.format q t (last_name old.last) given at entry sound shown));
        },
      ),
)
