use Rattle.std.proofs.Common.{◌≡◌, ℕ, List, [], ◌∷◌, ◌++◌, Option, Some, refl, sym, ap, subst, ◌∙◌, rules, tests}
use Rattle.git_pkt.specs.Packets.{Pkt, spelling_of}
use Rattle.git_msg.specs.Asked.{peel_in, ref_prefixes_in, symrefs_in}
use Rattle.git_server.specs.Answers.{is_shown, reference_packet}
use Rattle.git_server.specs.Repository.{IsNamed, IsOfFormat}
use Rattle.git_names.specs.declared.object_format.Format.{Format}
use Rattle.git_host.specs.FetchPlaces.{Holds}
use Rattle.git_host.specs.LastNames.{last_name}
use Rattle.git_host.specs.NextNames.{Judges}
use Rattle.git_host.specs.ReferencesPlaces.{StandsAtReferences, comes_after, peel_of, refuses_head_at, symrefs_of, with_ref}
use Rattle.git_host.specs.declared.references_answer.ReferencesPlace.{ReferencesPlace}
use Rattle.git_host.proofs.JudgedNames.{judged_name, judged_next, judged_unsorted}
use Rattle.git_host.proofs.EntryLines.{entry_held, named_sound}
use Rattle.git_host.proofs.ReferencesMoves.{after_hidden, after_shown, entries_of, head_allowed, ordered_alike, packet_alike, shown_alike}
use Rattle.git_host.proofs.ReferencesMoves.{stands_after, unsound_head, unsound_order}
use Rattle.git_host.proofs.references_answer.ReferencesAnswer.take_reference.Goals as goal

pub returns-then-is_second_head : goal.returns-then-is_second_head
returns-then-is_second_head g c =
    let old = c.args.self.now in
    let found = subst (λ (last : Option (List ℕ)). Judges last c.args.name.now c.judge_name-found.result) c.name.ensures.value c.judge_name-found.ensures in
    record {
      takes = (
        judged_name (last_name old.last) c.args.name.now c.judge_name-found.result c.in_default.not-Bad found,
        λ entry same names of. (
          refl,
          λ q t given h. unsound_head old.place old.format q t (last_name old.last) given entry
              (ap (refuses_head_at old.place) same ∙ sym c.is_second_head.ensures ∙ c.if-is_second_head.true) h.stands,
        ),
      );
      memory = λ is. absurd (cc is);
    }

pub returns-in-Unsorted : goal.returns-in-Unsorted
returns-in-Unsorted g c =
    let old = c.args.self.now in
    let found = subst (λ (last : Option (List ℕ)). Judges last c.args.name.now c.judge_name-found.result) c.name.ensures.value c.judge_name-found.ensures in
    record {
      takes = (
        judged_name (last_name old.last) c.args.name.now c.judge_name-found.result c.in_default.not-Bad found,
        λ entry same names of. (
          refl,
          λ q t given h.
              let at = entries_of old.place old.format q t (last_name old.last) given c.in_default-place.not-Whole h.stands in
              unsound_order old.format t (last_name old.last) entry at.last_is
              (ap (comes_after (last_name old.last)) same
              ∙ judged_unsorted (last_name old.last) c.args.name.now c.judge_name-found.result c.in-Unsorted.is found),
        ),
      );
      memory = λ is. absurd (cc is);
    }

pub returns-then-not-shows_name : goal.returns-then-not-shows_name
returns-then-not-shows_name g c =
    let old = c.args.self.now in
    let name = c.args.name.now in
    let kept = c.put_in_order.new.self in
    let found = subst (λ (last : Option (List ℕ)). Judges last name c.judge_name-found.result) c.name.ensures.value c.judge_name-found.ensures in
    let named = judged_name (last_name old.last) name c.judge_name-found.result c.in_default.not-Bad found in
    let after = judged_next (last_name old.last) name c.judge_name-found.result c.in_default.not-Bad c.in_default-found.not-Unsorted found in
    let of_format : c.args.format ≡ old.format = search (rules, tests) in
    record {
      takes = (
        named,
        λ entry same names of. (
          record { format = refl; keeps = record { kept = c.put_in_order.ensures.same.kept; stored = c.put_in_order.ensures.same.stored } },
          λ q t given h.
              let alike = ordered_alike q old.listing kept h.alike c.put_in_order.ensures.same in
              let at = entries_of old.place old.format q t (last_name old.last) given c.in_default-place.not-Whole h.stands in
              let hidden = shown_alike q kept.asked entry.name _ alike
              (ap (is_shown (ref_prefixes_in kept.asked)) same ∙ sym c.shows_name.ensures ∙ c.if-not-shows_name.true) in
              let sound = named_sound old.format t (last_name old.last) entry name at.sound at.last_is same after names
              (subst (λ (f : Format). IsOfFormat f entry) of_format of)
              (head_allowed old.place old.format q t (last_name old.last) given name c.in_default-place.not-Whole
              (sym c.is_second_head.ensures ∙ c.if-is_second_head.false) h.stands) in
              let kept_name : last_name c.keep.new.self ≡ Some name = search (rules, tests) in
              let is_last : last_name c.keep.new.self ≡ Some entry.name = kept_name ∙ ap Some (sym same) in
              record {
                alike = alike;
                stands = subst (λ (last : Option (List ℕ)). StandsAtReferences c.after_reference-self.result old.format q (with_ref entry t) last given)
                    (sym is_last)
                    (subst (λ (p : ReferencesPlace). StandsAtReferences p old.format q (with_ref entry t) (Some entry.name) given)
                    (sym c.after_reference-self.ensures)
                    (stands_after old.place old.format q t (last_name old.last) given entry given c.in_default-place.not-Whole h.stands
                    (after_hidden old.format q t (last_name old.last) given at entry sound hidden)));
              },
        ),
      );
      memory = λ is. absurd (cc is);
    }

pub returns : goal.returns
returns g c =
    let old = c.args.self.now in
    let name = c.args.name.now in
    let kept = c.put_in_order.new.self in
    let found = subst (λ (last : Option (List ℕ)). Judges last name c.judge_name-found.result) c.name.ensures.value c.judge_name-found.ensures in
    let named = judged_name (last_name old.last) name c.judge_name-found.result c.in_default.not-Bad found in
    let after = judged_next (last_name old.last) name c.judge_name-found.result c.in_default.not-Bad c.in_default-found.not-Unsorted found in
    let of_format : c.args.format ≡ old.format = search (rules, tests) in
    record {
      takes = (
        named,
        λ entry same names of. (
          record { format = refl; keeps = record { kept = c.put_in_order.ensures.same.kept; stored = c.put_in_order.ensures.same.stored } },
          λ q t given h.
              let alike = ordered_alike q old.listing kept h.alike c.put_in_order.ensures.same in
              let at = entries_of old.place old.format q t (last_name old.last) given c.in_default-place.not-Whole h.stands in
              let shown = shown_alike q kept.asked entry.name _ alike
              (ap (is_shown (ref_prefixes_in kept.asked)) same ∙ sym c.shows_name.ensures ∙ c.if-not-shows_name.false) in
              let sound = named_sound old.format t (last_name old.last) entry name at.sound at.last_is same after names
              (subst (λ (f : Format). IsOfFormat f entry) of_format of)
              (head_allowed old.place old.format q t (last_name old.last) given name c.in_default-place.not-Whole
              (sym c.is_second_head.ensures ∙ c.if-is_second_head.false) h.stands) in
              let kept_name : last_name c.keep.new.self ≡ Some name = search (rules, tests) in
              let is_last : last_name c.keep.new.self ≡ Some entry.name = kept_name ∙ ap Some (sym same) in
              let packet = reference_packet (symrefs_in q) (peel_in q) entry in (
                packet,
                subst (λ (p : Pkt). Holds (spelling_of (reference_packet (symrefs_of old) (peel_of old) entry)) p)
                    (packet_alike q old.listing.asked entry h.alike)
                    (entry_held (symrefs_of old) (peel_of old) entry (subst (λ (n : List ℕ). IsNamed n entry.target) (sym same) names)),
                record {
                  alike = alike;
                  stands = subst
                      (λ (last : Option (List ℕ)). StandsAtReferences c.after_reference-self.result old.format q (with_ref entry t) last
                      (given ++ packet ∷ []))
                      (sym is_last)
                      (subst (λ (p : ReferencesPlace). StandsAtReferences p old.format q (with_ref entry t) (Some entry.name) (given ++ packet ∷ []))
                      (sym c.after_reference-self.ensures)
                      (stands_after old.place old.format q t (last_name old.last) given entry (given ++ packet ∷ []) c.in_default-place.not-Whole h.stands
                      (after_shown old.format q t (last_name old.last) given at entry sound shown)));
                },
              ),
        ),
      );
      memory = λ is. absurd (cc is);
    }
