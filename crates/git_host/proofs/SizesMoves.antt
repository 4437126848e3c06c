-- One size more; and answers by what a repository has.
use Rattle.std.proofs.Common.{arith, ◌≡◌, ℕ, ◌+◌, ◌<◌, List, [], ◌∷◌, ◌++◌, length, map, slice_get, Option, Some, codes, refl, sym, ap, ◌∙◌, inl, inr}
use Rattle.std.proofs.lemmas.Option.{slice_get_cases}
use Rattle.git_names.specs.ObjectName.{ObjectName}
use Rattle.git_names.specs.declared.object_format.Format.{Format}
use Rattle.git_pkt.specs.Packets.{Pkt, flush}
use Rattle.git_msg.specs.Arguments.{Arg}
use Rattle.git_msg.specs.Asked.{oids_in}
use Rattle.git_msg.specs.WrittenRequest.{text_line}
use Rattle.git_server.specs.Answers.{info_packet, ls_refs_answer, object_info_answer, reference_packets, unborn_packets}
use Rattle.git_server.specs.Repository.{Entry, Repository}
use Rattle.git_host.specs.ReferencesPlaces.{IsReferencesAnswerOf, ReferencesFacts}
use Rattle.git_host.specs.SizesPlaces.{AtObject, IsSizesAnswerOf, size_line, size_lines}
use Rattle.git_host.proofs.Picked.{length_more}

lines_on : (sizes : List (Option ℕ)) (ids : List ObjectName) (size : Option ℕ) (id : ObjectName) → slice_get ids (length sizes) ≡ Some id
    → size_lines (sizes ++ size ∷ []) ids ≡ size_lines sizes ids ++ size_line size id ∷ []
lines_on [] [] size id here = absurd (cc)
lines_on [] (i ∷ is) size id here = let same : i ≡ id = cc in ap (λ (o : ObjectName). size_line size o ∷ []) same
lines_on (s ∷ ss) [] size id here = absurd (cc)
lines_on (s ∷ ss) (i ∷ is) size id here = ap (λ (l : List Pkt). size_line s i ∷ l) (lines_on ss is size id here)

pub size_there : (q : List Arg) (at : ℕ) → at < length (oids_in q) → (id : ObjectName) × (slice_get (oids_in q) at ≡ Some id)
size_there q at within =
    elim (slice_get_cases (oids_in q) at).1 [
      | inl (x, less, here, same) ↦ (x, here)
      | inr (most, is) ↦ absurd (omega (arith, within, most))
    ]

pub after_size : (at : ℕ) (q : List Arg) (sizes : List (Option ℕ)) (given : List Pkt) (size : Option ℕ) (id : ObjectName)
    → AtObject at q sizes given → at < length (oids_in q) → slice_get (oids_in q) at ≡ Some id
    → AtObject (at + 1) q (sizes ++ size ∷ []) (given ++ size_line size id ∷ [])
after_size at q sizes given size id h within here =
    let found = ap (slice_get (oids_in q)) h.so_far ∙ here in
    record {
      so_far = omega (arith, length_more sizes size, h.so_far);
      within = omega (arith, within);
      given_is = ap (λ (l : List Pkt). l ++ size_line size id ∷ []) h.given_is
          ∙ ap (λ (l : List Pkt). text_line (codes "size") ∷ l) (sym (lines_on sizes (oids_in q) size id found));
    }

pub after_size_header : (q : List Arg) (sizes : List (Option ℕ)) (given : List Pkt) → sizes ≡ [] → given ≡ []
    → AtObject 0 q sizes (given ++ text_line (codes "size") ∷ [])
after_size_header q sizes given none nothing = record {
  so_far = ap length none;
  within = omega arith;
  given_is = ap (λ (l : List Pkt). l ++ text_line (codes "size") ∷ []) nothing
      ∙ ap (λ (ss : List (Option ℕ)). text_line (codes "size") ∷ size_lines ss (oids_in q)) (sym none);
}

-- ---- as a repository answers

mapped_lines : (repo : Repository) (ids : List ObjectName) → size_lines (map repo.object_size ids) ids ≡ map (info_packet repo) ids
mapped_lines repo [] = refl
mapped_lines repo (id ∷ ids) = ap (λ (l : List Pkt). info_packet repo id ∷ l) (mapped_lines repo ids)

pub sizes_answer : (repo : Repository) (q : List Arg) (sizes : List (Option ℕ)) (packets : List Pkt) → sizes ≡ map repo.object_size (oids_in q)
    → IsSizesAnswerOf q sizes packets → packets ≡ object_info_answer q repo
sizes_answer repo q sizes packets are h =
    h.packets_are ∙ ap (λ (ss : List (Option ℕ)). text_line (codes "size") ∷ (size_lines ss (oids_in q) ++ flush ∷ [])) are
    ∙ ap (λ (l : List Pkt). text_line (codes "size") ∷ (l ++ flush ∷ [])) (mapped_lines repo (oids_in q))

pub references_answer : (repo : Repository) (format : Format) (q : List Arg) (t : ReferencesFacts) (packets : List Pkt) → t.refs ≡ repo.refs
    → t.unborn ≡ repo.unborn_head → IsReferencesAnswerOf format q t packets → packets ≡ ls_refs_answer q repo
references_answer repo format q t packets refs unborn h =
    h.packets_are ∙ ap (λ (head : Option (List ℕ)). unborn_packets q head ++ reference_packets q t.refs) unborn
    ∙ ap (λ (l : List Entry). unborn_packets q repo.unborn_head ++ reference_packets q l) refs
