-- A session gives one output for the bytes used, up to how its packs are cut.
use Rattle.std.proofs.Common.{◌≡◌, ◌≢◌, ℕ, Bool, true, false, List, [], ◌∷◌, ◌++◌, length, map, refl, sym, ap, ◌∙◌}
use Rattle.std.proofs.lemmas.Grind.{flat_map-append}
use Rattle.std.proofs.lemmas.List.{map-append}
use Rattle.git_pkt.specs.Bands.{AreBands}
use Rattle.git_pkt.specs.Packets.{Pkt, flush}
use Rattle.git_pkt.specs.Splits.{Given}
use Rattle.git_pkt.specs.declared.band.Band.TheVariants.{Pack}
use Rattle.git_pkt.specs.declared.fault.Fault.{Fault}
use Rattle.git_pkt.specs.declared.fault.Kind.{Kind}
use Rattle.git_pkt.specs.declared.fault.Kind.TheVariants.{PackSource}
use Rattle.git_msg.specs.Asked.{Asked, ls_refs, fetch, object_info, want_refs_in}
use Rattle.git_server.specs.Repository.{Repository}
use Rattle.git_server.specs.Packs.{whole, EndsWhole, IsPackfile, packfile_header}
use Rattle.git_server.specs.FetchAnswers.{acknowledgments, is_ready_for, negotiates, ready_lines, shallow_info, wanted_refs}
use Rattle.git_server.specs.FetchAnswers.{EndsWithBoundary, EndsWithRefs, IsAfter, IsFetchAnswerBy, IsNegotiated}
use Rattle.git_server.specs.Answers.{IsAnswer}
use Rattle.git_server.specs.PackCuts.{AreSameButForCuts, Content, contents_of_all, pack_byte}
use Rattle.git_server.specs.Sessions.{Setting, advertised, AreAnswers, IsAnswered, IsOfTheBytes, IsSession, IsTail, IsTailBy}
use Rattle.git_server.specs.declared.outcome.Outcome.{Outcome}
use Rattle.git_server.specs.declared.outcome.Outcome.TheVariants.{Flush, Closed, Refused}
use Rattle.git_server.proofs.Begun.{begun_has_no_flush}
use Rattle.git_server.proofs.OneOutcome.{none_at_end, one_left, one_outcome}
use Rattle.git_server.proofs.OneSession.{no_request}
use Rattle.git_msg.specs.Arguments.{Arg}

contents-append : (ps qs : List Pkt) → contents_of_all (ps ++ qs) ≡ contents_of_all ps ++ contents_of_all qs
contents-append ps qs = flat_map-append _ ps qs

-- lists contain the same where their parts do
both_same : (a b c d : List Pkt) → contents_of_all a ≡ contents_of_all b → contents_of_all c ≡ contents_of_all d
    → contents_of_all (a ++ c) ≡ contents_of_all (b ++ d)
both_same a b c d h k =
    contents-append a c
    ∙ ap (λ (l : List Content). l ++ contents_of_all c) h
    ∙ ap (λ (l : List Content). contents_of_all b ++ l) k
    ∙ sym (contents-append b d)

-- a pack has its bytes in packets, cut in any way
bands_contain : (bytes : List ℕ) (bands : List Pkt) → AreBands Pack bytes bands → contents_of_all bands ≡ map pack_byte bytes
bands_contain bytes [] none = rw none refl
bands_contain bytes (p ∷ bands) (part, more, e, some, fits, is, others) =
    rw (is, e) (ap (λ (l : List Content). map pack_byte part ++ l) (bands_contain more bands others) ∙ sym (map-append pack_byte part more))

packs_same : (bytes : List ℕ) (a b : List Pkt) → EndsWhole bytes a → EndsWhole bytes b → contents_of_all a ≡ contents_of_all b
packs_same bytes a b h k =
    ap contents_of_all h.packets_are
    ∙ both_same h.bands k.bands (flush ∷ []) (flush ∷ []) (bands_contain bytes h.bands h.are_bands ∙ sym (bands_contain bytes k.bands k.are_bands)) refl
    ∙ ap contents_of_all (sym k.packets_are)

packfiles_same : (bytes : List ℕ) (a b : List Pkt) → IsPackfile whole bytes a → IsPackfile whole bytes b → contents_of_all a ≡ contents_of_all b
packfiles_same bytes a b h k =
    ap contents_of_all h.packets_are
    ∙ both_same (packfile_header ∷ []) (packfile_header ∷ []) h.tail k.tail refl (packs_same bytes h.tail k.tail h.ends k.ends)
    ∙ ap contents_of_all (sym k.packets_are)

-- packets of this contain the same
abbrev IsSameIn : (List Pkt → Type 0) → Type 0
IsSameIn P = (a b : List Pkt) → P a → P b → contents_of_all a ≡ contents_of_all b

after_same : (first : List Pkt) (P : List Pkt → Type 0) → IsSameIn P → IsSameIn (IsAfter first P)
after_same first P same a b h k =
    ap contents_of_all h.packets_are
    ∙ both_same first first h.others k.others refl (same h.others k.others h.holds k.holds)
    ∙ ap contents_of_all (sym k.packets_are)

equal_same : (packets a b : List Pkt) → a ≡ packets → b ≡ packets → contents_of_all a ≡ contents_of_all b
equal_same packets a b h k = ap contents_of_all (h ∙ sym k)

module _ (repo : Repository) (q : List Arg) where
  refs_same : IsSameIn (EndsWithRefs whole repo q)
  refs_same = after_same (wanted_refs repo (want_refs_in q)) (IsPackfile whole (repo.pack q)) (packfiles_same (repo.pack q))

  boundary_same : IsSameIn (EndsWithBoundary whole repo q)
  boundary_same = after_same (shallow_info (repo.boundaries q)) (EndsWithRefs whole repo q) refs_same

  negotiated_same : (ready : Bool) (lines : List Pkt) → IsSameIn (IsNegotiated ready lines whole repo q)
  negotiated_same true lines = after_same (lines ++ ready_lines) (EndsWithBoundary whole repo q) boundary_same
  negotiated_same false lines = equal_same (lines ++ flush ∷ [])

  fetch_same : (negotiating : Bool) → IsSameIn (IsFetchAnswerBy negotiating whole repo q)
  fetch_same true = negotiated_same (is_ready_for repo q) (acknowledgments repo q)
  fetch_same false = boundary_same

answer_same : (repo : Repository) (q : Asked) → IsSameIn (IsAnswer repo q)
answer_same repo (ls_refs q) a b h k = ap contents_of_all (h ∙ sym k)
answer_same repo (object_info q) a b h k = ap contents_of_all (h ∙ sym k)
answer_same repo (fetch q) a b h k = fetch_same repo q (negotiates q) a b h k

answers_same : (repo : Repository) (asked : List Asked) → IsSameIn (AreAnswers repo asked)
answers_same repo [] a b h k = ap contents_of_all (h ∙ sym k)
answers_same repo (q ∷ asked) a b (answer, more, e, is, later) (other, others, f, also, after) =
    ap contents_of_all e
    ∙ both_same answer other more others (answer_same repo q answer other is also) (answers_same repo asked more others later after)
    ∙ ap contents_of_all (sym f)

-- what is written at an end is one thing, unless a pack broke off
tail_by : (s : Setting) (left more : List Given) (fault : Fault) (kind : Kind) (a b : List Pkt) → kind ≢ PackSource → IsTailBy kind s left fault a
    → IsTailBy kind s more fault b → a ≡ b
tail_by s left more fault PackSource a b other h k = absurd (other refl)
tail_by s left more fault kind a b other h k = sym h ∙ k

one_tail : (s : Setting) (left more : List Given) (outcome : Outcome) (a b : List Pkt) → IsOfTheBytes outcome → IsTail s left outcome a
    → IsTail s more outcome b → a ≡ b
one_tail s left more Flush a b of h k = sym h ∙ k
one_tail s left more Closed a b of h k = sym h ∙ k
one_tail s left more (Refused fault) a b of h k = tail_by s left more fault fault.kind a b of.by_pack h k

module _ (s : Setting) where
  pub one_output : (used : List ℕ) (over : Bool) (given others : List ℕ) (o p : Outcome) → IsSession s used over given o → IsSession s used over others p
      → IsOfTheBytes o → IsOfTheBytes p → AreSameButForCuts given others
  one_output used over given others o p h k a b =
      let left = one_left s used h.asked k.asked h.left k.left h.rest k.rest h.stream k.stream
      (none_at_end s over h.left h.rest (length used) o a.by_pack h.ends) (none_at_end s over k.left k.rest (length used) p b.by_pack k.ends) in
      let outcome : o ≡ p = one_outcome s used over given others o p h k a b in
      let tail : h.tail ≡ k.tail = one_tail s h.left k.left p h.tail k.tail b (rw (sym outcome) h.is_tail) k.is_tail in
      let answers = answers_same s.repo k.asked h.answers k.answers (rw (sym left.2) h.answered) k.answered in
      record {
        packets = advertised s ++ h.answers ++ h.tail;
        other_packets = advertised s ++ k.answers ++ k.tail;
        fit = h.fit;
        others_fit = k.fit;
        bytes_are = h.given_is;
        others_are = k.given_is;
        same = both_same (advertised s ++ h.answers) (advertised s ++ k.answers) h.tail k.tail
            (both_same (advertised s) (advertised s) h.answers k.answers refl answers) (ap contents_of_all tail);
      }

  pub one_output_so_far : (used given others : List ℕ) → IsAnswered s used given → IsAnswered s used others → AreSameButForCuts given others
  one_output_so_far used given others h k =
      let left = one_left s used h.asked k.asked h.left k.left h.rest k.rest h.stream k.stream
      (no_request s h.left (begun_has_no_flush s h.left h.begins)) (no_request s k.left (begun_has_no_flush s k.left k.begins)) in
      record {
        packets = advertised s ++ h.answers;
        other_packets = advertised s ++ k.answers;
        fit = h.fit;
        others_fit = k.fit;
        bytes_are = h.given_is;
        others_are = k.given_is;
        same = both_same (advertised s) (advertised s) h.answers k.answers refl
            (answers_same s.repo k.asked h.answers k.answers (rw (sym left.2) h.answered) k.answered);
      }
