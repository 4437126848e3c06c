-- What is sent for what was reported is an answer of each repository that answers so.
use Rattle.std.proofs.Common.{arith, ◌≡◌, ℕ, ◌<◌, Bool, true, false, List, [], ◌∷◌, ◌++◌}
use Rattle.std.proofs.Common.{length, map, codes, if◌then◌else◌, unwrap_or, Option, Some, refl, sym, ap, ◌∙◌, append_assoc, subst, inl, inr}
use Rattle.std.specs.List.{filter, filter_map}
use Rattle.git_names.specs.ObjectName.{ObjectName}
use Rattle.git_pkt.specs.Packets.{Pkt}
use Rattle.git_pkt.specs.Bands.{AreBands}
use Rattle.git_pkt.specs.declared.band.Band.TheVariants.{Pack as OnPack}
use Rattle.git_msg.specs.declared.Boundary.{Boundary}
use Rattle.git_msg.specs.Arguments.{Arg}
use Rattle.git_msg.specs.Asked.{haves_in, want_refs_in}
use Rattle.git_msg.specs.ResponseLines.{wanted_of, wanted_text}
use Rattle.git_msg.specs.WrittenRequest.{text_line}
use Rattle.git_server.specs.Packs.{EndsPack, IsPackfile, Manner, whole, broken, packfile_header}
use Rattle.git_server.specs.Repository.{Repository}
use Rattle.git_server.specs.FetchAnswers.{EndsWithBoundary, IsFetchAnswer, IsFetchAnswerBy, IsFlushed, IsNegotiated}
use Rattle.git_server.specs.FetchAnswers.{negotiates, ready_lines, section, shallow_info, wanted_packet}
use Rattle.git_server.specs.FetchAnswers.{acknowledgments as acknowledgments_of, is_ready_for, nak_or_acks, wanted_refs as wanted_refs_of}
use Rattle.git_host.specs.FetchFacts.{AreParts, FetchFacts, HasPack, IsFetchAnswerWhere, IsFetchAnswerOf, acknowledgments}
use Rattle.git_host.specs.FetchFacts.{last_packet, opening, picked, readiness, sends_pack, wanted_lines, wanted_refs}
use Rattle.git_host.specs.RepositoryFacts.{AreFound, IsPackOf, AreOfRepository}

pub picked_has : (has : ObjectName → Bool) (ids : List ObjectName) → picked (map has ids) ids ≡ filter has ids
picked_has has [] = refl
picked_has has (id ∷ ids) =
    let more = picked_has has ids in
    ap (λ (l : List ObjectName). if has id then id ∷ l else l) more

found_lines : (repo : Repository) (names : List (List ℕ)) (ids : List ObjectName) → AreFound repo.refs names ids
    → wanted_lines ids names ≡ filter_map (wanted_packet repo) names
found_lines repo [] [] h = refl
found_lines repo (name ∷ names) (id ∷ ids) h =
    let line = text_line (wanted_text (wanted_of id name)) in
    let one : filter_map (wanted_packet repo) (name ∷ names) ≡ line ∷ filter_map (wanted_packet repo) names = rw h.0 refl in
    ap (λ (l : List Pkt). line ∷ l) (found_lines repo names ids h.1) ∙ sym one
found_lines repo [] (id ∷ ids) h = absurd h
found_lines repo (name ∷ names) [] h = absurd h

found_section : (repo : Repository) (names : List (List ℕ)) (ids : List ObjectName) → AreFound repo.refs names ids
    → wanted_refs ids names ≡ wanted_refs_of repo names
found_section repo [] [] h = refl
found_section repo (name ∷ names) (id ∷ ids) h = ap (section (codes "wanted-refs")) (found_lines repo (name ∷ names) (id ∷ ids) h)
found_section repo [] (id ∷ ids) h = absurd h
found_section repo (name ∷ names) [] h = absurd h

no_progress : (part more : List ℕ) → 0 < length part → [] ≡ part ++ more → ⊥
no_progress [] more some cut = omega (arith, some)
no_progress (b ∷ bs) more some cut = cc

pub parts_are_bands : (pack : List ℕ) (parts : List Pkt) → AreParts pack [] parts → AreBands OnPack pack parts
parts_are_bands pack [] h = h.0
parts_are_bands pack (p ∷ ps) (inl h) = (h.part, h.more, h.cut, h.some, h.fits, h.is, parts_are_bands h.more ps h.rest)
parts_are_bands pack (p ∷ ps) (inr h) = absurd (no_progress h.part h.more h.some h.cut)

ends_by : (manner : Manner) (pack bytes : List ℕ) (parts : List Pkt) → IsPackOf manner pack bytes → AreParts bytes [] parts
    → EndsPack manner pack (parts ++ last_packet manner ∷ [])
ends_by whole pack bytes parts is h = record {
  bands = parts;
  are_bands = subst (λ (l : List ℕ). AreBands OnPack l parts) is (parts_are_bands bytes parts h);
  packets_are = refl;
}
ends_by broken pack bytes parts is h = record {
  front = bytes;
  back = is.0;
  bands = parts;
  cut = is.1;
  are_bands = parts_are_bands bytes parts h;
  packets_are = refl;
}

module _ (manner : Manner) (repo : Repository) (q : List Arg) (t : FetchFacts) (reports : AreOfRepository manner repo q t) where
  acknowledged : negotiates q ≡ true → acknowledgments q t ≡ acknowledgments_of repo q
  acknowledged asks =
      ap (λ (bs : List Bool). text_line (codes "acknowledgments") ∷ nak_or_acks (picked bs (haves_in q))) (reports.has asks)
      ∙ ap (λ (ids : List ObjectName). text_line (codes "acknowledgments") ∷ nak_or_acks ids) (picked_has repo.has (haves_in q))

  sends_by : (b : Bool) → negotiates q ≡ b → sends_pack q t ≡ (if b then unwrap_or (readiness q t) false else true)
  sends_by b e = ap (λ (x : Bool). if x then unwrap_or (readiness q t) false else true) e

  -- from the boundary on
  after : sends_pack q t ≡ true → (parts : List Pkt) → AreParts t.pack t.progress parts
      → EndsWithBoundary manner repo q
      (shallow_info t.boundary ++ (wanted_refs t.wanted (want_refs_in q) ++ (packfile_header ∷ (parts ++ last_packet manner ∷ []))))
  after sends parts are =
      let tail = parts ++ last_packet manner ∷ [] in
      let packs : IsPackfile manner (repo.pack q) (packfile_header ∷ tail) = record {
        tail = tail;
        ends = ends_by manner (repo.pack q) t.pack parts (reports.pack sends) (subst (λ (l : List ℕ). AreParts t.pack l parts) reports.progress are);
        packets_are = refl;
      } in
      record {
        others = wanted_refs t.wanted (want_refs_in q) ++ (packfile_header ∷ tail);
        holds = record {
          others = packfile_header ∷ tail;
          holds = packs;
          packets_are = ap (λ (l : List Pkt). l ++ (packfile_header ∷ tail)) (found_section repo (want_refs_in q) t.wanted reports.wanted);
        };
        packets_are = ap (λ (lines : List Boundary). shallow_info lines ++ (wanted_refs t.wanted (want_refs_in q) ++ (packfile_header ∷ tail)))
            (reports.boundary sends);
      }

  -- the whole answer, where the pack is part of it
  with_pack : (front : List Pkt) (packets : List Pkt) (h : HasPack manner q t packets) → opening q t ≡ front
      → packets ≡ front ++ (shallow_info t.boundary ++ (wanted_refs t.wanted (want_refs_in q) ++ (packfile_header ∷ (h.parts ++ last_packet manner ∷ []))))
  with_pack front packets h is =
      let tail = packfile_header ∷ (h.parts ++ last_packet manner ∷ []) in
      h.packets_are ∙ append_assoc (opening q t) (shallow_info t.boundary ++ wanted_refs t.wanted (want_refs_in q)) tail
      ∙ ap (λ (l : List Pkt). opening q t ++ l) (append_assoc (shallow_info t.boundary) (wanted_refs t.wanted (want_refs_in q)) tail)
      ∙ ap (λ (l : List Pkt). l ++ (shallow_info t.boundary ++ (wanted_refs t.wanted (want_refs_in q) ++ tail))) is

  opens_by : (b : Bool) → negotiates q ≡ b → opening q t ≡ (if b then acknowledgments q t ++ ready_lines else [])
  opens_by b e = ap (λ (x : Bool). if x then acknowledgments q t ++ ready_lines else []) e

  answers_by : (b r : Bool) (packets : List Pkt) → negotiates q ≡ b → is_ready_for repo q ≡ r → IsFetchAnswerWhere b (Some r) manner q t packets
      → IsFetchAnswerBy b manner repo q packets
  answers_by true true packets e ready h =
      subst (λ (x : Bool). IsNegotiated x (acknowledgments_of repo q) manner repo q packets) (sym ready) (record {
        others = shallow_info t.boundary ++ (wanted_refs t.wanted (want_refs_in q) ++ (packfile_header ∷ (h.1.parts ++ last_packet manner ∷ [])));
        holds = after (sends_by true e ∙ ap (λ (o : Option Bool). unwrap_or o false) (reports.ready e) ∙ ready) h.1.parts h.1.are_parts;
        packets_are = with_pack (acknowledgments_of repo q ++ ready_lines) packets h.1
            (opens_by true e ∙ ap (λ (l : List Pkt). l ++ ready_lines) (acknowledged e));
      })
  answers_by true false packets e ready h =
      subst (λ (x : Bool). IsNegotiated x (acknowledgments_of repo q) manner repo q packets) (sym ready)
      (subst (λ (lines : List Pkt). IsFlushed manner lines packets) (acknowledged e) h.1)
  answers_by false r packets e ready h =
      subst (EndsWithBoundary manner repo q) (sym (with_pack [] packets h (opens_by false e)))
      (after (sends_by false e) h.parts h.are_parts)

  -- whether the pack follows is what the repository answers
  as_ready : (b : Bool) (packets : List Pkt) → negotiates q ≡ b → IsFetchAnswerWhere b (readiness q t) manner q t packets
      → IsFetchAnswerWhere b (Some (is_ready_for repo q)) manner q t packets
  as_ready true packets e h = subst (λ (r : Option Bool). IsFetchAnswerWhere true r manner q t packets) (reports.ready e) h
  as_ready false packets e h = h

  pub reported_answers : (packets : List Pkt) → IsFetchAnswerOf manner q t packets → IsFetchAnswer manner repo q packets
  reported_answers packets h = answers_by (negotiates q) (is_ready_for repo q) packets refl refl (as_ready (negotiates q) packets refl h)
