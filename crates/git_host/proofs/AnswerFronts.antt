-- What was sent of an answer, of whichever command, is the front of a whole one.
use Rattle.std.proofs.Common.{arith, ◌≡◌, ℕ, zero, suc, ◌+◌, ◌-◌, ◌<◌, ◌≤◌, Bool, true, false, ◌||◌, All, List, [], ◌∷◌, ◌++◌, length, map, take, drop}
use Rattle.std.proofs.Common.{replicate}
use Rattle.std.proofs.Common.{Option, Some, None, codes, refl, sym, ap, ◌∙◌, append_assoc, append-nil, length-append, subst, ◌⊎◌, inl, inr}
use Rattle.std.proofs.lemmas.List.{length-replicate, map-append, take-append-drop}
use Rattle.std.proofs.lemmas.List.Elements.{All-append, All-nil, All-replicate}
use Rattle.git_names.specs.ObjectName.{ObjectName}
use Rattle.git_names.specs.declared.object_format.Format.{Format}
use Rattle.git_pkt.specs.Packets.{Pkt, flush}
use Rattle.git_msg.specs.Arguments.{Arg}
use Rattle.git_msg.specs.Asked.{Asked, fetch, ls_refs, object_info, only_negotiates, oids_in, want_refs_in, wants_in}
use Rattle.git_msg.specs.WrittenRequest.{text_line}
use Rattle.git_server.specs.FetchAnswers.{negotiates}
use Rattle.git_server.specs.Packs.{whole}
use Rattle.git_host.specs.Admissions.{AdmissionFacts, IsAdmitted, StandsAtStep, all_there, nothing_reported, step_of}
use Rattle.git_host.specs.FetchFacts.{AreSoundFacts, FetchFacts, before_pack, no_facts}
use Rattle.git_host.specs.FetchPlaces.{StandsAt, asked_of as fetch_of, format_of as fetch_format, is_before_pack, is_pack, place_by, step_at}
use Rattle.git_host.specs.FetchPlaces.{step_of as fetch_step}
use Rattle.git_host.specs.ReferencesPlaces.{IsReferencesAnswerOf, ReferencesFacts, RepresentsReferences, StandsAtReferences, last_reported, no_references}
use Rattle.git_host.specs.ReferencesPlaces.{with_references_end}
use Rattle.git_host.specs.SizesPlaces.{Asks, AtObject, IsSizesAnswerOf, RepresentsSizes, StandsAtSizes, size_line, sizes_asked}
use Rattle.git_host.specs.HostSessions.{Facts, IsAnswerBy, IsFront, IsFrontBy, IsSoFar, nothing_for, of_fetch, of_references, of_sizes}
use Rattle.git_host.specs.HostAnswers.{FailsBy, FailsFetch, Terms, IsAnswering, IsAskedFor, IsCut, asks_wanted, cut_where, found_ids}
use Rattle.git_host.specs.declared.admission.Admission.{Admission as AdmissionMachine}
use Rattle.git_host.specs.declared.admission.AdmissionStep.{AdmissionStep}
use Rattle.git_host.specs.declared.admission.AdmissionStep.TheVariants.{AskWant, AskWantRef, Admitted, Refused}
use Rattle.git_host.specs.declared.fetch_answer.FetchAnswer.{FetchAnswer}
use Rattle.git_host.specs.declared.fetch_answer.Place.{Place}
use Rattle.git_host.specs.declared.fetch_answer.Place.TheVariants.{Header, Have, Nak, Ready, Delimiter, Shallow, ShallowLine, WantedHeader, Wanted, WantedEnd}
use Rattle.git_host.specs.declared.fetch_answer.Place.TheVariants.{PackHeader, Pack, Whole as AtEnd, Broken as AtLoss}
use Rattle.git_host.specs.declared.report.Report.TheVariants.{Failed}
use Rattle.git_host.specs.declared.references_answer.ReferencesAnswer.{ReferencesAnswer}
use Rattle.git_host.specs.declared.references_answer.ReferencesPlace.{ReferencesPlace}
use Rattle.git_host.specs.declared.references_answer.ReferencesPlace.TheVariants.{First, Entries, AfterUnborn, Whole as AllReferences}
use Rattle.git_host.specs.declared.sizes_answer.SizesAnswer.{SizesAnswer}
use Rattle.git_host.specs.declared.sizes_answer.SizesPlace.{SizesPlace}
use Rattle.git_host.specs.declared.sizes_answer.SizesPlace.TheVariants.{Header as SizesHeader, Object, Whole as AllSizes}
use Rattle.git_host.specs.declared.host_answer.Failing.{Failing}
use Rattle.git_host.specs.declared.host_answer.Failing.TheVariants.{NotAsked as FailingUnasked, Packet as FailingPacket, CutShort}
use Rattle.git_host.specs.declared.host_answer.HostAnswer.{HostAnswer}
use Rattle.git_host.specs.declared.host_answer.HostAnswer.TheVariants.{Admission, Fetch, References, Sizes, Whole}
use Rattle.git_host.proofs.FetchFronts.{Completes, absent_more, completes, have_fits, ready_fits, shallow_fits}
use Rattle.git_host.proofs.FetchMoves.{begins, none_sound, sound_so}
use Rattle.git_host.proofs.HostAnswerMoves.{all_found, fetch_gives, gives_same}
use Rattle.git_host.proofs.ReferencesMoves.{after_refs, first_entries, sound_to_the_end}
use Rattle.git_host.proofs.SizesMoves.{after_size, after_size_header, size_there}

no_more : {X : Type 0} (xs : List X) → IsFront xs xs
no_more xs = ([], sym (append-nil xs))

-- an object name of the format
abbrev some_id : Format → ObjectName
some_id format = record { format = format; bytes = replicate 32 0 }

no_loss : (b : Bool) → place_by b ≡ AtLoss → ⊥
no_loss true e = cc
no_loss false e = cc

-- ---- a fetch whose wants are looked up
module _ (format : Format) (q : List Arg) where
  -- the store has them all, these of the wanted references and those that were not reported
  with_all : (a : AdmissionFacts) (kept fresh : List ObjectName) → IsFront a.wants (all_there (wants_in q)) → a.found ≡ map Some kept
      → length (kept ++ fresh) ≡ length (want_refs_in q) → All (λ id. id.format ≡ format) (kept ++ fresh) → Completes q (no_facts (kept ++ fresh)) []
      → IsFrontBy format (fetch q) (of_fetch a (no_facts kept)) []
  with_all a kept fresh wants found count of c = record {
    later =
        of_fetch (record { wants = all_there (wants_in q); found = map Some (kept ++ fresh) })
        (absent_more c.absent c.ready c.ended (no_facts (kept ++ fresh)));
    grows = (
      record {
        wants = wants;
        found = (map Some fresh, map-append Some kept fresh ∙ ap (λ (l : List (Option ObjectName)). l ++ map Some fresh) (sym found));
      },
      record {
        has = (c.absent, refl);
        ready = λ ready is. absurd (cc);
        boundary = ([], refl);
        boundary_ended = λ is. absurd (cc);
        wanted = (fresh, refl);
        pack = ([], refl);
        progress = ([], refl);
      },
    );
    more = c.more;
    answer = (
      record { there = refl; found = refl; all = count; of_format = of },
      record {
        sound = sound_so format q (no_facts (kept ++ fresh)) (absent_more c.absent c.ready c.ended (no_facts (kept ++ fresh))) refl refl
            (none_sound format q (kept ++ fresh));
        answer = c.answer;
      },
    );
  }

  with_kept : (a : AdmissionFacts) (kept : List ObjectName) → IsFront a.wants (all_there (wants_in q)) → a.found ≡ map Some kept
      → length kept ≤ length (want_refs_in q) → All (λ id. id.format ≡ format) kept → IsFrontBy format (fetch q) (of_fetch a (no_facts kept)) []
  with_kept a kept wants found few of =
      let left = length (want_refs_in q) - length kept in
      let fresh = replicate left (some_id format) in
      let count : length (kept ++ fresh) ≡ length (want_refs_in q) = omega (arith, length-append kept fresh, length-replicate left (some_id format), few) in
      with_all a kept fresh wants found count
      (All-append (λ (id : ObjectName). id.format ≡ format) kept fresh of
      (All-replicate (λ (id : ObjectName). id.format ≡ format) left (some_id format) refl))
      (completes (place_by (negotiates q)) q (no_facts (kept ++ fresh)) [] count (no_loss (negotiates q))
      (begins q (kept ++ fresh) (place_by (negotiates q)) refl))

  kept_so_far : (a : AdmissionFacts) (kept : List ObjectName) (t : FetchFacts) → t ≡ no_facts (found_ids a.found) → a.found ≡ map Some kept
      → IsFrontBy format (fetch q) (of_fetch a (no_facts kept)) [] → IsFrontBy format (fetch q) (of_fetch a t) []
  kept_so_far a kept t is found h =
      subst (λ (s : FetchFacts). IsFrontBy format (fetch q) (of_fetch a s) []) (sym (is ∙ ap no_facts (ap found_ids found ∙ all_found kept))) h

  admission_front : (step : AdmissionStep) (a : AdmissionFacts) (kept : List ObjectName) (t : FetchFacts) → asks_wanted step ≡ true
      → StandsAtStep step format q a kept → t ≡ no_facts (found_ids a.found) → IsFrontBy format (fetch q) (of_fetch a t) []
  admission_front (AskWant at) a kept t asks h is =
      kept_so_far a [] t is h.none_found (with_kept a [] (
        all_there (drop at (wants_in q)),
        ap all_there (sym (take-append-drop at (wants_in q))) ∙ map-append (λ (id : ObjectName). true) (take at (wants_in q)) (drop at (wants_in q))
            ∙ ap (λ (l : List Bool). l ++ all_there (drop at (wants_in q))) (sym h.so_far),
      ) h.none_found (omega arith) (All-nil (λ (id : ObjectName). id.format ≡ format)))
  admission_front (AskWantRef at) a kept t asks h is =
      kept_so_far a kept t is h.found (with_kept a kept (subst (IsFront a.wants) h.there (no_more a.wants)) h.found
      (omega (arith, h.within, h.so_far)) h.of_format)
  admission_front Admitted a kept t asks h is = absurd (cc)
  admission_front (Refused kind) a kept t asks h is = absurd (cc)

  admission_so_far : (step : AdmissionStep) (a : AdmissionFacts) (kept : List ObjectName) (t : FetchFacts) → StandsAtStep step format q a kept
      → t ≡ no_facts (found_ids a.found) → IsSoFar format (fetch q) (of_fetch a t) []
  admission_so_far (AskWant at) a kept t h is = inl (admission_front (AskWant at) a kept t refl h is)
  admission_so_far (AskWantRef at) a kept t h is = inl (admission_front (AskWantRef at) a kept t refl h is)
  admission_so_far Admitted a kept t h is =
      inl (kept_so_far a kept t is h.found (with_kept a kept (subst (IsFront a.wants) h.there (no_more a.wants)) h.found (omega (arith, h.all)) h.of_format))
  admission_so_far (Refused kind) a kept t h is = inr (inr (kind, h.1, refl))

-- ---- a fetch that is answered

lost : (place : Place) → (place ≡ AtLoss) ⊎ (place ≡ AtLoss → ⊥)
lost Header = inr (λ e. cc)
lost (Have next any) = inr (λ e. cc)
lost Nak = inr (λ e. cc)
lost Ready = inr (λ e. cc)
lost Delimiter = inr (λ e. cc)
lost (Shallow any) = inr (λ e. cc)
lost (ShallowLine line) = inr (λ e. cc)
lost WantedHeader = inr (λ e. cc)
lost (Wanted next) = inr (λ e. cc)
lost WantedEnd = inr (λ e. cc)
lost PackHeader = inr (λ e. cc)
lost Pack = inr (λ e. cc)
lost AtEnd = inr (λ e. cc)
lost AtLoss = inl refl

module _ (format : Format) (q : List Arg) (a : AdmissionFacts) (t : FetchFacts) (front : List Pkt) (admitted : IsAdmitted format q a t.wanted)
    (sound : AreSoundFacts format q t) where
  front_of : Completes q t front → IsFrontBy format (fetch q) (of_fetch a t) front
  front_of c = record {
    later = of_fetch a (absent_more c.absent c.ready c.ended t);
    grows = (
      record { wants = no_more a.wants; found = no_more a.found },
      record {
        has = (c.absent, refl);
        ready = c.stays;
        boundary = no_more t.boundary;
        boundary_ended = c.grows;
        wanted = no_more t.wanted;
        pack = no_more t.pack;
        progress = no_more t.progress;
      },
    );
    more = c.more;
    answer = (admitted, record { sound = sound_so format q t (absent_more c.absent c.ready c.ended t) refl refl sound; answer = c.answer });
  }

  fetch_front : (place : Place) → (place ≡ AtLoss → ⊥) → StandsAt place q t front → IsFrontBy format (fetch q) (of_fetch a t) front
  fetch_front place unlost stands = front_of (completes place q t front admitted.all unlost stands)

  fetch_so_far : (place : Place) → StandsAt place q t front → IsSoFar format (fetch q) (of_fetch a t) front
  fetch_so_far place stands =
      elim (lost place) [
        | inl is ↦ inr (inl (
          admitted,
          record {
            sound = sound;
            answer = subst (λ (p : Place). StandsAt p q t front) is stands;
          },
        ))
        | inr unlost ↦ inl (fetch_front place unlost stands)
      ]

-- something that comes before the pack is asked
before_place : (place : Place) (alone : Bool) (q : List Arg) (t : FetchFacts) (given : List Pkt) → is_before_pack (step_at alone place) ≡ true
    → StandsAt place q t given → (place ≡ AtLoss → ⊥) × (length given ≤ length (before_pack q t))
before_place (Have next any) alone q t given is h = (λ e. cc, have_fits next any q t given h)
before_place Ready alone q t given is h = (λ e. cc, ready_fits q t given h)
before_place (Shallow any) alone q t given is h = (λ e. cc, shallow_fits any q t given h)
before_place Header alone q t given is h = absurd (cc)
before_place Nak alone q t given is h = absurd (cc)
before_place Delimiter alone q t given is h = absurd (cc)
before_place (ShallowLine line) alone q t given is h = absurd (cc)
before_place WantedHeader alone q t given is h = absurd (cc)
before_place (Wanted next) alone q t given is h = absurd (cc)
before_place WantedEnd alone q t given is h = absurd (cc)
before_place PackHeader alone q t given is h = absurd (cc)
before_place Pack alone q t given is h = absurd (cc)
before_place AtEnd alone q t given is h = absurd (cc)
before_place AtLoss alone q t given is h = absurd (cc)

-- ---- references

refs_front : (place : ReferencesPlace) (format : Format) (q : List Arg) (t : ReferencesFacts) (last : Option (List ℕ)) (given : List Pkt)
    → StandsAtReferences place format q t last given → (more : List Pkt) × IsReferencesAnswerOf format q (with_references_end t) (given ++ more)
refs_front First format q t last given h = (flush ∷ [], after_refs format q t last given (first_entries format q t last given h))
refs_front Entries format q t last given h = (flush ∷ [], after_refs format q t last given h.1)
refs_front AfterUnborn format q t last given h = (flush ∷ [], after_refs format q t last given h.1)
refs_front AllReferences format q t last given h = (
  [],
  subst (IsReferencesAnswerOf format q (with_references_end t)) (sym (append-nil given)) (record {
    sound = sound_to_the_end format t h.sound;
    ended = refl;
    packets_are = h.packets_are;
  }),
)

-- ---- sizes

record CompletesSizes (q : List Arg) (sizes : List (Option ℕ)) (given : List Pkt) : Type 0 where
  unknown : List (Option ℕ)
  more : List Pkt
  answer : IsSizesAnswerOf q (sizes ++ unknown) (given ++ more)

-- the next size and its line, taken out of the front
size_first : (q : List Arg) (sizes : List (Option ℕ)) (given : List Pkt) (size : Option ℕ) (line : Pkt) (unknown : List (Option ℕ))
    (more : List Pkt) → IsSizesAnswerOf q ((sizes ++ size ∷ []) ++ unknown) ((given ++ line ∷ []) ++ more)
    → IsSizesAnswerOf q (sizes ++ (size ∷ unknown)) (given ++ (line ∷ more))
size_first q sizes given size line unknown more h =
    subst (λ (ss : List (Option ℕ)). IsSizesAnswerOf q ss (given ++ (line ∷ more))) (append_assoc sizes (size ∷ []) unknown)
    (subst (IsSizesAnswerOf q ((sizes ++ size ∷ []) ++ unknown)) (append_assoc given (line ∷ []) more) h)

-- so many objects are left
from_object : (left at : ℕ) (q : List Arg) (sizes : List (Option ℕ)) (given : List Pkt) → at + left ≡ length (oids_in q) → AtObject at q sizes given
    → CompletesSizes q sizes given
from_object zero at q sizes given count h = record {
  unknown = [];
  more = flush ∷ [];
  answer = subst (λ (ss : List (Option ℕ)). IsSizesAnswerOf q ss (given ++ flush ∷ [])) (sym (append-nil sizes)) (record {
    all = omega (arith, h.so_far, count);
    packets_are = ap (λ (l : List Pkt). l ++ flush ∷ []) h.given_is;
  });
}
from_object (suc left) at q sizes given count h =
    let within : at < length (oids_in q) = omega (arith, count) in
    let (id, here) = size_there q at within in
    let line = size_line None id in
    let c = from_object left (at + 1) q (sizes ++ None ∷ []) (given ++ line ∷ []) (omega (arith, count)) (after_size at q sizes given None id h within here) in
    record {
      unknown = None ∷ c.unknown;
      more = line ∷ c.more;
      answer = size_first q sizes given None line c.unknown c.more c.answer;
    }

sizes_complete : (place : SizesPlace) (q : List Arg) (sizes : List (Option ℕ)) (given : List Pkt) → StandsAtSizes place q sizes given
    → CompletesSizes q sizes given
sizes_complete SizesHeader q sizes given h =
    let header = text_line (codes "size") in
    let c = from_object (length (oids_in q)) 0 q sizes (given ++ header ∷ []) (omega arith) (after_size_header q sizes given h.0 h.1) in
    record {
      unknown = c.unknown;
      more = header ∷ c.more;
      answer = subst (IsSizesAnswerOf q (sizes ++ c.unknown)) (append_assoc given (header ∷ []) c.more) c.answer;
    }
sizes_complete (Object at) q sizes given h = from_object (length (oids_in q) - at) at q sizes given (omega (arith, h.within)) h
sizes_complete AllSizes q sizes given h = record {
  unknown = [];
  more = [];
  answer = subst (λ (ss : List (Option ℕ)). IsSizesAnswerOf q ss (given ++ [])) (sym (append-nil sizes))
      (subst (IsSizesAnswerOf q sizes) (sym (append-nil given)) h);
}

-- ---- any of them

whole_front : (format : Format) (q : Asked) (f : Facts) (front : List Pkt) → IsAnswerBy whole format q f front → IsFrontBy format q f front
whole_front format (ls_refs q) (of_references t) front h = record {
  later = of_references t;
  grows = record { unborn = λ target there. there; refs = no_more t.refs; ended = λ is. is };
  more = [];
  answer = subst (IsReferencesAnswerOf format q t) (sym (append-nil front)) h;
}
whole_front format (fetch q) (of_fetch a t) front h = record {
  later = of_fetch a t;
  grows = (
    record { wants = no_more a.wants; found = no_more a.found },
    record {
      has = no_more t.has;
      ready = λ ready is. is;
      boundary = no_more t.boundary;
      boundary_ended = λ is. is;
      wanted = no_more t.wanted;
      pack = no_more t.pack;
      progress = no_more t.progress;
    },
  );
  more = [];
  answer = subst (IsAnswerBy whole format (fetch q) (of_fetch a t)) (sym (append-nil front)) h;
}
whole_front format (object_info q) (of_sizes sizes) front h = record {
  later = of_sizes sizes;
  grows = no_more sizes;
  more = [];
  answer = subst (IsSizesAnswerOf q sizes) (sym (append-nil front)) h;
}
whole_front format (ls_refs q) (of_fetch a t) front h = absurd h
whole_front format (ls_refs q) (of_sizes sizes) front h = absurd h
whole_front format (fetch q) (of_references t) front h = absurd h
whole_front format (fetch q) (of_sizes sizes) front h = absurd h
whole_front format (object_info q) (of_references t) front h = absurd h
whole_front format (object_info q) (of_fetch a t) front h = absurd h

not_both : true ≡ false → ⊥
not_both e = cc

neither : (a b : Bool) → a ≡ false → b ≡ false → (a || b) ≡ true → ⊥
neither true b first second either = not_both first
neither false b first second either = not_both (sym either ∙ second)

module _ {A : Type 0} where
  references_front : (answer : ReferencesAnswer A) (format : Format) (q : List Arg) (t : ReferencesFacts) (front : List Pkt) → answer.format ≡ format
      → RepresentsReferences q t front answer → IsFrontBy format (ls_refs q) (of_references t) front
  references_front answer format q t front same h =
      let (more, is) = refs_front answer.place answer.format q t (last_reported answer) front h.stands in
      record {
        later = of_references (with_references_end t);
        grows = record { unborn = λ target there. there; refs = no_more t.refs; ended = λ is. refl };
        more = more;
        answer = subst (λ (m : Format). IsReferencesAnswerOf m q (with_references_end t) (front ++ more)) same is;
      }

  sizes_front : (answer : SizesAnswer A) (format : Format) (q : List Arg) (sizes : List (Option ℕ)) (front : List Pkt) → sizes_asked answer ≡ q
      → RepresentsSizes sizes front answer → IsFrontBy format (object_info q) (of_sizes sizes) front
  sizes_front answer format q sizes front same h =
      let c = sizes_complete answer.place q sizes front (subst (λ (r : List Arg). StandsAtSizes answer.place r sizes front) same h) in
      record { later = of_sizes (sizes ++ c.unknown); grows = (c.unknown, refl); more = c.more; answer = c.answer }

  pub answering_so_far : (m : Terms) (answer : HostAnswer A) (q : Asked) (f : Facts) (front : List Pkt) → IsAnswering m answer q f front
      → IsSoFar m.format q f front
  answering_so_far m (Admission admission) (fetch q) (of_fetch a t) front h =
      subst (λ (l : List Pkt). IsSoFar m.format (fetch q) (of_fetch a t) l) (sym h.none)
      (admission_so_far m.format q admission.step a admission.wanted.items t
      (subst (λ (format : Format). StandsAtStep admission.step format q a admission.wanted.items) h.format_is
      (subst (λ (r : List Arg). StandsAtStep admission.step admission.format r a admission.wanted.items) h.asked h.represents)) h.facts)
  answering_so_far m (Fetch answer) (fetch q) (of_fetch a t) front h =
      fetch_so_far m.format q a t front h.admitted
      (subst (λ (format : Format). AreSoundFacts format q t) h.format_is
      (subst (λ (r : List Arg). AreSoundFacts (fetch_format answer) r t) h.asked h.represents.sound))
      answer.place (subst (λ (r : List Arg). StandsAt answer.place r t front) h.asked h.represents.stands)
  answering_so_far m (References answer) (ls_refs q) (of_references t) front h = inl (references_front answer m.format q t front h.format_is h.represents)
  answering_so_far m (Sizes answer) (object_info q) (of_sizes sizes) front h = inl (sizes_front answer m.format q sizes front h.asked h.represents)
  answering_so_far m Whole q f front h = inl (whole_front m.format q f front h)
  answering_so_far m (Admission admission) (fetch q) (of_references t) front h = absurd h
  answering_so_far m (Admission admission) (fetch q) (of_sizes sizes) front h = absurd h
  answering_so_far m (Admission admission) (ls_refs q) f front h = absurd h
  answering_so_far m (Admission admission) (object_info q) f front h = absurd h
  answering_so_far m (Fetch answer) (fetch q) (of_references t) front h = absurd h
  answering_so_far m (Fetch answer) (fetch q) (of_sizes sizes) front h = absurd h
  answering_so_far m (Fetch answer) (ls_refs q) f front h = absurd h
  answering_so_far m (Fetch answer) (object_info q) f front h = absurd h
  answering_so_far m (References answer) (ls_refs q) (of_fetch a t) front h = absurd h
  answering_so_far m (References answer) (ls_refs q) (of_sizes sizes) front h = absurd h
  answering_so_far m (References answer) (fetch q) f front h = absurd h
  answering_so_far m (References answer) (object_info q) f front h = absurd h
  answering_so_far m (Sizes answer) (object_info q) (of_references t) front h = absurd h
  answering_so_far m (Sizes answer) (object_info q) (of_fetch a t) front h = absurd h
  answering_so_far m (Sizes answer) (ls_refs q) f front h = absurd h
  answering_so_far m (Sizes answer) (fetch q) f front h = absurd h

  -- ---- what is asked cannot be had

  pub cut_admission : (a : AdmissionMachine A) → asks_wanted (step_of a) ≡ true → IsCut (Admission a)
  cut_admission a asks m (fetch q) (of_fetch x t) front h = (
    subst (λ (l : List Pkt). IsFrontBy m.format (fetch q) (of_fetch x t) l) (sym h.none)
        (admission_front m.format q a.step x a.wanted.items t asks
        (subst (λ (format : Format). StandsAtStep a.step format q x a.wanted.items) h.format_is
        (subst (λ (r : List Arg). StandsAtStep a.step a.format r x a.wanted.items) h.asked h.represents)) h.facts),
    omega (arith, ap length h.none),
  )
  cut_admission a asks m (fetch q) (of_references t) front h = absurd h
  cut_admission a asks m (fetch q) (of_sizes sizes) front h = absurd h
  cut_admission a asks m (ls_refs q) f front h = absurd h
  cut_admission a asks m (object_info q) f front h = absurd h

  pub cut_fetch : (a : FetchAnswer A) → is_before_pack (fetch_step a) ≡ true → IsCut (Fetch a)
  cut_fetch a asks m (fetch q) (of_fetch x t) front h =
      let stands = subst (λ (r : List Arg). StandsAt a.place r t front) h.asked h.represents.stands in
      let (unlost, fits) = before_place a.place (only_negotiates (fetch_of a)) q t front asks stands in (
        fetch_front m.format q x t front h.admitted
            (subst (λ (format : Format). AreSoundFacts format q t) h.format_is
            (subst (λ (r : List Arg). AreSoundFacts (fetch_format a) r t) h.asked h.represents.sound)) a.place unlost stands,
        fits,
      )
  cut_fetch a asks m (fetch q) (of_references t) front h = absurd h
  cut_fetch a asks m (fetch q) (of_sizes sizes) front h = absurd h
  cut_fetch a asks m (ls_refs q) f front h = absurd h
  cut_fetch a asks m (object_info q) f front h = absurd h

  pub cut_references : (a : ReferencesAnswer A) → IsCut (References a)
  cut_references a m (ls_refs q) (of_references t) front h = (references_front a m.format q t front h.format_is h.represents, tt)
  cut_references a m (ls_refs q) (of_fetch x t) front h = absurd h
  cut_references a m (ls_refs q) (of_sizes sizes) front h = absurd h
  cut_references a m (fetch q) f front h = absurd h
  cut_references a m (object_info q) f front h = absurd h

  pub cut_sizes : (a : SizesAnswer A) → IsCut (Sizes a)
  cut_sizes a m (object_info q) (of_sizes sizes) front h = (sizes_front a m.format q sizes front h.asked h.represents, tt)
  cut_sizes a m (object_info q) (of_references t) front h = absurd h
  cut_sizes a m (object_info q) (of_fetch x t) front h = absurd h
  cut_sizes a m (ls_refs q) f front h = absurd h
  cut_sizes a m (fetch q) f front h = absurd h

  -- by whether something was asked
  cut_by : (answer : HostAnswer A) (asked : Bool) (bytes : List ℕ) → (asked ≡ true → IsCut answer) → (asked ≡ false → ¬ IsAskedFor Failed answer)
      → FailsBy answer (cut_where asked) bytes answer
  cut_by answer true bytes cut unasked = cut refl
  cut_by answer false bytes cut unasked = (refl, unasked refl)

  pub admission_fails : (old : HostAnswer A) (a : AdmissionMachine A) (asked : Bool) (r : Failing) (bytes : List ℕ) → old ≡ Admission a
      → r ≡ cut_where asked → asked ≡ asks_wanted (step_of a) → FailsBy old r bytes (Admission a)
  admission_fails old a asked r bytes was is asks =
      subst (λ (o : HostAnswer A). FailsBy o r bytes (Admission a)) (sym was)
      (subst (λ (x : Failing). FailsBy (Admission a) x bytes (Admission a)) (sym is)
      (cut_by (Admission a) asked bytes (λ yes. cut_admission a (sym asks ∙ yes)) (λ no yes. not_both (sym yes ∙ sym asks ∙ no))))

  pub sizes_fail : (old : HostAnswer A) (a : SizesAnswer A) (asked : Bool) (r : Failing) (bytes : List ℕ) → old ≡ Sizes a
      → r ≡ cut_where asked → Asks a asked → FailsBy old r bytes (Sizes a)
  sizes_fail old a asked r bytes was is asks =
      subst (λ (o : HostAnswer A). FailsBy o r bytes (Sizes a)) (sym was)
      (subst (λ (x : Failing). FailsBy (Sizes a) x bytes (Sizes a)) (sym is) (by_asked asked asks))
    where
      by_asked : (b : Bool) → Asks a b → FailsBy (Sizes a) (cut_where b) bytes (Sizes a)
      by_asked true asks = cut_sizes a
      by_asked false none = (refl, λ (at, is). none at is)

  pub references_fail : (old : HostAnswer A) (a : ReferencesAnswer A) → old ≡ References a → IsCut old
  references_fail old a was = subst IsCut (sym was) (cut_references a)

  pub fetch_fails : (old : HostAnswer A) (a b : FetchAnswer A) (r : Failing) (bytes : List ℕ) → old ≡ Fetch a → FailsFetch a r bytes b
      → FailsBy old r bytes (Fetch b)
  fetch_fails old a b CutShort bytes was fails = subst IsCut (sym was) (cut_fetch a fails)
  fetch_fails old a b FailingPacket bytes was fails =
      subst (λ (o : HostAnswer A). FailsBy o FailingPacket bytes (Fetch b)) (sym was)
      (gives_same (Fetch a) (Fetch b) bytes (fetch_gives a b (λ t. t) bytes (λ t. refl) fails.0), fails.1)
  fetch_fails old a b FailingUnasked bytes was fails =
      subst (λ (o : HostAnswer A). FailsBy o FailingUnasked bytes (Fetch b)) (sym was)
      (ap Fetch fails.0, λ asked. neither (is_before_pack (fetch_step a)) (is_pack (fetch_step a)) fails.1 fails.2 asked)

-- the beginning of an answer
pub start_so_far : (format : Format) (q : Asked) → IsSoFar format q (nothing_for q) []
start_so_far format (ls_refs q) =
    let (more, is) = refs_front First format q no_references None [] (record { nothing = refl; last_is = refl; given_is = refl }) in
    inl (record {
      later = of_references (with_references_end no_references);
      grows = record { unborn = λ target there. there; refs = ([], refl); ended = λ is. refl };
      more = more;
      answer = is;
    })
start_so_far format (fetch q) =
    inl (with_kept format q nothing_reported [] (all_there (wants_in q), refl) refl (omega arith) (All-nil (λ (id : ObjectName). id.format ≡ format)))
start_so_far format (object_info q) =
    let c = sizes_complete SizesHeader q [] [] (refl, refl) in
    inl (record { later = of_sizes c.unknown; grows = (c.unknown, refl); more = c.more; answer = c.answer })
