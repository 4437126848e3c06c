-- One reference more, and the end.
use Rattle.std.proofs.Common.{arith, ◌≡◌, ℕ, ◌-◌, ◌<◌, Bool, true, false, List, [], ◌∷◌, ◌++◌, length, map}
use Rattle.std.proofs.Common.{get_or, Option, Some, None, codes, if◌then◌else◌, refl, sym, ap, ◌∙◌, append_assoc, append-nil, subst}
use Rattle.std.specs.List.{filter}
use Rattle.std.specs.Option.{ForSome}
use Rattle.std.specs.Prelude.{◌≢◌, IsSome}
use Rattle.std.proofs.lemmas.List.Elements.{All-nil, All-pop, All-push}
use Rattle.std.proofs.lemmas.Option.{none-some}
use Rattle.std.proofs.lemmas.Slice.Eq.{bytes_eq-Decides}
use Rattle.git_names.specs.RefName.{IsRefName}
use Rattle.git_names.specs.declared.object_format.Format.{Format}
use Rattle.git_pkt.specs.Packets.{Pkt, flush}
use Rattle.git_msg.specs.Arguments.{Arg}
use Rattle.git_msg.specs.Asked.{ref_prefixes_in, peel_in, symrefs_in}
use Rattle.git_msg.specs.Kept.{Kept}
use Rattle.git_msg.specs.Prefixes.{OrdersPrefixes, is_shown}
use Rattle.git_server.specs.Answers.{asks_for_unborn, reference_packet, shown_refs, unborn_packet, unborn_packets}
use Rattle.git_server.specs.Repository.{Entry, IsNamed, IsOfFormat, IsRising, IsUnbornHead, comes_before}
use Rattle.git_host.specs.ReferencesPlaces.{AreSoundReferences, AtEntries, AtFirst, IsAlike, IsLast, IsReferencesAnswerOf, ReferencesFacts}
use Rattle.git_host.specs.ReferencesPlaces.{StandsAtReferences, after_entry, comes_after, no_references, packets_so_far, refuses_head_at, with_ref}
use Rattle.git_host.specs.ReferencesPlaces.{with_references_end, with_unborn}
use Rattle.git_host.specs.declared.references_answer.ReferencesPlace.{ReferencesPlace}
use Rattle.git_host.specs.declared.references_answer.ReferencesPlace.TheVariants.{First, Entries, AfterUnborn, Whole}
use Rattle.git_host.proofs.Picked.{length_more, map_more}
use Rattle.git_server.proofs.Rising.{last_is, last_rises, rising_more}

filter_by : {X : Type 0} (y : X) (all kept last : List X) → all ≡ kept ++ last → (b : Bool)
    → (if b then y ∷ all else all) ≡ (if b then y ∷ kept else kept) ++ last
filter_by {X = X} y all kept last more true = ap (λ (l : List X). y ∷ l) more
filter_by y all kept last more false = more

filter_more : {X : Type 0} (p : X → Bool) (xs : List X) (x : X) (b : Bool) → p x ≡ b
    → filter p (xs ++ x ∷ []) ≡ filter p xs ++ (if b then x ∷ [] else [])
filter_more p [] x b e = ap (λ (c : Bool). if c then x ∷ [] else []) e
filter_more p (y ∷ ys) x b e =
    filter_by y (filter p (ys ++ x ∷ [])) (filter p ys) (if b then x ∷ [] else []) (filter_more p ys x b e) (p y)

-- the request as it is kept, before its prefixes are put in order and after
pub ordered_alike : (q : List Arg) (old new : Kept (List Arg)) → IsAlike q old.asked → OrdersPrefixes old new → IsAlike q new.asked
ordered_alike q old new h orders = record {
  symrefs = orders.symrefs ∙ h.symrefs;
  peel = orders.peel ∙ h.peel;
  unborn = orders.unborn ∙ h.unborn;
  alike = λ name. h.alike name ∙ orders.alike name;
}

pub same_alike : (q : List Arg) → IsAlike q q
same_alike q = record { symrefs = refl; peel = refl; unborn = refl; alike = λ name. refl }

pub shown_alike : (q kept : List Arg) (name : List ℕ) (b : Bool) → IsAlike q kept → is_shown (ref_prefixes_in kept) name ≡ b
    → is_shown (ref_prefixes_in q) name ≡ b
shown_alike q kept name b h is = h.alike name ∙ is

pub packet_alike : (q kept : List Arg) (entry : Entry) → IsAlike q kept
    → reference_packet (symrefs_in kept) (peel_in kept) entry ≡ reference_packet (symrefs_in q) (peel_in q) entry
packet_alike q kept entry h = ap (λ (b : Bool). reference_packet b (peel_in kept) entry) h.symrefs
    ∙ ap (λ (b : Bool). reference_packet (symrefs_in q) b entry) h.peel

pub asks_alike : (q kept : List Arg) (b : Bool) → IsAlike q kept → asks_for_unborn kept ≡ b → asks_for_unborn q ≡ b
asks_alike q kept b h is = rw (h.symrefs, h.unborn, ← h.alike (codes "HEAD")) at is

-- the reference added last is the last one
last_before : (refs : List Entry) (last : Option (List ℕ)) (entry d : Entry) → IsLast refs last → comes_after last entry.name ≡ true
    → 0 < length refs → comes_before (get_or refs (length refs - 1) d).name entry.name ≡ true
last_before refs None entry d none after some = absurd (omega (arith, some, ap length none))
last_before refs (Some name) entry d (front, last, is, named) after some =
    let at : length refs - 1 ≡ length front = omega (arith, ap length is, length_more front last) in
    let here : get_or refs (length refs - 1) d ≡ last =
    ap (λ (l : List Entry). get_or l (length refs - 1) d) is ∙ last_is front last (length refs - 1) d at in
    ap (λ (e : Entry). comes_before e.name entry.name) here ∙ ap (λ (n : List ℕ). comes_before n entry.name) named ∙ after

more_rising : (t : ReferencesFacts) (last : Option (List ℕ)) (entry : Entry) → IsRising t.refs → IsLast t.refs last → comes_after last entry.name ≡ true
    → IsRising (t.refs ++ entry ∷ [])
more_rising t last entry rising is after =
    rising_more (λ a b. comes_before a.name b.name ≡ true) t.refs entry rising (λ d some. last_before t.refs last entry d is after some)

true_false : true ≡ false → ⊥
true_false e = cc

-- with a reference that does not come after the last, the names do not rise
not_rising : (t : ReferencesFacts) (last : Option (List ℕ)) (entry : Entry) → IsLast t.refs last → comes_after last entry.name ≡ false
    → IsRising (t.refs ++ entry ∷ []) → ⊥
not_rising t None entry is after rising = absurd (cc)
not_rising t (Some name) entry (front, last, is, named) after rising =
    let some : 0 < length t.refs = omega (arith, ap length is, length_more front last) in
    let at : length t.refs - 1 ≡ length front = omega (arith, ap length is, length_more front last) in
    let here : get_or t.refs (length t.refs - 1) last ≡ last =
    ap (λ (l : List Entry). get_or l (length t.refs - 1) last) is ∙ last_is front last (length t.refs - 1) last at in
    let less = last_rises (λ a b. comes_before a.name b.name ≡ true) t.refs entry rising last some in
    let less_here : comes_before last.name entry.name ≡ true = sym (ap (λ (e : Entry). comes_before e.name entry.name) here) ∙ less in
    absurd (true_false (sym less_here ∙ ap (λ (n : List ℕ). comes_before n entry.name) named ∙ after))

-- with one reference more, which is no second `HEAD`, what was reported stays sound
pub one_more_sound : (format : Format) (t : ReferencesFacts) (last : Option (List ℕ)) (entry : Entry) → AreSoundReferences format t → IsLast t.refs last
    → comes_after last entry.name ≡ true → IsNamed entry.name entry.target → IsOfFormat format entry
    → ForSome t.unborn (λ target. entry.name ≢ codes "HEAD") → AreSoundReferences format (with_ref entry t)
one_more_sound format t last entry h is after named of_format other = record {
  rising = more_rising t last entry h.rising is after;
  named = All-push (λ (ref : Entry). IsNamed ref.name ref.target) t.refs entry h.named named;
  of_format = All-push (IsOfFormat format) t.refs entry h.of_format of_format;
  unborn = λ target there. record {
    named = (h.unborn target there).named;
    no_head = All-push (λ (ref : Entry). ref.name ≢ codes "HEAD") t.refs entry (h.unborn target there).no_head (other target there);
  };
}

-- the end changes nothing of the references
pub sound_to_the_end : (format : Format) (t : ReferencesFacts) → AreSoundReferences format t → AreSoundReferences format (with_references_end t)
sound_to_the_end format t h = record { rising = h.rising; named = h.named; of_format = h.of_format; unborn = h.unborn }

module _ (format : Format) (q : List Arg) (t : ReferencesFacts) (last : Option (List ℕ)) (given : List Pkt) (at : AtEntries format q t last given) where
  refs_on : (entry : Entry) (b : Bool) → is_shown (ref_prefixes_in q) entry.name ≡ b
      → packets_so_far q (with_ref entry t) ≡ packets_so_far q t ++ (if b then reference_packet (symrefs_in q) (peel_in q) entry ∷ [] else [])
  refs_on entry true e =
      ap (λ (refs : List Entry). unborn_packets q t.unborn ++ map (reference_packet (symrefs_in q) (peel_in q)) refs)
      (filter_more (λ (r : Entry). is_shown (ref_prefixes_in q) r.name) t.refs entry true e)
      ∙ ap (λ (l : List Pkt). unborn_packets q t.unborn ++ l) (map_more (reference_packet (symrefs_in q) (peel_in q)) (shown_refs
      (ref_prefixes_in q) t.refs) entry)
      ∙ sym (append_assoc (unborn_packets q t.unborn) (map (reference_packet (symrefs_in q) (peel_in q)) (shown_refs (ref_prefixes_in q) t.refs))
      (reference_packet (symrefs_in q) (peel_in q) entry ∷ []))
  refs_on entry false e =
      ap (λ (refs : List Entry). unborn_packets q t.unborn ++ map (reference_packet (symrefs_in q) (peel_in q)) refs)
      (filter_more (λ (r : Entry). is_shown (ref_prefixes_in q) r.name) t.refs entry false e ∙ append-nil (shown_refs (ref_prefixes_in q) t.refs))
      ∙ sym (append-nil (packets_so_far q t))

  -- a reference that is shown
  pub after_shown : (entry : Entry) → AreSoundReferences format (with_ref entry t) → is_shown (ref_prefixes_in q) entry.name ≡ true
      → AtEntries format q (with_ref entry t) (Some entry.name) (given ++ reference_packet (symrefs_in q) (peel_in q) entry ∷ [])
  after_shown entry sound e = record {
    sound = sound;
    last_is = (t.refs, entry, refl, refl);
    given_is = ap (λ (l : List Pkt). l ++ reference_packet (symrefs_in q) (peel_in q) entry ∷ []) at.given_is ∙ sym (refs_on entry true e);
  }

  -- a reference that is hidden
  pub after_hidden : (entry : Entry) → AreSoundReferences format (with_ref entry t) → is_shown (ref_prefixes_in q) entry.name ≡ false
      → AtEntries format q (with_ref entry t) (Some entry.name) given
  after_hidden entry sound e = record {
    sound = sound;
    last_is = (t.refs, entry, refl, refl);
    given_is = at.given_is ∙ sym (append-nil (packets_so_far q t)) ∙ sym (refs_on entry false e);
  }

  pub after_refs : IsReferencesAnswerOf format q (with_references_end t) (given ++ flush ∷ [])
  after_refs = record {
    sound = sound_to_the_end format t at.sound;
    ended = refl;
    packets_are = ap (λ (l : List Pkt). l ++ flush ∷ []) at.given_is
        ∙ append_assoc (unborn_packets q t.unborn) (map (reference_packet (symrefs_in q) (peel_in q)) (shown_refs (ref_prefixes_in q) t.refs)) (flush ∷ []);
  }

nothing_sound : (format : Format) → AreSoundReferences format no_references
nothing_sound format = record {
  rising = λ k d below. absurd (omega (arith, below));
  named = All-nil (λ (ref : Entry). IsNamed ref.name ref.target);
  of_format = All-nil (IsOfFormat format);
  unborn = λ target there. absurd (none-some target there);
}

-- nothing was reported: no references so far
pub first_entries : (format : Format) (q : List Arg) (t : ReferencesFacts) (last : Option (List ℕ)) (given : List Pkt) → AtFirst t last given
    → AtEntries format q t last given
first_entries format q t last given h = record {
  sound = subst (AreSoundReferences format) (sym h.nothing) (nothing_sound format);
  last_is = subst (IsLast t.refs) (sym h.last_is) (ap (λ (f : ReferencesFacts). f.refs) h.nothing);
  given_is = h.given_is ∙ sym (ap (packets_so_far q) h.nothing);
}

pub entries_of : (place : ReferencesPlace) (format : Format) (q : List Arg) (t : ReferencesFacts) (last : Option (List ℕ)) (given : List Pkt)
    → (place ≡ Whole → ⊥) → StandsAtReferences place format q t last given → AtEntries format q t last given
entries_of First format q t last given unended h = first_entries format q t last given h
entries_of Entries format q t last given unended h = h.1
entries_of AfterUnborn format q t last given unended h = h.1
entries_of Whole format q t last given unended h = absurd (unended refl)

-- with one more reference in the facts, the place is that after a reference
pub stands_after : (place : ReferencesPlace) (format : Format) (q : List Arg) (t : ReferencesFacts) (last : Option (List ℕ)) (given : List Pkt)
    (entry : Entry) (now : List Pkt) → (place ≡ Whole → ⊥) → StandsAtReferences place format q t last given
    → AtEntries format q (with_ref entry t) (Some entry.name) now
    → StandsAtReferences (after_entry place) format q (with_ref entry t) (Some entry.name) now
stands_after First format q t last given entry now unended h new = (ap (λ (f : ReferencesFacts). f.unborn) h.nothing, new)
stands_after Entries format q t last given entry now unended h new = (h.0, new)
stands_after AfterUnborn format q t last given entry now unended h new = (h.0, new)
stands_after Whole format q t last given entry now unended h new = absurd (unended refl)

pub head_allowed : (place : ReferencesPlace) (format : Format) (q : List Arg) (t : ReferencesFacts) (last : Option (List ℕ)) (given : List Pkt)
    (name : List ℕ) → (place ≡ Whole → ⊥) → refuses_head_at place name ≡ false → StandsAtReferences place format q t last given
    → ForSome t.unborn (λ target. name ≢ codes "HEAD")
head_allowed First format q t last given name unended other h =
    λ target there. absurd (none-some target (sym (ap (λ (f : ReferencesFacts). f.unborn) h.nothing) ∙ there))
head_allowed Entries format q t last given name unended other h =
    λ target there. absurd (none-some target (sym h.0 ∙ there))
head_allowed AfterUnborn format q t last given name unended other h =
    λ target there same. true_false (sym ((bytes_eq-Decides name (codes "HEAD")).1 same) ∙ other)
head_allowed Whole format q t last given name unended other h = absurd (unended refl)

-- ---- what is refused would not be sound

pub unsound_order : (format : Format) (t : ReferencesFacts) (last : Option (List ℕ)) (entry : Entry) → IsLast t.refs last
    → comes_after last entry.name ≡ false → ¬ AreSoundReferences format (with_ref entry t)
unsound_order format t last entry is after sound = not_rising t last entry is after sound.rising

pub unsound_format : (format : Format) (t : ReferencesFacts) (entry : Entry) → ¬ IsOfFormat format entry → ¬ AreSoundReferences format (with_ref entry t)
unsound_format format t entry other sound =
    other (All-pop (IsOfFormat format) (t.refs ++ entry ∷ []) t.refs (Some entry) refl sound.of_format).1

pub unsound_head : (place : ReferencesPlace) (format : Format) (q : List Arg) (t : ReferencesFacts) (last : Option (List ℕ)) (given : List Pkt)
    (entry : Entry) → refuses_head_at place entry.name ≡ true → StandsAtReferences place format q t last given
    → ¬ AreSoundReferences format (with_ref entry t)
unsound_head First format q t last given entry is h sound = absurd (cc)
unsound_head Entries format q t last given entry is h sound = absurd (cc)
unsound_head Whole format q t last given entry is h sound = absurd (cc)
unsound_head AfterUnborn format q t last given entry is h sound =
    not_head t.unborn h.0 sound.unborn where
      not_head : (unborn : Option (List ℕ)) → IsSome unborn → ForSome unborn (IsUnbornHead (t.refs ++ entry ∷ [])) → ⊥
      not_head None some u = absurd (cc)
      not_head (Some target) some u =
          (All-pop (λ (ref : Entry). ref.name ≢ codes "HEAD") (t.refs ++ entry ∷ []) t.refs (Some entry) refl (u target refl).no_head).1
          ((bytes_eq-Decides entry.name (codes "HEAD")).0 is)

module _ (format : Format) (q : List Arg) (t : ReferencesFacts) (last : Option (List ℕ)) (given : List Pkt) (target : List ℕ)
    (at : AtFirst t last given) where
  head_on : (b : Bool) → asks_for_unborn q ≡ b
      → packets_so_far q (with_unborn target t) ≡ (if b then unborn_packet target ∷ [] else [])
  head_on b e =
      ap (λ (refs : List Entry). unborn_packets q (Some target) ++ map (reference_packet (symrefs_in q) (peel_in q)) (shown_refs (ref_prefixes_in q) refs))
      (ap (λ (f : ReferencesFacts). f.refs) at.nothing)
      ∙ append-nil (unborn_packets q (Some target)) ∙ ap (λ (c : Bool). if c then unborn_packet target ∷ [] else []) e

  head_sound : IsRefName target → AreSoundReferences format (with_unborn target t)
  head_sound named = subst (λ (f : ReferencesFacts). AreSoundReferences format (with_unborn target f)) (sym at.nothing) (record {
    rising = λ k d below. absurd (omega (arith, below));
    named = All-nil (λ (ref : Entry). IsNamed ref.name ref.target);
    of_format = All-nil (IsOfFormat format);
    unborn = λ x there.
        record { named = subst IsRefName (cc) named; no_head = All-nil (λ (ref : Entry). ref.name ≢ codes "HEAD") };
  })

  pub after_head : IsRefName target → asks_for_unborn q ≡ true
      → AtEntries format q (with_unborn target t) last (given ++ unborn_packet target ∷ [])
  after_head named e = record {
    sound = head_sound named;
    last_is = subst (IsLast t.refs) (sym at.last_is) (ap (λ (f : ReferencesFacts). f.refs) at.nothing);
    given_is = ap (λ (l : List Pkt). l ++ unborn_packet target ∷ []) at.given_is ∙ sym (head_on true e);
  }

  pub after_no_head : IsRefName target → asks_for_unborn q ≡ false → AtEntries format q (with_unborn target t) last given
  after_no_head named e = record {
    sound = head_sound named;
    last_is = subst (IsLast t.refs) (sym at.last_is) (ap (λ (f : ReferencesFacts). f.refs) at.nothing);
    given_is = at.given_is ∙ sym (head_on false e);
  }
