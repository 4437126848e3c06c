-- From one place of an answer to the next.
use Rattle.std.proofs.Common.{arith, ◌≡◌, ℕ, ◌+◌, ◌<◌, ◌≤◌, Bool, true, false, not, All, List, [], ◌∷◌, ◌++◌, length}
use Rattle.std.proofs.Common.{map, slice_get, take, unwrap_or, Option, Some, None, if◌then◌else◌, codes, refl}
use Rattle.std.proofs.Common.{sym, ap, ◌∙◌, append_assoc, append-nil, length-append, subst, inl, inr}
use Rattle.std.proofs.lemmas.List.{length-take-le, take_all, take_more}
use Rattle.std.specs.Ordering.{is_eq}
use Rattle.std.proofs.lemmas.List.Elements.{All-nil, All-push}
use Rattle.std.proofs.lemmas.List.Folds.{Any-from_list_any, list_any-from_Any}
use Rattle.std.proofs.lemmas.Option.{slice_get_cases, slice_get_within, unwrap_or-slice_get}
use Rattle.git_names.specs.ObjectName.{ObjectName}
use Rattle.git_names.specs.declared.object_format.Format.{Format}
use Rattle.git_pkt.specs.Packets.{Pkt, flush, delim, longest_payload, spelling_of}
use Rattle.git_pkt.specs.Bands.{band_packet}
use Rattle.git_pkt.specs.declared.band.Band.{Band}
use Rattle.git_pkt.specs.declared.band.Band.TheVariants.{Pack as OnPack, Progress as OnProgress}
use Rattle.git_msg.specs.declared.Boundary.{Boundary}
use Rattle.git_msg.specs.declared.Boundary.TheVariants.{Shallow as ShallowAt, Unshallow as UnshallowAt}
use Rattle.git_msg.specs.declared.flags.Flag.{Flag}
use Rattle.git_msg.specs.Arguments.{Arg}
use Rattle.git_msg.specs.Asked.{is_empty, only_negotiates, haves_in, want_refs_in, flag_among}
use Rattle.git_msg.specs.ResponseLines.{wanted_of, wanted_text}
use Rattle.git_msg.specs.WrittenRequest.{text_line}
use Rattle.git_server.specs.Packs.{Manner, whole, packfile_header}
use Rattle.git_server.specs.FetchAnswers.{ack_packet, boundary_packet, nak_or_acks, negotiates, ready_lines, section, shallow_info}
use Rattle.git_server.specs.Objects.{object_cmp}
use Rattle.git_server.specs.Repository.{IsUnshallowOf}
use Rattle.git_server.proofs.NameOrder.{is_same}
use Rattle.git_host.specs.FetchFacts.{AreSoundFacts, FetchFacts, HasPack, IsSoundLine, may_have}
use Rattle.git_host.specs.FetchFacts.{IsFetchAnswerWhere, IsFetchAnswerOf, acknowledgments, before_pack, last_packet, opening}
use Rattle.git_host.specs.FetchFacts.{picked, no_facts, readiness, wanted_lines, wanted_refs}
use Rattle.git_host.specs.FetchPlaces.{AtDelimiter, AtHave, AtHeader, AtNak, AtPack, AtPackHeader}
use Rattle.git_host.specs.FetchPlaces.{AtReady, AtShallow, AtShallowLine, AtWanted, AtWantedHeader}
use Rattle.git_host.specs.FetchPlaces.{Holds, IsOpened, NoPack, NothingAfter, StandsAt, WhereNegotiating}
use Rattle.git_host.specs.FetchPlaces.{acks_header, after_boundary, after_haves, place_by, shallow_so_far}
use Rattle.git_host.specs.FetchPlaces.{is_ready_asked, step_at, with_boundary_end, with_have, with_line, with_pack, with_progress, with_ready}
use Rattle.git_host.specs.declared.fetch_answer.Place.{Place}
use Rattle.git_host.specs.declared.fetch_answer.Place.TheVariants.{Header, Have, Nak, Ready, Delimiter, Shallow, ShallowLine, WantedHeader, Wanted, WantedEnd}
use Rattle.git_host.specs.declared.fetch_answer.Place.TheVariants.{PackHeader, Pack, Whole as AtEnd, Broken as AtLoss}
use Rattle.git_host.proofs.Picked.{empty_is, length_more, lines_more, map_more, not_empty_more, pack_more, picked_false, picked_true, progress_more}

none_reported : (wanted : List ObjectName) → NothingAfter (no_facts wanted)
none_reported wanted = record { boundary = refl; pack = refl; progress = refl }

some_items : {X : Type 0} (xs : List X) → is_empty xs ≡ false → 0 < length xs
some_items [] e = absurd (cc)
some_items (x ∷ xs) e = omega arith

-- whether the request only negotiates or not, no pack follows where the store is not ready
none_follows : (b : Bool) → (if b then Some false else Some false) ≡ Some false
none_follows true = refl
none_follows false = refl

some_acks : (ids : List ObjectName) → is_empty ids ≡ false → nak_or_acks ids ≡ map ack_packet ids
some_acks [] e = absurd (cc)
some_acks (id ∷ ids) e = refl

so_far_more : (lines : List Boundary) (line : Boundary) → is_empty lines ≡ false
    → shallow_so_far (lines ++ line ∷ []) ≡ shallow_so_far lines ++ boundary_packet line ∷ []
so_far_more [] line e = absurd (cc)
so_far_more (l ∷ ls) line e = ap (λ (x : List Pkt). text_line (codes "shallow-info") ∷ x) (map_more boundary_packet (l ∷ ls) line)

pub so_far_ends : (lines : List Boundary) → is_empty lines ≡ false → shallow_so_far lines ++ delim ∷ [] ≡ shallow_info lines
so_far_ends [] e = absurd (cc)
so_far_ends (l ∷ ls) e = refl

some_wanted : (ids : List ObjectName) (names : List (List ℕ)) → is_empty names ≡ false
    → wanted_refs ids names ≡ section (codes "wanted-refs") (wanted_lines ids names)
some_wanted ids [] e = absurd (cc)
some_wanted ids (n ∷ ns) e = refl

none_wanted : (ids : List ObjectName) (names : List (List ℕ)) → is_empty names ≡ true → wanted_refs ids names ≡ []
none_wanted ids [] e = refl
none_wanted ids (n ∷ ns) e = absurd (cc)

module _ (q : List Arg) (t : FetchFacts) where
  pub opening_is : negotiates q ≡ true → opening q t ≡ acknowledgments q t ++ ready_lines
  opening_is e = ap (λ (b : Bool). if b then acknowledgments q t ++ ready_lines else []) e

  opening_none : negotiates q ≡ false → opening q t ≡ []
  opening_none e = ap (λ (b : Bool). if b then acknowledgments q t ++ ready_lines else []) e

  opened_by : negotiates q ≡ true → length t.has ≡ length (haves_in q) → readiness q t ≡ Some true → IsOpened q t
  opened_by e all ready = subst (λ (b : Bool). WhereNegotiating b ((length t.has ≡ length (haves_in q)) × (readiness q t ≡ Some true))) (sym e) (all, ready)

  -- where the pack follows, the answer is that of the facts
  answer_by : (b : Bool) (manner : Manner) (given : List Pkt) → WhereNegotiating b ((length t.has ≡ length (haves_in q)) × (readiness q t ≡ Some true))
      → HasPack manner q t given → IsFetchAnswerWhere b (readiness q t) manner q t given
  answer_by true manner given opened h = subst (λ (r : Option Bool). IsFetchAnswerWhere true r manner q t given) (sym opened.1) (opened.0, h)
  answer_by false manner given opened h = h

-- ---- the acknowledgments

-- each have before this place was reported
pub record SoFar (next : ℕ) (any : Bool) (q : List Arg) (t : FetchFacts) (given : List Pkt) : Type 0 where
  pub negotiates : negotiates q ≡ true
  pub so_far : length t.has ≡ next
  pub within : next ≤ length (haves_in q)
  pub some : is_empty (picked t.has (haves_in q)) ≡ not any
  pub given_is : given ≡ acks_header ∷ map ack_packet (picked t.has (haves_in q))
  pub unreported : t.ready ≡ None
  pub after : NothingAfter t

pub all_reported : (next : ℕ) (any : Bool) (q : List Arg) (t : FetchFacts) (given : List Pkt) → SoFar next any q t given → length (haves_in q) ≤ next
    → StandsAt (after_haves any) q t given
all_reported next true q t given h over = record {
  negotiates = h.negotiates;
  all = omega (arith, h.so_far, h.within, over);
  given_is = h.given_is ∙ ap (λ (l : List Pkt). acks_header ∷ l) (sym (some_acks (picked t.has (haves_in q)) h.some));
  unreported = h.unreported;
  after = h.after;
}
all_reported next false q t given h over =
    let none = empty_is (picked t.has (haves_in q)) h.some in
    record {
      negotiates = h.negotiates;
      all = omega (arith, h.so_far, h.within, over);
      none = none;
      given_is = h.given_is ∙ ap (λ (ids : List ObjectName). acks_header ∷ map ack_packet ids) none;
      unreported = h.unreported;
      after = h.after;
    }

-- the place from a have on
pub have_place : (place : Place) (next : ℕ) (any : Bool) (q : List Arg) (t : FetchFacts) (given : List Pkt)
    → (next < length (haves_in q) → place ≡ Have next any) → (length (haves_in q) ≤ next → place ≡ after_haves any)
    → SoFar next any q t given → StandsAt place q t given
have_place place next any q t given more over h =
    elim (slice_get_cases (haves_in q) next).1 [
      | inl (x, within, here, same) ↦ subst (λ (p : Place). StandsAt p q t given) (sym (more within)) (record {
        negotiates = h.negotiates;
        so_far = h.so_far;
        more = within;
        some = h.some;
        given_is = h.given_is;
        unreported = h.unreported;
        after = h.after;
      })
      | inr (most, is) ↦ subst (λ (p : Place). StandsAt p q t given) (sym (over most)) (all_reported next any q t given h most)
    ]

pub after_header : (q : List Arg) (t : FetchFacts) (given : List Pkt) → AtHeader q t given → SoFar 0 false q t (given ++ acks_header ∷ [])
after_header q t given h = record {
  negotiates = h.negotiates;
  so_far = ap length h.none;
  within = omega arith;
  some = ap (λ (bs : List Bool). is_empty (picked bs (haves_in q))) h.none;
  given_is = ap (λ (l : List Pkt). l ++ acks_header ∷ []) h.given_is
      ∙ ap (λ (bs : List Bool). acks_header ∷ map ack_packet (picked bs (haves_in q))) (sym h.none);
  unreported = h.unreported;
  after = h.after;
}

pub after_common : (next : ℕ) (any : Bool) (q : List Arg) (t : FetchFacts) (given : List Pkt) (id : ObjectName) → AtHave next any q t given
    → slice_get (haves_in q) next ≡ Some id → SoFar (next + 1) true q (with_have true t) (given ++ ack_packet id ∷ [])
after_common next any q t given id h here =
    let at = ap (slice_get (haves_in q)) h.so_far ∙ here in
    let one = picked_true t.has (haves_in q) id at in
    record {
      negotiates = h.negotiates;
      so_far = omega (arith, length_more t.has true, h.so_far);
      within = omega (arith, h.more);
      some = ap is_empty one ∙ not_empty_more (picked t.has (haves_in q)) id;
      given_is = ap (λ (l : List Pkt). l ++ ack_packet id ∷ []) h.given_is
          ∙ ap (λ (l : List Pkt). acks_header ∷ l) (sym (map_more ack_packet (picked t.has (haves_in q)) id) ∙ ap (map ack_packet) (sym one));
      unreported = h.unreported;
      after = record { boundary = h.after.boundary; pack = h.after.pack; progress = h.after.progress };
    }

pub after_not_common : (next : ℕ) (any : Bool) (q : List Arg) (t : FetchFacts) (given : List Pkt) → AtHave next any q t given
    → SoFar (next + 1) any q (with_have false t) given
after_not_common next any q t given h =
    let none = picked_false t.has (haves_in q) in
    record {
      negotiates = h.negotiates;
      so_far = omega (arith, length_more t.has false, h.so_far);
      within = omega (arith, h.more);
      some = ap is_empty none ∙ h.some;
      given_is = h.given_is ∙ ap (λ (ids : List ObjectName). acks_header ∷ map ack_packet ids) (sym none);
      unreported = h.unreported;
      after = record { boundary = h.after.boundary; pack = h.after.pack; progress = h.after.progress };
    }

-- a have is asked about only where there is one
pub have_there : (next : ℕ) (any : Bool) (q : List Arg) (t : FetchFacts) (given : List Pkt) → AtHave next any q t given
    → (id : ObjectName) × (slice_get (haves_in q) next ≡ Some id)
have_there next any q t given h =
    elim (slice_get_cases (haves_in q) next).1 [
      | inl (x, within, here, same) ↦ (x, here)
      | inr (most, is) ↦ absurd (omega (arith, h.more, most))
    ]

pub after_nak : (q : List Arg) (t : FetchFacts) (given : List Pkt) → AtNak q t given → AtReady q t (given ++ text_line (codes "NAK") ∷ [])
after_nak q t given h = record {
  negotiates = h.negotiates;
  all = h.all;
  given_is = ap (λ (l : List Pkt). l ++ text_line (codes "NAK") ∷ []) h.given_is
      ∙ ap (λ (ids : List ObjectName). acks_header ∷ nak_or_acks ids) (sym h.none);
  unreported = h.unreported;
  after = h.after;
}

-- no pack follows
no_pack_follows : (q : List Arg) (t : FetchFacts) (given : List Pkt) → negotiates q ≡ true → length t.has ≡ length (haves_in q) → given ≡ acknowledgments q t
    → readiness q t ≡ Some false → IsFetchAnswerOf whole q t (given ++ flush ∷ [])
no_pack_follows q t given asks all is unready =
    subst (λ (b : Bool). IsFetchAnswerWhere b (readiness q t) whole q t (given ++ flush ∷ [])) (sym asks)
    (subst (λ (r : Option Bool). IsFetchAnswerWhere true r whole q t (given ++ flush ∷ [])) (sym unready) (all, ap (λ (l : List Pkt). l ++ flush ∷ []) is))

pub after_unready : (q : List Arg) (t : FetchFacts) (given : List Pkt) → AtReady q t given
    → IsFetchAnswerOf whole q (with_ready false t) (given ++ flush ∷ [])
after_unready q t given h = no_pack_follows q (with_ready false t) given h.negotiates h.all h.given_is (none_follows (only_negotiates q))

pub after_ready : (q : List Arg) (t : FetchFacts) (given : List Pkt) → AtReady q t given → only_negotiates q ≡ false
    → AtDelimiter q (with_ready true t) (given ++ text_line (codes "ready") ∷ [])
after_ready q t given h other = record {
  negotiates = h.negotiates;
  all = h.all;
  is_ready = ap (λ (b : Bool). if b then Some false else Some true) other;
  given_is = ap (λ (l : List Pkt). l ++ text_line (codes "ready") ∷ []) h.given_is;
  after = record { boundary = h.after.boundary; pack = h.after.pack; progress = h.after.progress };
}

-- ---- the shallow boundary

pub after_delimiter : (q : List Arg) (t : FetchFacts) (given : List Pkt) → AtDelimiter q t given → AtShallow false q t (given ++ delim ∷ [])
after_delimiter q t given h = record {
  opened = opened_by q t h.negotiates h.all h.is_ready;
  some = ap is_empty h.after.boundary;
  given_is = ap (λ (l : List Pkt). l ++ delim ∷ []) h.given_is
      ∙ append_assoc (acknowledgments q t) (text_line (codes "ready") ∷ []) (delim ∷ [])
      ∙ sym (opening_is q t h.negotiates) ∙ sym (append-nil (opening q t))
      ∙ ap (λ (lines : List Boundary). opening q t ++ shallow_so_far lines) (sym h.after.boundary);
  no_pack = record { pack = h.after.pack; progress = h.after.progress };
}

pub after_first_line : (q : List Arg) (t : FetchFacts) (given : List Pkt) (line : Boundary) → AtShallow false q t given
    → AtShallowLine line q (with_line line t) (given ++ text_line (codes "shallow-info") ∷ [])
after_first_line q t given line h =
    let none = empty_is t.boundary h.some in
    record {
      opened = h.opened;
      first = ap (λ (lines : List Boundary). lines ++ line ∷ []) none;
      given_is = ap (λ (l : List Pkt). l ++ text_line (codes "shallow-info") ∷ [])
          (h.given_is ∙ ap (λ (lines : List Boundary). opening q t ++ shallow_so_far lines) none ∙ append-nil (opening q t));
      no_pack = record { pack = h.no_pack.pack; progress = h.no_pack.progress };
    }

pub after_shallow_line : (q : List Arg) (t : FetchFacts) (given : List Pkt) (line : Boundary) → AtShallowLine line q t given
    → AtShallow true q t (given ++ boundary_packet line ∷ [])
after_shallow_line q t given line h = record {
  opened = h.opened;
  some = ap is_empty h.first;
  given_is = ap (λ (l : List Pkt). l ++ boundary_packet line ∷ []) h.given_is
      ∙ append_assoc (opening q t) (text_line (codes "shallow-info") ∷ []) (boundary_packet line ∷ [])
      ∙ ap (λ (lines : List Boundary). opening q t ++ shallow_so_far lines) (sym h.first);
  no_pack = h.no_pack;
}

pub after_line : (q : List Arg) (t : FetchFacts) (given : List Pkt) (line : Boundary) → AtShallow true q t given
    → AtShallow true q (with_line line t) (given ++ boundary_packet line ∷ [])
after_line q t given line h = record {
  opened = h.opened;
  some = not_empty_more t.boundary line;
  given_is = ap (λ (l : List Pkt). l ++ boundary_packet line ∷ []) h.given_is
      ∙ append_assoc (opening q t) (shallow_so_far t.boundary) (boundary_packet line ∷ [])
      ∙ ap (λ (l : List Pkt). opening q t ++ l) (sym (so_far_more t.boundary line h.some));
  no_pack = record { pack = h.no_pack.pack; progress = h.no_pack.progress };
}

-- after the boundary
refs_by : (b : Bool) (q : List Arg) (t : FetchFacts) (given : List Pkt) → is_empty (want_refs_in q) ≡ b → IsOpened q t
    → given ≡ opening q t ++ shallow_info t.boundary → NoPack t → StandsAt (after_boundary b) q (with_boundary_end t) given
refs_by true q t given none opened is no_pack = record {
  opened = opened;
  ended = refl;
  given_is = is ∙ ap (λ (l : List Pkt). opening q t ++ l)
      (sym (append-nil (shallow_info t.boundary)) ∙ ap (λ (l : List Pkt). shallow_info t.boundary ++ l) (sym (none_wanted t.wanted (want_refs_in q) none)));
  no_pack = record { pack = no_pack.pack; progress = no_pack.progress };
}
refs_by false q t given some opened is no_pack = record {
  opened = opened;
  ended = refl;
  some = some;
  given_is = is;
  no_pack = record { pack = no_pack.pack; progress = no_pack.progress };
}

pub after_lines : (q : List Arg) (t : FetchFacts) (given : List Pkt) → AtShallow true q t given
    → StandsAt (after_boundary (is_empty (want_refs_in q))) q (with_boundary_end t) (given ++ delim ∷ [])
after_lines q t given h = refs_by (is_empty (want_refs_in q)) q t (given ++ delim ∷ []) refl h.opened
    (ap (λ (l : List Pkt). l ++ delim ∷ []) h.given_is ∙ append_assoc (opening q t) (shallow_so_far t.boundary) (delim ∷ [])
    ∙ ap (λ (l : List Pkt). opening q t ++ l) (so_far_ends t.boundary h.some)) h.no_pack

pub after_no_line : (q : List Arg) (t : FetchFacts) (given : List Pkt) → AtShallow false q t given
    → StandsAt (after_boundary (is_empty (want_refs_in q))) q (with_boundary_end t) given
after_no_line q t given h =
    let none = empty_is t.boundary h.some in
    refs_by (is_empty (want_refs_in q)) q t given refl h.opened
    (h.given_is ∙ ap (λ (lines : List Boundary). opening q t ++ shallow_so_far lines) none
    ∙ ap (λ (lines : List Boundary). opening q t ++ shallow_info lines) (sym none)) h.no_pack

-- ---- the wanted references

pub after_wanted_header : (q : List Arg) (t : FetchFacts) (given : List Pkt) → AtWantedHeader q t given
    → StandsAt (Wanted 0) q t (given ++ text_line (codes "wanted-refs") ∷ [])
after_wanted_header q t given h = (
  some_items (want_refs_in q) h.some,
  record {
    opened = h.opened;
    ended = h.ended;
    some = h.some;
    given_is = ap (λ (l : List Pkt). l ++ text_line (codes "wanted-refs") ∷ []) h.given_is;
    no_pack = h.no_pack;
  },
)

-- the item at a place below the length
pub item_there : {X : Type 0} (xs : List X) (at : ℕ) → at < length xs → (x : X) × (slice_get xs at ≡ Some x)
item_there xs at within =
    elim (slice_get_cases xs at).1 [
      | inl (x, less, here, same) ↦ (x, here)
      | inr (most, is) ↦ absurd (omega (arith, within, most))
    ]

-- the first items and the next one
pub one_more : {X : Type 0} (xs : List X) (at : ℕ) (x : X) → slice_get xs at ≡ Some x → take (at + 1) xs ≡ take at xs ++ x ∷ []
one_more {X = X} xs at x here =
    take_more xs at x (slice_get_within xs at x here)
    ∙ ap (λ (y : X). take at xs ++ y ∷ []) (sym (unwrap_or-slice_get xs at x) ∙ ap (λ (o : Option X). unwrap_or o x) here)

pub after_name : (next : ℕ) (q : List Arg) (t : FetchFacts) (given : List Pkt) (id : ObjectName) (name : List ℕ) → AtWanted next q t given
    → slice_get (want_refs_in q) next ≡ Some name → slice_get t.wanted next ≡ Some id
    → AtWanted (next + 1) q t (given ++ text_line (wanted_text (wanted_of id name)) ∷ [])
after_name next q t given id name h named here =
    let front = opening q t ++ shallow_info t.boundary in
    let line = text_line (wanted_text (wanted_of id name)) in
    let ids = take next t.wanted in
    let count : length ids ≡ next = length-take-le next t.wanted (omega (arith, slice_get_within t.wanted next id here)) in
    record {
      opened = h.opened;
      ended = h.ended;
      some = h.some;
      given_is = ap (λ (l : List Pkt). l ++ line ∷ []) h.given_is
          ∙ append_assoc front (text_line (codes "wanted-refs") ∷ wanted_lines ids (want_refs_in q)) (line ∷ [])
          ∙ ap (λ (l : List Pkt). front ++ text_line (codes "wanted-refs") ∷ l)
          (sym (lines_more ids (want_refs_in q) id name (ap (slice_get (want_refs_in q)) count ∙ named))
          ∙ ap (λ (l : List ObjectName). wanted_lines l (want_refs_in q)) (sym (one_more t.wanted next id here)));
      no_pack = h.no_pack;
    }

pub after_wanted : (place : Place) (next : ℕ) (q : List Arg) (t : FetchFacts) (given : List Pkt) (id : ObjectName) (name : List ℕ)
    → (next + 1 < length (want_refs_in q) → place ≡ Wanted (next + 1)) → (length (want_refs_in q) ≤ next + 1 → place ≡ WantedEnd)
    → StandsAt (Wanted next) q t given → slice_get (want_refs_in q) next ≡ Some name → slice_get t.wanted next ≡ Some id
    → StandsAt place q t (given ++ text_line (wanted_text (wanted_of id name)) ∷ [])
after_wanted place next q t given id name more over h named here =
    let now = given ++ text_line (wanted_text (wanted_of id name)) ∷ [] in
    let there = after_name next q t given id name h.1 named here in
    elim (slice_get_cases (want_refs_in q) (next + 1)).1 [
      | inl (x, less, found, same) ↦ subst (λ (p : Place). StandsAt p q t now) (sym (more less)) (less, there)
      | inr (most, is) ↦
          let end : next + 1 ≡ length (want_refs_in q) = omega (arith, h.0, most) in
          subst (λ (p : Place). StandsAt p q t now) (sym (over most)) (subst (λ (n : ℕ). AtWanted n q t now) end there)
    ]

pub after_all_wanted : (q : List Arg) (t : FetchFacts) (given : List Pkt) → length t.wanted ≡ length (want_refs_in q)
    → AtWanted (length (want_refs_in q)) q t given → AtPackHeader q t (given ++ delim ∷ [])
after_all_wanted q t given all h =
    let lines = text_line (codes "wanted-refs") ∷ wanted_lines t.wanted (want_refs_in q) in
    record {
      opened = h.opened;
      ended = h.ended;
      given_is = ap (λ (l : List Pkt). l ++ delim ∷ []) (h.given_is
          ∙ ap (λ (ids : List ObjectName). (opening q t ++ shallow_info t.boundary) ++ text_line (codes "wanted-refs") ∷ wanted_lines ids (want_refs_in q))
          (take_all (length (want_refs_in q)) t.wanted (omega (arith, all))))
          ∙ append_assoc (opening q t ++ shallow_info t.boundary) lines (delim ∷ [])
          ∙ append_assoc (opening q t) (shallow_info t.boundary) (lines ++ delim ∷ [])
          ∙ ap (λ (l : List Pkt). opening q t ++ (shallow_info t.boundary ++ l)) (sym (some_wanted t.wanted (want_refs_in q) h.some));
      no_pack = h.no_pack;
    }

-- ---- the pack

pub after_pack_header : (q : List Arg) (t : FetchFacts) (given : List Pkt) → AtPackHeader q t given → AtPack q t (given ++ packfile_header ∷ [])
after_pack_header q t given h = record {
  opened = h.opened;
  ended = h.ended;
  parts = [];
  are_parts = (h.no_pack.pack, h.no_pack.progress);
  given_is = ap (λ (l : List Pkt). l ++ packfile_header ∷ []) h.given_is;
}

pub after_part : (q : List Arg) (t : FetchFacts) (given : List Pkt) (bytes : List ℕ) → 0 < length bytes → length bytes < longest_payload → AtPack q t given
    → AtPack q (with_pack bytes t) (given ++ band_packet OnPack bytes ∷ [])
after_part q t given bytes some fits h = record {
  opened = h.opened;
  ended = h.ended;
  parts = h.parts ++ band_packet OnPack bytes ∷ [];
  are_parts = pack_more bytes some fits t.pack t.progress h.parts h.are_parts;
  given_is = ap (λ (l : List Pkt). l ++ band_packet OnPack bytes ∷ []) h.given_is
      ∙ append_assoc (before_pack q t) (packfile_header ∷ h.parts) (band_packet OnPack bytes ∷ []);
}

pub after_progress : (q : List Arg) (t : FetchFacts) (given : List Pkt) (bytes : List ℕ) → 0 < length bytes → length bytes < longest_payload
    → AtPack q t given → AtPack q (with_progress bytes t) (given ++ band_packet OnProgress bytes ∷ [])
after_progress q t given bytes some fits h = record {
  opened = h.opened;
  ended = h.ended;
  parts = h.parts ++ band_packet OnProgress bytes ∷ [];
  are_parts = progress_more bytes some fits t.pack t.progress h.parts h.are_parts;
  given_is = ap (λ (l : List Pkt). l ++ band_packet OnProgress bytes ∷ []) h.given_is
      ∙ append_assoc (before_pack q t) (packfile_header ∷ h.parts) (band_packet OnProgress bytes ∷ []);
}

pub after_pack : (manner : Manner) (q : List Arg) (t : FetchFacts) (given : List Pkt) → length t.wanted ≡ length (want_refs_in q) → AtPack q t given
    → IsFetchAnswerOf manner q t (given ++ last_packet manner ∷ [])
after_pack manner q t given all h = answer_by q t (negotiates q) manner (given ++ last_packet manner ∷ []) h.opened (record {
  ended = h.ended;
  all = all;
  parts = h.parts;
  are_parts = h.are_parts;
  packets_are = ap (λ (l : List Pkt). l ++ last_packet manner ∷ []) h.given_is
      ∙ append_assoc (before_pack q t) (packfile_header ∷ h.parts) (last_packet manner ∷ []);
})

-- ---- the beginning

begins_by : (b : Bool) (q : List Arg) (wanted : List ObjectName) → negotiates q ≡ b → StandsAt (place_by b) q (no_facts wanted) []
begins_by true q wanted e = record { negotiates = e; none = refl; given_is = refl; unreported = refl; after = none_reported wanted }
begins_by false q wanted e =
    let t = no_facts wanted in
    record {
      opened = subst (λ (b : Bool). WhereNegotiating b ((length t.has ≡ length (haves_in q)) × (readiness q t ≡ Some true))) (sym e) tt;
      some = refl;
      given_is = sym (ap (λ (l : List Pkt). l ++ []) (opening_none q t e));
      no_pack = record { pack = refl; progress = refl };
    }

pub begins : (q : List Arg) (wanted : List ObjectName) (place : Place) → place ≡ place_by (negotiates q) → StandsAt place q (no_facts wanted) []
begins q wanted place is = subst (λ (p : Place). StandsAt p q (no_facts wanted) []) (sym is) (begins_by (negotiates q) q wanted refl)

-- ---- what a sound repository may answer

-- one report of another kind
pub sound_so : (format : Format) (q : List Arg) (t u : FetchFacts) → u.boundary ≡ t.boundary → u.progress ≡ t.progress → AreSoundFacts format q t
    → AreSoundFacts format q u
sound_so format q t u boundary progress h = record {
  boundary = subst (All (IsSoundLine format q)) (sym boundary) h.boundary;
  quiet = λ none. progress ∙ h.quiet none;
}

pub none_sound : (format : Format) (q : List Arg) (wanted : List ObjectName) → AreSoundFacts format q (no_facts wanted)
none_sound format q wanted = record { boundary = All-nil (IsSoundLine format q); quiet = λ none. refl }

pub line_sound : (format : Format) (q : List Arg) (t : FetchFacts) (line : Boundary) → IsSoundLine format q line → AreSoundFacts format q t
    → AreSoundFacts format q (with_line line t)
line_sound format q t line is h = record { boundary = All-push (IsSoundLine format q) t.boundary line h.boundary is; quiet = h.quiet }

no_quiet : true ≡ false → ⊥
no_quiet e = cc

pub progress_sound : (format : Format) (q : List Arg) (t : FetchFacts) (part : List ℕ) → flag_among q Flag.NoProgress ≡ false → AreSoundFacts format q t
    → AreSoundFacts format q (with_progress part t)
progress_sound format q t part wanted h = record { boundary = h.boundary; quiet = λ none. absurd (no_quiet (sym none ∙ wanted)) }

pub may_have_it : (shallows : List ObjectName) (line : Boundary) → may_have shallows line ≡ true → IsUnshallowOf shallows line
may_have_it shallows (ShallowAt id) is = tt
may_have_it shallows (UnshallowAt id) is =
    let at = Any-from_list_any (λ (shallow : ObjectName). is_eq (object_cmp shallow id)) shallows is in
    (at.0, at.1, at.2, at.3, (is_same _ id).0 at.4)

pub may_not_have : (shallows : List ObjectName) (line : Boundary) → may_have shallows line ≡ false → ¬ IsUnshallowOf shallows line
may_not_have shallows (ShallowAt id) is known = no_quiet is
may_not_have shallows (UnshallowAt id) is (at, commit, within, there, here) =
    let found = list_any-from_Any (λ (shallow : ObjectName). is_eq (object_cmp shallow id)) shallows
    (at, commit, within, there, (is_same commit id).1 here) in
    no_quiet (sym found ∙ is)

-- ---- what is in the hold

pub line_held : (bytes text : List ℕ) → bytes ≡ spelling_of (text_line text) → length text < longest_payload → Holds bytes (text_line text)
line_held bytes text is fits = record { spelled = is; fits = omega (arith, fits, length-append text (10 ∷ [])) }

pub band_held : (bytes part : List ℕ) (band : Band) → bytes ≡ spelling_of (band_packet band part) → length part < longest_payload
    → Holds bytes (band_packet band part)
band_held bytes part band is fits = record { spelled = is; fits = omega (arith, fits) }

-- where it is asked whether the store is ready
pub asks_ready_at : (q : List Arg) (place : Place) → is_ready_asked (step_at (only_negotiates q) place) ≡ true
    → (place ≡ Ready) × (only_negotiates q ≡ false)
asks_ready_at q Ready e = (refl, of_alone (only_negotiates q) e) where
  of_alone : (b : Bool) → is_ready_asked (step_at b Ready) ≡ true → b ≡ false
  of_alone true e = absurd (cc)
  of_alone false e = refl
asks_ready_at q Header e = absurd (cc)
asks_ready_at q (Have next any) e = absurd (cc)
asks_ready_at q Nak e = absurd (cc)
asks_ready_at q Delimiter e = absurd (cc)
asks_ready_at q (Shallow any) e = absurd (cc)
asks_ready_at q (ShallowLine line) e = absurd (cc)
asks_ready_at q WantedHeader e = absurd (cc)
asks_ready_at q (Wanted next) e = absurd (cc)
asks_ready_at q WantedEnd e = absurd (cc)
asks_ready_at q PackHeader e = absurd (cc)
asks_ready_at q Pack e = absurd (cc)
asks_ready_at q AtEnd e = absurd (cc)
asks_ready_at q AtLoss e = absurd (cc)
