-- The part of a conversation that a packet belongs to, and that of the packet after it.
use Rattle.std.proofs.Common.{arith, ◌≡◌, ℕ, suc, zero, Bool, true, List, [], ◌∷◌, Option, Some, None, ◌≢◌, false, ap, cond, refl, sym, ◌∙◌, subst}
use Rattle.std.specs.Prelude.{slice_get}
use Rattle.git_pkt.specs.Packets.{Pkt, flush, resp_end, flushes}
use Rattle.git_msg.specs.Asked.{Asked, ls_refs, fetch, object_info, done_in}
use Rattle.git_client.specs.Parts.{Terms, Part, opening, advertisement, listing, sections, informing, closing, answer_to, part_after, part_of, is_end_expected}
use Rattle.git_client.specs.Parts.{is_zero, message_of}
use Rattle.git_client.specs.Machine.Client.{IsExpected, IsExpectedIn, awaits_end}
use Rattle.git_client.specs.declared.events.Ending.{Ending}
use Rattle.git_client.specs.declared.events.Ending.TheVariants.{FlushOnly, ResponseEnd as WithResponseEnd}
use Rattle.git_client.specs.declared.phase.Expected.{Expected}
use Rattle.git_client.specs.declared.phase.Expected.TheVariants.{Version, Capabilities, References, Header, Acknowledgments, ShallowInfo, WantedRefs}
use Rattle.git_client.specs.declared.phase.Expected.TheVariants.{Packfile, SizeLine, Sizes, ResponseEnd}
use Rattle.git_client.proofs.Sequences.{advertisement_more}

-- the part before the first flush
abbrev pub is_early : Part → Bool
is_early opening = true
is_early advertisement = true
is_early part = false

-- one if a response end is expected, else zero
abbrev pub ends : Part → ℕ
ends closing = 1
ends part = 0

-- the part after a packet that does not end a message
abbrev pub next_part : Part → Part
next_part opening = advertisement
next_part part = part

pub next_ends : (part : Part) → ends (next_part part) ≡ ends part
next_ends opening = refl
next_ends part = refl

-- the part in which this is expected
abbrev pub part_expected : Bool → Expected → Part
part_expected done Version = opening
part_expected done Capabilities = advertisement
part_expected done References = listing
part_expected done SizeLine = informing
part_expected done Sizes = informing
part_expected done ResponseEnd = closing
part_expected done expected = sections done

pub part_is : (part : Part) (message : List Pkt) (expected : Expected) → IsExpectedIn part message expected
    → (done : Bool) × (part ≡ part_expected done expected)
part_is opening message Version is = (false, refl)
part_is advertisement message Capabilities is = (false, refl)
part_is listing message References is = (false, refl)
part_is (sections done) message (Header allowed) is = (done, refl)
part_is (sections done) message (Acknowledgments announced) is = (done, refl)
part_is (sections done) message (ShallowInfo allowed) is = (done, refl)
part_is (sections done) message (WantedRefs allowed) is = (done, refl)
part_is (sections done) message Packfile is = (done, refl)
part_is informing message SizeLine is = (false, refl)
part_is informing message Sizes is = (false, refl)
part_is closing message ResponseEnd is = (false, refl)
part_is part message expected is = absurd is

pub awaits_where : (done : Bool) (expected : Expected) → awaits_end expected ≡ ends (part_expected done expected)
awaits_where done ResponseEnd = refl
awaits_where done expected = refl

-- a response end is expected in one part only
pub awaits_in : (part : Part) (message : List Pkt) (expected : Expected) → IsExpectedIn part message expected → awaits_end expected ≡ ends part
awaits_in part message expected is = let (done, same) = part_is part message expected is in awaits_where done expected ∙ ap ends (sym same)

-- a part in which no response end is expected continues, after this many flushes
pub record GoesOn (asked : List Asked) (n : ℕ) (part : Part) : Type 0 where
  pub stays : part_after asked n ≡ Some (next_part part)
  pub early : is_zero n ≡ is_early part

answers : (asked : List Asked) (k : ℕ) (question : Option Asked) (part : Part) → slice_get asked k ≡ question → answer_to question ≡ Some part
    → GoesOn asked (suc k) part
answers asked k None part found is = absurd (cc)
answers asked k (Some (ls_refs q)) part found is =
    let same : listing ≡ part = cc in subst (GoesOn asked (suc k)) same (record { stays = ap answer_to found; early = refl })
answers asked k (Some (fetch q)) part found is =
    let same : sections (done_in q) ≡ part = cc in subst (GoesOn asked (suc k)) same (record { stays = ap answer_to found; early = refl })
answers asked k (Some (object_info q)) part found is =
    let same : informing ≡ part = cc in subst (GoesOn asked (suc k)) same (record { stays = ap answer_to found; early = refl })

goes_on_after : (asked : List Asked) (n : ℕ) (part : Part) → part_after asked n ≡ Some part → GoesOn asked n part
goes_on_after asked zero part is =
    let same : advertisement ≡ part = cc in subst (GoesOn asked 0) same (record { stays = refl; early = refl })
goes_on_after asked (suc k) part is = answers asked k (slice_get asked k) part refl is

pub goes_on : (t : Terms) (asked : List Asked) (before : List Pkt) (part : Part) → part_of t asked before ≡ Some part → ends part ≡ 0
    → GoesOn asked (flushes before) part
goes_on t asked [] part is none =
    let same : opening ≡ part = cc in subst (GoesOn asked 0) same (record { stays = refl; early = refl })
goes_on t asked (p ∷ before) part is none = go (is_end_expected t.ending (p ∷ before)) is where
  go : (b : Bool) → cond b (Some closing) (part_after asked (flushes (p ∷ before))) ≡ Some part → GoesOn asked (flushes (p ∷ before)) part
  go true is = let closed : closing ≡ part = cc in absurd (omega (arith, ap ends closed))
  go false is = goes_on_after asked (flushes (p ∷ before)) part is

early_ends : (part : Part) → is_early part ≡ true → ends part ≡ 0
early_ends closing early = absurd (cc)
early_ends part early = refl

zero_is : (n : ℕ) → is_zero n ≡ true → n ≡ 0
zero_is zero is = refl
zero_is (suc n) is = absurd (cc)

-- no flush comes before an early part
pub no_flush : (t : Terms) (asked : List Asked) (before : List Pkt) (part : Part) → part_of t asked before ≡ Some part → is_early part ≡ true
    → flushes before ≡ 0
no_flush t asked before part is early = zero_is (flushes before) ((goes_on t asked before part is (early_ends part early)).early ∙ early)

-- the part that the next packet belongs to, by what is expected
pub record Stands (t : Terms) (asked : List Asked) (before : List Pkt) (expected : Expected) : Type 0 where
  pub done : Bool
  pub is_part : part_of t asked before ≡ Some (part_expected done expected)
  pub is_expected : IsExpectedIn (part_expected done expected) (message_of before) expected

pub stands : (t : Terms) (asked : List Asked) (before : List Pkt) (expected : Expected) → IsExpected t asked before expected → Stands t asked before expected
stands t asked before expected is =
    let (done, same) = part_is is.part (message_of before) expected is.is_expected in
    record {
      done = done;
      is_part = is.is_part
          ∙ ap Some same;
      is_expected = subst (λ (part : Part). IsExpectedIn part (message_of before) expected) same is.is_expected;
    }

-- no response end follows a packet other than a flush
pub no_end : (ending : Ending) (p : Pkt) (before : List Pkt) → p ≢ flush → is_end_expected ending (p ∷ before) ≡ false
no_end FlushOnly p before other = refl
no_end WithResponseEnd flush before other = absurd (other refl)
no_end WithResponseEnd p before other = refl

-- a packet inside a message
abbrev pub GoesInto : Pkt → Type 0
GoesInto flush = ⊥
GoesInto resp_end = ⊥
GoesInto p = Unit {0}

-- this is expected after the packet
pub expected_after : (t : Terms) (asked : List Asked) (before : List Pkt) (expected next : Expected) (p : Pkt) → GoesInto p → awaits_end expected ≡ 0
    → IsExpected t asked before expected → (s : Stands t asked before expected)
    → IsExpectedIn (next_part (part_expected s.done expected)) (p ∷ message_of before) next
    → IsExpected t asked (p ∷ before) next
expected_after t asked before expected next flush goes none is s next_is = absurd goes
expected_after t asked before expected next resp_end goes none is s next_is = absurd goes
expected_after t asked before expected next p goes none is s next_is =
    let part = part_expected s.done expected in
    let open_part : ends part ≡ 0 = sym (awaits_where s.done expected) ∙ none in
    record {
      part = next_part part;
      is_part = ap (λ (b : Bool). cond b (Some closing) (part_after asked (flushes before))) (no_end t.ending p before (λ e. cc))
          ∙ (goes_on t asked before part s.is_part open_part).stays;
      counts = omega (arith, is.counts, awaits_in (next_part part) (p ∷ message_of before) next next_is, next_ends part);
      same_lines = λ no_flushes. ap (λ (l : List Pkt). p ∷ l) (is.same_lines no_flushes) ∙ sym (advertisement_more p before no_flushes);
      is_expected = next_is;
    }
