-- Lines cut at a byte, their keys and words, and packets judged one more at a time.
use Rattle.std.proofs.Common.{arith, ◌≡◌, ◌≢◌, ℕ, ◌+◌, ◌||◌, ◌==◌, Bool, true, false, List, [], ◌∷◌, ◌++◌, length, drop, Option, Some, None, unwrap_or, suc}
use Rattle.std.proofs.Common.{refl, sym, ap, ◌∙◌, append_assoc, append-nil}
use Rattle.std.specs.List.{after_first, before_first, list_any}
use Rattle.std.proofs.lemmas.Grind.{common_steps}
use Rattle.git_pkt.specs.Packets.{Pkt}
use Rattle.git_pkt.specs.Splits.{Given}
use Rattle.git_msg.specs.Texts.{IsCutAt}
use Rattle.git_msg.proofs.TextParts.{cut_place}
use Rattle.git2show_lib.specs.Others.{NoneIs, counted_at, counted_in, given_as, judged_in, judged_packet, line_kept, lines_kept, place_after, place_next}
use Rattle.git2show_lib.specs.OtherLines.{Noted, noted_from, noted_with}
use Rattle.git2show_lib.specs.declared.others.Place.{Place}

-- ---- lines

-- what a cut has before it is what comes before the first such byte
pub before_cut : (byte : ℕ) (text before : List ℕ) (after : Option (List ℕ)) → IsCutAt byte text before after
    → before_first (λ c. c == byte) text ≡ before
before_cut byte text before None cut = rw (cut_place byte text before None cut, sym cut.0) (grind (arith, common_steps))
before_cut byte text before (Some after) cut = rw (cut_place byte text before (Some after) cut, cut.spelled) (grind (arith, common_steps))

drop_one_more : (byte : ℕ) (before after : List ℕ) → drop (length before + 1) (before ++ byte ∷ after) ≡ after
drop_one_more byte [] after = refl
drop_one_more byte (c ∷ before) after =
    let e : suc (length before) + 1 ≡ suc (length before + 1) = omega arith in rw e (drop_one_more byte before after)

-- and what it has after it what comes after that byte
pub after_cut : (byte : ℕ) (text before : List ℕ) (after : Option (List ℕ)) → IsCutAt byte text before after
    → after_first (λ c. c == byte) text ≡ unwrap_or after []
after_cut byte text before None cut = rw (cut_place byte text before None cut, sym cut.0) (grind (arith, common_steps))
after_cut byte text before (Some after) cut =
    rw (cut_place byte text before (Some after) cut, cut.spelled) (drop_one_more byte before after)

-- ---- parts of a text

-- the first of the parts passes
pub first_passes : {X : Type 0} (f : X → Bool) (parts : List X) (first : X) (later : List X) → parts ≡ first ∷ later → f first ≡ true
    → list_any f parts ≡ true
first_passes f parts first later is passes = ap (list_any f) is ∙ ap (λ (b : Bool). b || list_any f later) passes

-- or it does not
pub first_fails : {X : Type 0} (f : X → Bool) (parts : List X) (first : X) (later : List X) → parts ≡ first ∷ later → f first ≡ false
    → list_any f parts ≡ list_any f later
first_fails f parts first later is fails = ap (list_any f) is ∙ ap (λ (b : Bool). b || list_any f later) fails

-- ---- packets

pub place_snoc : (place : Place) (gs : List Given) (g : Given) → place_after place (gs ++ g ∷ []) ≡ place_next (place_after place gs) g.packet
place_snoc place [] g = refl
place_snoc place (h ∷ gs) g = place_snoc (place_next place h.packet) gs g

pub judged_snoc : (text : List ℕ) (place : Place) (gs : List Given) (g : Given)
    → judged_in text place (gs ++ g ∷ []) ≡ judged_in text place gs ++ given_as (judged_packet text (place_after place gs) g.packet) g.offset
judged_snoc text place [] g = append-nil (given_as (judged_packet text place g.packet) g.offset)
judged_snoc text place (h ∷ gs) g =
    ap (λ (l : List Given). given_as (judged_packet text place h.packet) h.offset ++ l) (judged_snoc text (place_next place h.packet) gs g)
    ∙ sym (append_assoc (given_as (judged_packet text place h.packet) h.offset) (judged_in text (place_next place h.packet) gs)
    (given_as (judged_packet text (place_after (place_next place h.packet) gs) g.packet) g.offset))

pub kept_snoc : (gs : List Given) (g : Given) → lines_kept (gs ++ g ∷ []) ≡ lines_kept gs ++ line_kept g.packet
kept_snoc [] g = append-nil (line_kept g.packet)
kept_snoc (h ∷ gs) g =
    ap (λ (l : List ℕ). line_kept h.packet ++ l) (kept_snoc gs g) ∙ sym (append_assoc (line_kept h.packet) (lines_kept gs) (line_kept g.packet))

pub none_snoc : (packet : Pkt) (gs : List Given) (g : Given) → NoneIs packet gs → g.packet ≢ packet → NoneIs packet (gs ++ g ∷ [])
none_snoc packet [] g none other = (other, tt)
none_snoc packet (h ∷ gs) g none other = (none.0, none_snoc packet gs g none.1 other)

pub counted_snoc : (text : List ℕ) (place : Place) (gs : List Given) (g : Given)
    → counted_in text place (gs ++ g ∷ []) ≡ counted_in text place gs + counted_at text (place_after place gs) g.packet
counted_snoc text place [] g = omega arith
counted_snoc text place (h ∷ gs) g = omega (arith, counted_snoc text (place_next place h.packet) gs g)

pub noted_snoc : (text : List ℕ) (place : Place) (noted : Noted) (gs : List Given) (g : Given)
    → noted_from text place noted (gs ++ g ∷ []) ≡ noted_with text (place_after place gs) (noted_from text place noted gs) g.packet
noted_snoc text place noted [] g = refl
noted_snoc text place noted (h ∷ gs) g = noted_snoc text (place_next place h.packet) (noted_with text place noted h.packet) gs g
