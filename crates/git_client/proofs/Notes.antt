-- What an advertisement noted never changes, however the conversation goes on.
use Rattle.std.proofs.Common.{arith, if◌then◌else◌, ◌≡◌, ℕ, zero, suc, ◌+◌, ◌<◌, List, [], ◌∷◌, ◌++◌, length, refl, sym, ap, ◌∙◌, subst, append-nil}
use Rattle.git_pkt.specs.Packets.{Pkt, flush, delim, resp_end, payload, flushes}
use Rattle.git_pkt.specs.Splits.{Given, NoneBegins, SpellsAll}
use Rattle.git_pkt.proofs.Spelling.{same_start}
use Rattle.git_pkt.proofs.Streams.{spells_all_more}
use Rattle.git_msg.specs.Advertisement.{noted_of}
use Rattle.git_msg.specs.Asked.{Asked}
use Rattle.git_msg.specs.declared.offers.Caps.{Caps}
use Rattle.git_client.specs.Conversation.{GiveAll, GivesAt, HasNoted, IsConversation, IsStop}
use Rattle.git_client.specs.Events.{EventValue}
use Rattle.git_client.specs.Parts.{Terms, advertisement_of, is_zero, nearest}
use Rattle.git_client.proofs.Determined.{excluded}
use Rattle.git_client.proofs.Sequences.{gives_more, nearest-append}

same_given : (g h : Given) → g.packet ≡ h.packet → g.offset ≡ h.offset → g ≡ h
same_given g h packet offset =
    ap (λ (p : Pkt). let made : Given = record { packet = p; offset = g.offset } in made) packet
    ∙ ap (λ (n : ℕ). let made : Given = record { packet = h.packet; offset = n } in made) offset

-- of two splits of the same bytes, the shorter one's packets are the first of the complete one's
pub first_of_split : (p : ℕ) (bytes : List ℕ) (gs hs : List Given) (x rest : List ℕ) → SpellsAll p bytes gs x → SpellsAll p bytes hs rest → NoneBegins rest
    → (tail : List Given) × (hs ≡ gs ++ tail)
first_of_split p bytes [] hs x rest a b none = (hs, refl)
first_of_split p bytes (g ∷ gs) [] x rest (s, more, parts, at, spells, onward) b none = absurd (none g.packet s more (sym b ∙ parts) spells)
first_of_split p bytes (g ∷ gs) (h ∷ hs) x rest (s, more, parts, at, spells, onward) (u, later, others, place, announces, after) none =
    let same = same_start g.packet h.packet s u more later spells announces (sym parts ∙ others) in
    let moved : SpellsAll (p + length s) more hs rest =
    subst (λ (l : List ℕ). SpellsAll (p + length l) more hs rest) (sym same.spelling)
    (subst (λ (l : List ℕ). SpellsAll (p + length u) l hs rest) (sym same.rest) after) in
    let (tail, is) = first_of_split (p + length s) more gs hs x rest onward moved none in
    (tail, ap (λ (k : Given). k ∷ hs) (sym (same_given g h same.packet (at ∙ sym place))) ∙ ap (λ (l : List Given). g ∷ l) is)

refused_at : (t : Terms) (asked : List Asked) (before : List Pkt) (g : Given) (gs more : List Given) (now : List EventValue) → more ≡ g ∷ gs
    → IsStop t asked before more → GivesAt t asked before g.packet now → ⊥
refused_at t asked before g gs [] now e s a = absurd (cc)
refused_at t asked before g gs (h ∷ hs) now e s a =
    let same : h ≡ g = cc in
    excluded t asked before h.packet now s.0 (subst (λ (x : Given). GivesAt t asked before x.packet now) (sym same) a) s.1

-- packets that are not refused are the first of those before a refused one
pub first_of_cut : (t : Terms) (asked : List Asked) (before : List Pkt) (gs clean x more : List Given) (events : List EventValue) → gs ++ x ≡ clean ++ more
    → GiveAll t asked before gs events → IsStop t asked (nearest clean before) more → (tail : List Given) × (clean ≡ gs ++ tail)
first_of_cut t asked before [] clean x more events e a stop = (clean, refl)
first_of_cut t asked before (g ∷ gs) [] x more events e a stop = absurd (refused_at t asked before g (gs ++ x) more a.0 (sym e) stop a.3)
first_of_cut t asked before (g ∷ gs) (h ∷ clean) x more events e a stop =
    let head : h ≡ g = cc in
    let rest : gs ++ x ≡ clean ++ more = cc in
    let moved : IsStop t asked (nearest clean (g.packet ∷ before)) more =
    subst (λ (k : Given). IsStop t asked (nearest clean (k.packet ∷ before)) more) head stop in
    let (tail, is) = first_of_cut t asked (g.packet ∷ before) gs clean x more a.1 rest a.4 moved in
    (tail, ap (λ (k : Given). k ∷ clean) head ∙ ap (λ (l : List Given). g ∷ l) is)

some_more : (p : Pkt) (before : List Pkt) → 0 < flushes before → 0 < flushes (p ∷ before)
some_more flush before some = omega arith
some_more delim before some = some
some_more resp_end before some = some
some_more (payload x) before some = some

no_part : (p : Pkt) (before : List Pkt) (n : ℕ) → flushes before ≡ n → 0 < n → advertisement_of (p ∷ before) ≡ advertisement_of before
no_part p before zero e some = absurd (omega (arith, some))
no_part p before (suc n) e some =
    ap (λ (k : ℕ). if is_zero k then p ∷ advertisement_of before else advertisement_of before) e

-- the advertisement is whole after a flush
pub stays_advertised : (gs : List Given) (before : List Pkt) → 0 < flushes before → advertisement_of (nearest gs before) ≡ advertisement_of before
stays_advertised [] before some = refl
stays_advertised (g ∷ gs) before some =
    stays_advertised gs (g.packet ∷ before) (some_more g.packet before some) ∙ no_part g.packet before (flushes before) refl some

module _ (t : Terms) (asked : List Asked) (used : List ℕ) (events : List EventValue) (whole : IsConversation t asked used events) where
  -- a conversation that goes on from a whole one has the same notes
  pub noted_at : (more : List Asked) (asked_all : List Asked) (x used_all : List ℕ) (caps : Caps) → asked_all ≡ asked ++ more → used_all ≡ used ++ x
      → HasNoted t asked_all used_all caps → caps ≡ noted_of (advertisement_of (nearest whole.given []))
  noted_at more asked_all x used_all caps same_asked same_used (clean, later, sounds, is) =
      let spells : SpellsAll 0 used_all whole.given x =
      subst (λ (l : List ℕ). SpellsAll 0 l whole.given x) (sym same_used) (spells_all_more 0 used whole.given [] x whole.splits.spelled) in
      let (tail, split) = first_of_split 0 used_all whole.given sounds.given x sounds.rest spells sounds.splits.spelled sounds.splits.ends in
      let gives : GiveAll t asked_all [] whole.given events =
      subst (λ (l : List Asked). GiveAll t l [] whole.given events) (sym same_asked) (gives_more t asked more [] whole.given events whole.gives) in
      let (others, cut) = first_of_cut t asked_all [] whole.given clean tail sounds.more events (sym split ∙ sounds.cut) gives sounds.stops in
      is ∙ ap noted_of (ap (λ (l : List Given). advertisement_of (nearest l [])) cut ∙ ap advertisement_of (nearest-append whole.given others [])
      ∙ stays_advertised others (nearest whole.given []) (omega (arith, whole.all_flushes)))

  -- two such conversations have the same notes
  pub noted_same : (more : List Asked) (asked_all : List Asked) (x used_all : List ℕ) (caps others : Caps) → asked_all ≡ asked ++ more → used_all ≡ used ++ x
      → HasNoted t asked_all used_all caps → HasNoted t asked used others → caps ≡ others
  noted_same more asked_all x used_all caps others same_asked same_used now before =
      noted_at more asked_all x used_all caps same_asked same_used now
      ∙ sym (noted_at [] asked [] used others (sym (append-nil asked)) (sym (append-nil used)) before)
