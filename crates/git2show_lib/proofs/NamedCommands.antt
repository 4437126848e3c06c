-- The line of a request that names a command which is not known, and the lines before it.
use Rattle.std.proofs.Common.{◌≡◌, ◌≢◌, ℕ, Bool, true, false, not, ◌&&◌, List, [], ◌∷◌, ◌++◌, Option, Some, None, codes, if◌then◌else◌}
use Rattle.std.proofs.Common.{refl, sym, ap, ◌∙◌, append_assoc}
use Rattle.std.specs.Str.{bytes_eq}
use Rattle.git_pkt.specs.Packets.{Pkt, flush, delim, resp_end, payload, text_of}
use Rattle.git_pkt.specs.Splits.{Given}
use Rattle.git_msg.specs.Advertisement.{key_of, value_of}
use Rattle.git_msg.specs.Requests.{AreBegun}
use Rattle.git_msg.specs.declared.arguments.Command.{Command}
use Rattle.git_msg.proofs.WholeRequests.{NoFlush, lines_have_no_flush}
use Rattle.git2show_lib.specs.Others.{Advertised, BeginWithOther, NoneIs, NoneNames, command_named, first_place, given_as, is_advertised, is_other_command}
use Rattle.git2show_lib.specs.Others.{is_own_key, judged_in, judged_of, judged_packet, names_other, place_after, place_at_line, place_next}
use Rattle.git2show_lib.specs.OtherLines.{Noted, asks_at, asks_line, asks_nothing, name_shown, named_by, named_in, nothing_noted, noted_from, noted_of}
use Rattle.git2show_lib.specs.OtherLines.{noted_with, shown_at}
use Rattle.git2show_lib.specs.declared.other_lines.Asks.{Asks}
use Rattle.git2show_lib.specs.declared.others.Place.{Place}
use Rattle.git2show_lib.specs.declared.others.Place.TheVariants.{Unnamed, Named, Arguments}

-- ---- no flush is among lines that begin a request

judged_flush : (text : List ℕ) (place : Place) (p : Pkt) (offset : ℕ) (more : List Given)
    → NoFlush (given_as (judged_packet text place p) offset ++ more) → p ≢ flush
judged_flush text place flush offset more none e = none.0 refl
judged_flush text place delim offset more none e = cc
judged_flush text place resp_end offset more none e = cc
judged_flush text place (payload bytes) offset more none e = cc

none_behind : (judged : Option Pkt) (offset : ℕ) (more : List Given) → NoFlush (given_as judged offset ++ more) → NoFlush more
none_behind None offset more none = none
none_behind (Some packet) offset more none = none.1

no_flush : (text : List ℕ) (place : Place) (gs : List Given) → NoFlush (judged_in text place gs) → NoneIs flush gs
no_flush text place [] none = tt
no_flush text place (g ∷ gs) none =
    let next = place_next place g.packet in (
      judged_flush text place g.packet g.offset (judged_in text next gs) none,
      no_flush text next gs (none_behind (judged_packet text place g.packet) g.offset (judged_in text next gs) none),
    )

pub begun_no_flush : (by : Advertised) (limit : ℕ) (left : List Given) → AreBegun by.offer limit (judged_of by.text left) → NoneIs flush left
begun_no_flush by limit left (lines, begun) =
    no_flush by.text first_place left (lines_have_no_flush by.offer limit [] (judged_of by.text left) lines begun)

-- ---- places

unnamed_line : (place : Place) (line : List ℕ) → place_at_line place line ≡ Unnamed → place ≡ Unnamed
unfolding place_at_line
unnamed_line Unnamed line e = refl
unnamed_line (Named command) line e = e
unnamed_line (Arguments command) line e = e

unnamed_before : (place : Place) (p : Pkt) → p ≢ flush → place_next place p ≡ Unnamed → place ≡ Unnamed
unnamed_before place flush other e = absurd (other refl)
unnamed_before place delim other e = absurd (cc)
unnamed_before place resp_end other e = e
unnamed_before place (payload bytes) other e = unnamed_line place (text_of bytes) e

-- where no line has named a command up to the end, none had at the beginning
unnamed_first : (place : Place) (gs : List Given) → NoneIs flush gs → place_after place gs ≡ Unnamed → place ≡ Unnamed
unnamed_first place [] none e = e
unnamed_first place (g ∷ gs) none e =
    unnamed_before place g.packet none.0 (unnamed_first (place_next place g.packet) gs none.1 e)

-- behind the line that names a command, one has
names_line : (named own advertised : Bool) (command : Option Command) → (named && not own && advertised) ≡ true
    → (if named then Named command else Unnamed) ≡ Unnamed → ⊥
names_line true own advertised command names e = cc
names_line false own advertised command names e = cc

named_behind : (text : List ℕ) (p : Pkt) → names_other text Unnamed p ≡ true → place_next Unnamed p ≡ Unnamed → ⊥
unfolding is_other_command place_at_line
named_behind text flush names e = cc
named_behind text delim names e = cc
named_behind text resp_end names e = cc
named_behind text (payload bytes) names e =
    let line = text_of bytes in
    names_line (bytes_eq (key_of line) (codes "command")) (is_own_key (value_of line)) (is_advertised text None (value_of line))
    (command_named (value_of line)) names e

pub not_true : (b : Bool) → (b ≡ true → ⊥) → b ≡ false
not_true true other = absurd (other refl)
not_true false other = refl

pub named_place : (text : List ℕ) (place : Place) (p : Pkt) → names_other text place p ≡ true → place ≡ Unnamed
named_place text Unnamed p names = refl
named_place text (Named command) p names = absurd (cc)
named_place text (Arguments command) p names = absurd (cc)

pub named_no_flush : (text : List ℕ) (place : Place) (p : Pkt) → names_other text place p ≡ true → p ≢ flush
named_no_flush text Unnamed flush names e = cc
named_no_flush text (Named command) flush names e = cc
named_no_flush text (Arguments command) flush names e = cc
named_no_flush text place delim names e = cc
named_no_flush text place resp_end names e = cc
named_no_flush text place (payload bytes) names e = cc

pub names_snoc : (text : List ℕ) (place : Place) (gs : List Given) (g : Given) → NoneNames text place gs
    → names_other text (place_after place gs) g.packet ≡ false → NoneNames text place (gs ++ g ∷ [])
names_snoc text place [] g none unnamed = (unnamed, tt)
names_snoc text place (h ∷ gs) g none unnamed = (none.0, names_snoc text (place_next place h.packet) gs g none.1 unnamed)

-- ---- the lines before the one that names the command

asks_before : (text : List ℕ) (asks : Asks) (p : Pkt) → asks_at text Unnamed asks p ≡ asks
unfolding asks_line
asks_before text asks flush = refl
asks_before text asks delim = refl
asks_before text asks resp_end = refl
asks_before text asks (payload bytes) = refl

module _ (text : List ℕ) where
  -- they ask nothing
  asks_none : (place : Place) (noted : Noted) (front : List Given) → place ≡ Unnamed → NoneIs flush front → place_after place front ≡ Unnamed
      → (noted_from text place noted front).asks ≡ noted.asks
  asks_none place noted [] first none e = refl
  asks_none place noted (g ∷ gs) first none e =
      let next = place_next place g.packet in
      asks_none next (noted_with text place noted g.packet) gs (unnamed_first next gs none.1 e) none.1 e
      ∙ ap (λ (p : Place). asks_at text p noted.asks g.packet) first ∙ asks_before text noted.asks g.packet

  -- one of them, which names none
  named_next : (place : Place) (g : Given) (gs : List Given) → place ≡ Unnamed → NoneIs flush (g ∷ gs)
      → place_after place (g ∷ gs) ≡ Unnamed → names_other text place g.packet ≡ false
  named_next place g gs first none e =
      not_true (names_other text place g.packet) (λ names.
      named_behind text g.packet (ap (λ (p : Place). names_other text p g.packet) (sym first) ∙ names)
      (ap (λ (p : Place). place_next p g.packet) (sym first) ∙ unnamed_first (place_next place g.packet) gs none.1 e))

  -- they have the lines that are noted, and the line that names the command comes after these
  named_lines : (place : Place) (noted : Noted) (front : List Given) (named : Given) (more : List Given) → place ≡ Unnamed → NoneIs flush front
      → place_after place front ≡ Unnamed → names_other text (place_after place front) named.packet ≡ true
      → noted.lines ++ named_in text place (front ++ named ∷ more) ≡ (noted_from text place noted front).lines ++ name_shown named.packet
  named_lines place noted [] named more first none e names =
      ap (λ (b : Bool). noted.lines
      ++ (if b then name_shown named.packet else shown_at text place named.packet ++ named_in text (place_next place named.packet) more)) names
  named_lines place noted (g ∷ gs) named more first none e names =
      let next = place_next place g.packet in
      let shown = shown_at text place g.packet in
      let behind = named_in text next (gs ++ named ∷ more) in
      ap (λ (b : Bool). noted.lines ++ (if b then name_shown g.packet else shown ++ behind)) (named_next place g gs first none e)
      ∙ sym (append_assoc noted.lines shown behind)
      ∙ named_lines next (noted_with text place noted g.packet) gs named more (unnamed_first next gs none.1 e) none.1 e names

module _ (by : Advertised) (limit : ℕ) where
  pub begins_on : (left : List Given) (g : Given) → BeginWithOther by limit left → BeginWithOther by limit (left ++ g ∷ [])
  begins_on left g h = record {
    front = h.front;
    named = h.named;
    more = h.more ++ g ∷ [];
    parts = ap (λ (l : List Given). l ++ g ∷ []) h.parts ∙ append_assoc h.front (h.named ∷ h.more) (g ∷ []);
    begun = h.begun;
    kept = h.kept;
    names = h.names;
  }

  -- the lines of such a request are those noted of the packets before its name, and the name
  pub named_as : (left : List Given) (h : BeginWithOther by limit left)
      → named_by by.text left ≡ (noted_of by.text h.front).lines ++ name_shown h.named.packet
  named_as left h =
      ap (λ (l : List Given). named_by by.text l) h.parts
      ∙ named_lines by.text first_place nothing_noted h.front h.named h.more refl (begun_no_flush by limit h.front h.begun)
      (named_place by.text (place_after first_place h.front) h.named.packet h.names) h.names

  -- packets after the name add nothing
  pub named_snoc : (left : List Given) (g : Given) → BeginWithOther by limit left → named_by by.text (left ++ g ∷ []) ≡ named_by by.text left
  unfolding begins_on
  named_snoc left g h = named_as (left ++ g ∷ []) (begins_on left g h) ∙ sym (named_as left h)

  -- up to the name nothing is asked
  pub asked_none : (front : List Given) (named : Given) → AreBegun by.offer limit (judged_of by.text front)
      → names_other by.text (place_after first_place front) named.packet ≡ true → (noted_of by.text front).asks ≡ asks_nothing
  asked_none front named begun names =
      asks_none by.text first_place nothing_noted front refl (begun_no_flush by limit front begun)
      (named_place by.text (place_after first_place front) named.packet names)
