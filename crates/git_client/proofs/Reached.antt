-- The state of a conversation once a client has read some bytes: after whole packets, or in the packfile section after bytes that passed.
use Rattle.std.proofs.Common.{◌≡◌, ◌≢◌, ℕ, Bool, true, false, cond, List, [], ◌∷◌, ◌++◌, length, Option, refl, ap, sym, ◌∙◌, subst}
use Rattle.std.proofs.Common.{append_assoc, append-nil}
use Rattle.git_pkt.specs.Packets.{Pkt, payload}
use Rattle.git_pkt.specs.Splits.{Given, Splits}
use Rattle.git_pkt.specs.Passed.{OnBand, is_on_band, others, passed_by, passed_by_all, passed_by_rest, passed_in}
use Rattle.git_pkt.specs.Machine.PacketReader.{Reads, ReadsOn}
use Rattle.git_pkt.specs.Machine.BandReader.{ReadsBandsOn}
use Rattle.git_pkt.specs.declared.reader.PacketReader.{PacketReader}
use Rattle.git_pkt.proofs.Streams.{one_split}
use Rattle.git_msg.specs.Advertisement.{noted_of}
use Rattle.git_msg.specs.Asked.{Asked}
use Rattle.git_msg.specs.declared.offers.Caps.{Caps}
use Rattle.git_client.specs.Parts.{Terms, nearest, advertisement_of}
use Rattle.git_client.specs.Places.{Place, place_after}
use Rattle.git_client.specs.Events.{EventValue}
use Rattle.git_client.specs.Opened.{events_on, opened_in}
use Rattle.git_client.specs.Conversation.{GivesAt, GiveAll}
use Rattle.git_client.specs.Machine.Turns.{question_in}
use Rattle.git_client.specs.Machine.Client.{History, Converses, StandsIn, Goes, IsExpected, caps_of, phase_of, reader_of, request_of}
use Rattle.git_client.specs.declared.phase.Phase.{Phase}
use Rattle.git_client.specs.declared.phase.Phase.TheVariants.{Receiving}
use Rattle.git_client.specs.declared.phase.Expected.{Expected}
use Rattle.git_client.specs.declared.phase.Expected.TheVariants.{Packfile}
use Rattle.git_client.specs.declared.client.Client.{Client}
use Rattle.git_client.proofs.Sequences.{nearest-append, give_all_append}
use Rattle.git_client.proofs.Judged.{place_is, gives_well}
use Rattle.git_client.proofs.Opened.{band_gives, events_on-append, not_opened}

-- ---- packets of the packfile section whose bytes have passed

-- one of them
one_gives : (t : Terms) (asked : List Asked) (before : List Pkt) (caps : Caps) (p : Pkt) → is_on_band p ≡ true → IsExpected t asked before Packfile
    → caps ≡ noted_of (advertisement_of before)
    → GivesAt t asked before p (events_on (passed_by p)) × (caps ≡ noted_of (advertisement_of (p ∷ before))) × IsExpected t asked (p ∷ before) Packfile
one_gives t asked before caps (payload bytes) on is notes =
    gives_well t asked before Packfile caps caps (payload bytes) (events_on (passed_in bytes)) is notes (band_gives bytes on) refl
one_gives t asked before caps p on is notes = absurd (cc)

first_on_band : (b : Bool) (g : Given) (gs : List Given) → cond b (others gs) (g ∷ others gs) ≡ [] → (b ≡ true) × (others gs ≡ [])
first_on_band true g gs e = (refl, e)
first_on_band false g gs e = absurd (cc)

-- all of them: they give the bytes that passed, note nothing, and stay in the section
bands_give : (t : Terms) (asked : List Asked) (before : List Pkt) (caps : Caps) (gs : List Given) → IsExpected t asked before Packfile
    → caps ≡ noted_of (advertisement_of before) → others gs ≡ []
    → GiveAll t asked before gs (events_on (passed_by_all gs)) × (caps ≡ noted_of (advertisement_of (nearest gs before)))
    × IsExpected t asked (nearest gs before) Packfile
bands_give t asked before caps [] is notes all = (refl, notes, is)
bands_give t asked before caps (g ∷ gs) is notes all =
    let (on, rest) = first_on_band (is_on_band g.packet) g gs all in
    let (gives, noted, expected) = one_gives t asked before caps g.packet on is notes in
    let (later, noted_on, expected_on) = bands_give t asked (g.packet ∷ before) caps gs expected noted rest in (
      (
        events_on (passed_by g.packet),
        events_on (passed_by_all gs),
        events_on-append (passed_by g.packet) (passed_by_all gs),
        gives,
        later,
      ),
      noted_on,
      expected_on,
    )

module _ {A : Type 0} where
  -- Packets without an error were read, and then the returned ones. The open packet's events were handed out while its bytes were read.
  pub record Reached (t : Terms) (h : History) (old : Client A) (expected : Expected) (u : List ℕ) (announced : List Given) (parts : List EventValue)
      (reader : PacketReader) : Type 0 where
    pub clean : List Given
    pub whole : List EventValue
    pub rest : List ℕ
    pub reads : Reads reader 0 (h.used ++ u) (clean ++ announced) rest
    pub gives : GiveAll t h.asked [] clean whole
    pub notes : caps_of old ≡ noted_of (advertisement_of (nearest clean []))
    pub is_expected : IsExpected t h.asked (nearest clean []) expected
    pub events_are : h.events ++ parts ≡ whole ++ opened_in (place_after t h.asked (nearest clean [])) rest

  -- for any history before
  abbrev pub Reaches : Client A → Expected → List ℕ → List Given → List EventValue → PacketReader → Type 0
  Reaches old expected u announced parts reader = (t : Terms) (h : History) → Converses t h old → Reached t h old expected u announced parts reader

  goes_receiving : (t : Terms) (h : History) (old : Client A) (expected : Expected) (c : Converses t h old) → phase_of old ≡ Receiving expected
      → Goes t h.asked c.clean c.given c.rest (question_in (request_of old)) (Receiving expected) (reader_of old)
  goes_receiving t h old expected c receiving =
      subst (λ (phase : Phase). StandsIn phase t h.asked c.clean c.given c.rest (length h.used) (question_in (request_of old)) (reader_of old)) receiving
      c.stands

  -- by `feed`, which passes no bytes on
  pub reach_lines : (old : Client A) (expected : Expected) (u : List ℕ) (announced : List Given) (reader : PacketReader) → phase_of old ≡ Receiving expected
      → expected ≢ Packfile → ReadsOn (reader_of old) u announced reader → Reaches old expected u announced [] reader
  reach_lines old expected u announced reader receiving other reads t h c =
      let goes = goes_receiving t h old expected c receiving in
      let on = reads 0 h.used c.given c.rest c.reads in
      let place = place_is t h.asked (nearest c.clean []) expected (caps_of old) goes.behind c.notes in
      let none : (rest : List ℕ) → opened_in (place_after t h.asked (nearest c.clean [])) rest ≡ [] =
      λ rest. ap (λ (p : Option Place). opened_in p rest) place ∙ not_opened expected other (caps_of old) t.format rest in
      record {
        clean = c.clean;
        whole = c.whole;
        rest = on.0;
        reads = subst (λ (given : List Given). Reads reader 0 (h.used ++ u) (given ++ announced) on.0) goes.cut on.1;
        gives = c.gives;
        notes = c.notes;
        is_expected = goes.behind;
        events_are =
            append-nil h.events ∙ c.events_are ∙ ap (λ (l : List EventValue). c.whole ++ l) (none c.rest ∙ sym (none on.0));
      }

  -- by `feed_band`
  pub reach_bands : (old : Client A) (u : List ℕ) (announced : List Given) (parts : List OnBand) (reader : PacketReader) → phase_of old ≡ Receiving Packfile
      → ReadsBandsOn (reader_of old) u announced parts reader → Reaches old Packfile u announced (events_on parts) reader
  reach_bands old u announced parts reader receiving reads t h c =
      let goes = goes_receiving t h old Packfile c receiving in
      let on = reads 0 h.used c.given c.rest c.reads in
      let clean = c.clean ++ on.passed in
      let gifts = events_on (passed_by_all on.passed) in
      let (gives, noted, expected) = bands_give t h.asked (nearest c.clean []) (caps_of old) on.passed goes.behind c.notes on.on_bands in
      let after : nearest clean [] ≡ nearest on.passed (nearest c.clean []) = nearest-append c.clean on.passed [] in
      let notes : caps_of old ≡ noted_of (advertisement_of (nearest clean [])) =
      subst (λ (l : List Pkt). caps_of old ≡ noted_of (advertisement_of l)) (sym after) noted in
      let is_expected : IsExpected t h.asked (nearest clean []) Packfile = subst (λ (l : List Pkt). IsExpected t h.asked l Packfile) (sym after) expected in
      let opened_before : opened_in (place_after t h.asked (nearest c.clean [])) c.rest ≡ events_on (passed_by_rest c.rest) =
      ap (λ (p : Option Place). opened_in p c.rest) (place_is t h.asked (nearest c.clean []) Packfile (caps_of old) goes.behind c.notes) in
      let opened_after : opened_in (place_after t h.asked (nearest clean [])) on.later ≡ events_on (passed_by_rest on.later) =
      ap (λ (p : Option Place). opened_in p on.later) (place_is t h.asked (nearest clean []) Packfile (caps_of old) is_expected notes) in
      let joined : events_on (passed_by_rest c.rest) ++ events_on parts ≡ gifts ++ events_on (passed_by_rest on.later) =
      sym (events_on-append (passed_by_rest c.rest) parts)
      ∙ ap events_on (sym on.joins)
      ∙ events_on-append (passed_by_all on.passed) (passed_by_rest on.later) in
      let given : c.given ++ (on.passed ++ announced) ≡ clean ++ announced =
      ap (λ (l : List Given). l ++ (on.passed ++ announced)) goes.cut ∙ sym (append_assoc c.clean on.passed announced) in
      record {
        clean = clean;
        whole = c.whole ++ gifts;
        rest = on.later;
        reads = subst (λ (gs : List Given). Reads reader 0 (h.used ++ u) gs on.later) given on.reads;
        gives = give_all_append t h.asked [] c.clean on.passed c.whole gifts c.gives gives;
        notes = notes;
        is_expected = is_expected;
        events_are =
            ap (λ (l : List EventValue). l ++ events_on parts) (c.events_are ∙ ap (λ (l : List EventValue). c.whole ++ l) opened_before)
            ∙ append_assoc c.whole (events_on (passed_by_rest c.rest)) (events_on parts)
            ∙ ap (λ (l : List EventValue). c.whole ++ l) joined
            ∙ sym (append_assoc c.whole gifts (events_on (passed_by_rest on.later)))
            ∙ ap (λ (l : List EventValue). (c.whole ++ gifts) ++ l) (sym opened_after);
      }

  -- at the end of the input, without another byte
  pub reach_end : (old : Client A) (expected : Expected) (reader : PacketReader) → phase_of old ≡ Receiving expected → ReadsOn (reader_of old) [] [] reader
      → Reaches old expected [] [] [] reader
  reach_end old expected reader receiving reads t h c =
      let goes = goes_receiving t h old expected c receiving in
      let on = reads 0 h.used c.given c.rest c.reads in
      let now : Splits 0 h.used c.given on.0 =
      subst (λ (bytes : List ℕ). Splits 0 bytes c.given on.0) (append-nil h.used)
      (subst (λ (given : List Given). Splits 0 (h.used ++ []) given on.0) (append-nil c.given) on.1.splits) in
      let same : c.rest ≡ on.0 =
      (one_split 0 h.used c.given c.given c.rest on.0 c.reads.splits.spelled now.spelled c.reads.splits.ends now.ends).rest_is in
      record {
        clean = c.clean;
        whole = c.whole;
        rest = on.0;
        reads = subst (λ (given : List Given). Reads reader 0 (h.used ++ []) (given ++ []) on.0) goes.cut on.1;
        gives = c.gives;
        notes = c.notes;
        is_expected = goes.behind;
        events_are =
            append-nil h.events
            ∙ c.events_are
            ∙ ap (λ (rest : List ℕ). c.whole ++ opened_in (place_after t h.asked (nearest c.clean [])) rest) same;
      }
