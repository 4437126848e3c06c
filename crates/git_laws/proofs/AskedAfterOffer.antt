-- A client asks only after the advertisement, so it has noted the server's format before it sends the first request.
use Rattle.std.proofs.Common.{arith, ◌≡◌, ◌⊎◌, inl, inr, ℕ, ◌+◌, ◌<◌, List, [], ◌∷◌, ◌++◌, codes, length, refl, ap, sym, ◌∙◌, subst, append_assoc, take}
use Rattle.git_names.specs.declared.object_format.Format.{Format}
use Rattle.git_pkt.specs.Packets.{Pkt, flush, flushes}
use Rattle.git_pkt.specs.Splits.{Given, SpellsAll}
use Rattle.git_pkt.proofs.Streams.{spells_all_more}
use Rattle.git_msg.specs.Agents.{own_agent}
use Rattle.git_msg.specs.Advertisement.{everything, noted_of}
use Rattle.git_msg.specs.Asked.{Asked}
use Rattle.git_msg.specs.Lines.{IsFormatMeant}
use Rattle.git_msg.specs.Machine.HeldRequest.{asked_of}
use Rattle.git_msg.specs.WrittenRequest.{agent_line, format_line, text_line}
use Rattle.git_msg.specs.declared.offers.Caps.{Caps}
use Rattle.git_msg.specs.declared.requests.Request.{Request}
use Rattle.git_client.specs.Conversation.{GiveAll, HasNoted}
use Rattle.git_client.specs.Events.{EventValue}
use Rattle.git_client.specs.Machine.Calls.{Call, ask, ask_refused, leave, pull, feed, close, Makes, after_call}
use Rattle.git_client.specs.Machine.Client.{Asks, Converses, History, phase_of, reader_of, request_of}
use Rattle.git_client.specs.Machine.Turns.{question_in}
use Rattle.git_client.specs.Parts.{Terms, advertisement_of, nearest}
use Rattle.git_client.specs.declared.client.Client.{Client}
use Rattle.git_client.proofs.ConversationRules.{cut_at}
use Rattle.git_client.proofs.Notes.{first_of_cut, first_of_split}
use Rattle.git_client.proofs.Sequences.{nearest-append}
use Rattle.git_client.proofs.Truncation.{asks_in}
use Rattle.git_server.specs.Answers.{AllFit, advertisement_of as server_sends, fetch_line, ls_refs_line, spelled}
use Rattle.git_server.proofs.Flushes.{flushes-append}
use Rattle.git_laws.specs.AnnouncedAnswers.{packets_of}
use Rattle.git_laws.proofs.FrontsReceived.{IsReport, before_report, front_of}
use Rattle.git_laws.proofs.ReceivingOffers.{format_meant, lines_stated, nearest_offer, noted_after_all}
use Rattle.git_laws.proofs.RequestsReceived.{join_packets}

-- ---- what comes before the first request

-- the bytes used begin with packets that are not refused, with a flush among them
pub record HasOffer (t : Terms) (asked : List Asked) (used : List ℕ) : Type 0 where
  pub first : List Given
  pub rest : List ℕ
  pub events : List EventValue
  pub spells : SpellsAll 0 used first rest
  pub gives : GiveAll t asked [] first events
  pub flushed : 0 < flushes (nearest first [])

abbrev pub AsksAfterOffer : Terms → List Asked → List ℕ → Type 0
AsksAfterOffer t asked used = (asked ≡ []) ⊎ HasOffer t asked used

-- more bytes were used
offer_stays : (t : Terms) (asked : List Asked) (used more : List ℕ) → AsksAfterOffer t asked used → AsksAfterOffer t asked (used ++ more)
offer_stays t asked used more (inl none) = inl none
offer_stays t asked used more (inr o) = inr (record {
  first = o.first;
  rest = o.rest ++ more;
  events = o.events;
  spells = spells_all_more 0 used o.first o.rest more o.spells;
  gives = o.gives;
  flushed = o.flushed;
})

module _ {A : Type 0} where
  -- a request was asked
  offer_before : (t : Terms) (h : History) (old new : Client A) (request : Request A) → Asks old request new → Converses t h old
      → HasOffer t (h.asked ++ asked_of request ∷ []) h.used
  offer_before t h old new request asks c =
      let d = asks.asks t h c in
      let (cut, behind) =
      asks_in t (h.asked ++ asked_of request ∷ []) d.clean d.given d.rest (length h.used) (question_in (request_of new)) (reader_of new) (phase_of new)
      (request_of new) _ _ asks.has_unsent d.stands in
      record {
        first = d.clean;
        rest = d.rest;
        events = d.whole;
        spells = subst (λ (gs : List Given). SpellsAll 0 h.used gs d.rest) cut d.reads.splits.spelled;
        gives = d.gives;
        flushed = omega (arith, behind.whole.all_flushes);
      }

  pub asks_after_offer : (t : Terms) (call : Call A) (h : History) (before : ℕ) (old : Client A) (after : ℕ) (new : Client A) → Makes call before old after new
      → Converses t h old → AsksAfterOffer t h.asked h.used → AsksAfterOffer t (after_call h call).asked (after_call h call).used
  asks_after_offer t (ask request) h before old after new made c o = inr (offer_before t h old new request made.0 c)
  asks_after_offer t (ask_refused request handed_back fault) h before old after new made c o = o
  asks_after_offer t leave h before old after new made c o = o
  asks_after_offer t (pull sent) h before old after new made c o = o
  asks_after_offer t (feed chunk answer) h before old after new made c o = offer_stays t h.asked h.used (take answer.used chunk) o
  asks_after_offer t (close fault) h before old after new made c o = o

-- ---- what the advertisement notes

flushes_nearest : (gs : List Given) (before : List Pkt) → flushes (nearest gs before) ≡ flushes (packets_of gs) + flushes before
flushes_nearest [] before = omega arith
flushes_nearest (g ∷ gs) before =
    omega (arith, flushes_nearest gs (g.packet ∷ before), flushes-append (g.packet ∷ []) before, flushes-append (g.packet ∷ []) (packets_of gs))

-- packets that go on past the first flush of a list begin with the list up to that flush
past_flush : (ps lines more back : List Pkt) → ps ++ more ≡ (lines ++ flush ∷ []) ++ back → flushes lines ≡ 0 → 0 < flushes ps
    → (tail : List Pkt) × (ps ≡ (lines ++ flush ∷ []) ++ tail)
past_flush [] lines more back e clear some = absurd (omega (arith, some))
past_flush (p ∷ ps) [] more back e clear some = let same : p ≡ flush = cc in (ps, ap (λ (q : Pkt). q ∷ ps) same)
past_flush (p ∷ ps) (line ∷ lines) more back e clear some =
    let same : p ≡ line = cc in
    let rest : ps ++ more ≡ (lines ++ flush ∷ []) ++ back = cc in
    let one : flushes (p ∷ []) ≡ flushes (line ∷ []) = ap (λ (q : Pkt). flushes (q ∷ [])) same in
    let (tail, is) = past_flush ps lines more back rest (omega (arith, clear, flushes-append (line ∷ []) lines))
    (omega (arith, some, clear, one, flushes-append (line ∷ []) lines, flushes-append (p ∷ []) ps)) in
    (tail, ap (λ (q : Pkt). q ∷ ps) same ∙ ap (λ (l : List Pkt). line ∷ l) is)

-- the lines of the advertisement that offers everything
abbrev lines_all : Format → List Pkt
lines_all format =
    text_line (codes "version 2") ∷ agent_line own_agent ∷ ls_refs_line (everything format) ∷ fetch_line (everything format)
    ∷ text_line (codes "server-option") ∷ format_line format ∷ text_line (codes "object-info") ∷ []

all_lines : (format : Format) → server_sends (everything format) ≡ lines_all format ++ flush ∷ []
all_lines format = refl

clear_lines : (format : Format) → flushes (lines_all format) ≡ 0
clear_lines format = refl

-- requests of a client that has asked name the format
module _ (t : Terms) (h : History) (caps : Caps) (noted : HasNoted t h.asked h.used caps) (o : HasOffer t h.asked h.used)
    (good unsent bad answers : List Pkt) (more : List ℕ) (report : IsReport bad) (fit : AllFit (good ++ bad))
    (parts : good ++ unsent ≡ server_sends (everything t.format) ++ answers) (same : h.used ++ more ≡ spelled (good ++ bad)) where
  -- the packets up to the first refused one begin with the advertisement
  offered_first : (gs : List Given) → gs ≡ noted.0 → (tail : List Pkt) × (packets_of gs ≡ server_sends (everything t.format) ++ tail)
  offered_first gs is =
      let sounds = noted.2 in
      let (tail, split) = first_of_split 0 h.used o.first sounds.given o.rest sounds.rest o.spells sounds.splits.spelled sounds.splits.ends in
      let (others, cut) = first_of_cut t h.asked [] o.first noted.0 tail sounds.more o.events (sym split ∙ sounds.cut) o.gives sounds.stops in
      let f = front_of 0 h.used more sounds.given sounds.rest (good ++ bad) fit sounds.splits.spelled same in
      let all : packets_of noted.0 ++ (packets_of sounds.more ++ f.later) ≡ good ++ bad =
      sym (append_assoc (packets_of noted.0) (packets_of sounds.more) f.later)
      ∙ ap (λ (l : List Pkt). l ++ f.later) (sym (join_packets noted.0 sounds.more) ∙ ap packets_of (sym sounds.cut)) ∙ sym f.are in
      let (behind, first, after) =
      before_report t h.asked [] noted.0 noted.1 good bad (packets_of sounds.more ++ f.later) sounds.gives report all in
      let onward : packets_of noted.0 ++ (behind ++ unsent) ≡ (lines_all t.format ++ flush ∷ []) ++ answers =
      sym (append_assoc (packets_of noted.0) behind unsent) ∙ ap (λ (l : List Pkt). l ++ unsent) (sym first) ∙ parts in
      let some : 0 < flushes (packets_of noted.0) =
      omega (
        arith,
        o.flushed,
        flushes_nearest o.first [],
        ap (λ (l : List Given). flushes (packets_of l)) cut,
        ap flushes (join_packets o.first others),
        flushes-append (packets_of o.first) (packets_of others),
      ) in
      let (end, begins) = past_flush (packets_of noted.0) (lines_all t.format) (behind ++ unsent) answers onward (clear_lines t.format) some in
      (end, ap packets_of is ∙ begins)

  pub noted_meant : IsFormatMeant t.format caps.object_format
  noted_meant =
      let offer = everything t.format in
      let (tail, are) = offered_first noted.0 refl in
      let c = cut_at noted.0 (server_sends offer) tail are in
      let order : nearest noted.0 [] ≡ nearest c.second (flush ∷ lines_stated offer) =
      ap (λ (l : List Given). nearest l []) c.whole ∙ nearest-append c.first c.second [] ∙ ap (nearest c.second) (nearest_offer offer c.first c.first_are) in
      let is : caps ≡ noted_of (flush ∷ lines_stated offer) =
      noted.3 ∙ ap (λ (l : List Pkt). noted_of (advertisement_of l)) order ∙ noted_after_all offer c.second in
      format_meant offer t.format caps.object_format (ap (λ (k : Caps). k.object_format) is)
