-- What a request, and each packet of it that is sent, changes in the history.
use Rattle.std.proofs.Common.{arith, ◌≡◌, ◌≢◌, ◌≤◌, ◌*◌, ℕ, Bool, true, false, List, [], ◌∷◌, ◌++◌, length, Option, Some, None}
use Rattle.std.proofs.Common.{refl, sym, ap, ◌∙◌, subst, append_assoc, length-append, cond, slice_get}
use Rattle.std.specs.Bool.{OnTrue, OnFalse}
use Rattle.std.proofs.lemmas.Grind.{flat_map-append}
use Rattle.std.proofs.lemmas.List.{append-nil, flat_map_more}
use Rattle.git_names.specs.declared.object_format.Format.{Format}
use Rattle.git_pkt.specs.Machine.Credit.{credit_of}
use Rattle.git_pkt.specs.Packets.{Pkt, flush, spelling_of, flushes}
use Rattle.git_pkt.specs.Splits.{Given}
use Rattle.git_pkt.specs.Machine.PacketReader.{bytes_held, Reads, is_open, held_of, fault_of as reader_fault_of}
use Rattle.git_pkt.specs.Machine.LentHold.{with_hold, with_hold_by}
use Rattle.git_pkt.specs.Machine.ReaderState.{is_open_in}
use Rattle.git_pkt.specs.declared.reader.PacketReader.{PacketReader}
use Rattle.git_pkt.proofs.OpenLengths.{shut_counts_none}
use Rattle.git_pkt.proofs.LentHolds.{lent_reads}
use Rattle.git_msg.specs.Asked.{Asked, ls_refs, fetch, object_info, done_in}
use Rattle.git_msg.specs.Machine.HeldRequest.{asked_of, format_of as request_format}
use Rattle.git_msg.specs.WrittenRequest.{lines_written}
use Rattle.git_msg.specs.Machine.RequestWriter.{written_of, left_to_write, PutsFirst}
use Rattle.git_msg.specs.declared.offers.Caps.{Caps}
use Rattle.git_msg.specs.declared.requests.Request.{Request}
use Rattle.git_msg.specs.declared.writer.RequestWriter.{RequestWriter}
use Rattle.git_client.specs.Parts.{Terms, listing, sections, informing, closing, nearest, answer_to, part_after, part_of}
use Rattle.git_client.specs.Sections.{is_empty, is_header_expected, allowed_after}
use Rattle.git_client.specs.Places.{place_after}
use Rattle.git_client.specs.Events.{EventValue}
use Rattle.git_client.specs.Opened.{opened_in}
use Rattle.git_client.specs.Machine.Turns.{fault_in, is_ready, has_left_in, left_in, question_in, first_expected}
use Rattle.git_client.specs.Machine.Client.{History, Converses, AsksOn, SendsOn, GivesOne, Leaves, Puts, StandsIn, Goes, Behind, AreWhole, IsAsked, IsExpected}
use Rattle.git_msg.specs.Agents.{named_if}
use Rattle.git_msg.specs.declared.agent.Agent.{Agent}
use Rattle.git_client.specs.Machine.Client.{questions_of, sent_of, spelled, agent_of, format_of, ending_of, caps_of, phase_of, reader_of}
use Rattle.git_client.specs.Machine.Client.{request_of, has_left, left_to_send}
use Rattle.git_client.specs.declared.phase.Phase.{Phase}
use Rattle.git_client.specs.declared.phase.Phase.TheVariants.{Receiving, Ready, Asking, Leaving, Left, Failed}
use Rattle.git_client.specs.declared.phase.Expected.{Expected}
use Rattle.git_client.specs.declared.client.Client.{Client}
use Rattle.git_client.proofs.Opened.{nothing_opened}
use Rattle.git_client.proofs.Sequences.{gives_more}

slice_get_last : {X : Type 0} (xs : List X) (x : X) → slice_get (xs ++ x ∷ []) (length xs) ≡ Some x
slice_get_last [] x = refl
slice_get_last (y ∷ xs) x = slice_get_last xs x

-- after the responses to all earlier requests, a packet belongs to the response to the last one
part_asked : (t : Terms) (earlier : List Asked) (last : Asked) (before : List Pkt) → AreWhole t earlier before
    → part_of t (earlier ++ last ∷ []) before ≡ answer_to (Some last)
part_asked t earlier last [] whole = absurd (omega (arith, whole.all_flushes))
part_asked t earlier last (p ∷ before) whole =
    let asked = earlier ++ last ∷ [] in
    ap (λ (expected : Bool). cond expected (Some closing) (part_after asked (flushes (p ∷ before)))) whole.no_end_expected
    ∙ ap (part_after asked) whole.all_flushes ∙ ap answer_to (slice_get_last earlier last)

-- once the last request has been sent, its response is expected
expected_asked : (t : Terms) (earlier : List Asked) (last : Asked) (before : List Pkt) → AreWhole t earlier before
    → IsExpected t (earlier ++ last ∷ []) before (first_expected last)
expected_asked t earlier (ls_refs q) before whole =
    record {
      part = listing;
      is_part = part_asked t earlier (ls_refs q) before whole;
      counts = omega (arith, whole.all_flushes, length-append earlier (ls_refs q ∷ []));
      same_lines = λ none. absurd (omega (arith, none, whole.all_flushes));
      is_expected = tt;
    }
expected_asked t earlier (fetch q) before whole =
    record {
      part = sections (done_in q);
      is_part = part_asked t earlier (fetch q) before whole;
      counts = omega (arith, whole.all_flushes, length-append earlier (fetch q ∷ []));
      same_lines = λ none. absurd (omega (arith, none, whole.all_flushes));
      is_expected = (ap is_header_expected whole.no_message, ap (allowed_after (done_in q)) (sym whole.no_message));
    }
expected_asked t earlier (object_info q) before whole =
    record {
      part = informing;
      is_part = part_asked t earlier (object_info q) before whole;
      counts = omega (arith, whole.all_flushes, length-append earlier (object_info q ∷ []));
      same_lines = λ none. absurd (omega (arith, none, whole.all_flushes));
      is_expected = ap is_empty whole.no_message;
    }

pub expected_stated : (t : Terms) (asked : List Asked) (before : List Pkt) (question : Asked) → IsAsked t asked before (Some question)
    → IsExpected t asked before (first_expected question)
expected_stated t asked before question h =
    let same : h.last ≡ question = cc in
    subst (λ (l : List Asked). IsExpected t l before (first_expected question)) (sym h.asked_is)
    (subst (λ (q : Asked). IsExpected t (h.earlier ++ h.last ∷ []) before (first_expected q)) same (expected_asked t h.earlier h.last before h.whole))

-- what is sent with one more request
stated_more : (t : Terms) (caps : Caps) (asked : List Asked) (question : Asked) (given : List ℕ)
    → given ++ [] ≡ spelled (sent_of t caps asked false)
    → given ++ spelled (lines_written (named_if caps.agent t.agent) caps.object_format t.format question)
    ≡ spelled (sent_of t caps (asked ++ question ∷ []) false)
stated_more t caps asked question given h =
    let write : Asked → List Pkt = lines_written (named_if caps.agent t.agent) caps.object_format t.format in
    ap (λ (l : List ℕ). l ++ spelled (write question))
    (sym (append-nil given) ∙ h ∙ ap spelled (append-nil (questions_of t caps asked)))
    ∙ sym (flat_map-append spelling_of (questions_of t caps asked) (write question))
    ∙ ap spelled (flat_map_more write [] asked question ∙ sym (append-nil (questions_of t caps (asked ++ question ∷ []))))

-- a reader between two packets whose hold was lent reads on as before
pub record IsLent (old new : PacketReader) : Type 0 where
  pub fault : reader_fault_of new ≡ reader_fault_of old
  pub reads : (start : ℕ) (bytes : List ℕ) (given : List Given) (rest : List ℕ) → Reads old start bytes given rest → Reads new start bytes given rest

fault_lent : (r : PacketReader) (hold : _) (b : Bool) (e : is_open_in r.state ≡ b) → reader_fault_of (with_hold_by r hold b e) ≡ reader_fault_of r
fault_lent r hold true e = refl
fault_lent r hold false e = refl

held_lent : (r : PacketReader) (hold : _) (b : Bool) (e : is_open_in r.state ≡ b) → b ≡ false → held_of (with_hold_by r hold b e) ≡ hold.items
held_lent r hold true e shut = absurd (cc)
held_lent r hold false e shut = refl

shut_lent : (r : PacketReader) (hold : _) (b : Bool) (e : is_open_in r.state ≡ b) → b ≡ false → is_open (with_hold_by r hold b e) ≡ false
shut_lent r hold true e shut = absurd (cc)
shut_lent r hold false e shut = e

pub lent : (r : PacketReader) (hold : _) → bytes_held (with_hold r hold) ≤ 65520 → is_open r ≡ false
    → IsLent r (with_hold r hold) × (held_of (with_hold r hold) ≡ hold.items) × (is_open (with_hold r hold) ≡ false)
lent r hold fits shut = (
  record { fault = fault_lent r hold (is_open_in r.state) refl; reads = lent_reads r hold fits shut },
  held_lent r hold (is_open_in r.state) refl shut,
  shut_lent r hold (is_open_in r.state) refl shut,
)

-- a phase without an error
stands_in : (phase : Phase) (t : Terms) (asked : List Asked) (clean given : List Given) (rest : List ℕ) (end : ℕ) (question : Option Asked)
    (reader : PacketReader) → fault_in phase ≡ None → Goes t asked clean given rest question phase reader
    → StandsIn phase t asked clean given rest end question reader
stands_in (Receiving expected) t asked clean given rest end question reader e h = h
stands_in Ready t asked clean given rest end question reader e h = h
stands_in (Asking writer) t asked clean given rest end question reader e h = h
stands_in Leaving t asked clean given rest end question reader e h = h
stands_in Left t asked clean given rest end question reader e h = h
stands_in (Failed fault) t asked clean given rest end question reader e h = absurd (cc)

pub ready_phase : (phase : Phase) → is_ready phase ≡ true → phase ≡ Ready
ready_phase (Receiving expected) e = absurd (cc)
ready_phase Ready e = refl
ready_phase (Asking writer) e = absurd (cc)
ready_phase Leaving e = absurd (cc)
ready_phase Left e = absurd (cc)
ready_phase (Failed fault) e = absurd (cc)

-- if no packet is open, no part of one was handed out, whatever is asked
opened_stays : (t : Terms) (asked others : List Asked) (clean : List Given) (events whole : List EventValue) (rest : List ℕ) → rest ≡ []
    → events ≡ whole ++ opened_in (place_after t asked (nearest clean [])) rest → events ≡ whole ++ opened_in (place_after t others (nearest clean [])) rest
opened_stays t asked others clean events whole rest none are =
    let nothing : (place : _) → opened_in place rest ≡ [] =
    λ place. ap (λ (l : List ℕ). opened_in place l) none ∙ nothing_opened place in
    are ∙ ap (λ (l : List EventValue). whole ++ l) (nothing (place_after t asked (nearest clean [])) ∙ sym (nothing (place_after t others (nearest clean []))))

module _ {A : Type 0} where
  -- the terms and the noted capabilities are unchanged
  pub record SameTerms (old new : Client A) : Type 0 where
    pub format : format_of new ≡ format_of old
    pub ending : ending_of new ≡ ending_of old
    pub agent : agent_of new ≡ agent_of old
    pub caps : caps_of new ≡ caps_of old

  -- a client that could ask asks this request
  pub record BeginsToAsk (old : Client A) (request : Request A) (writer : RequestWriter) (new : Client A) : Type 0 where
    pub terms : SameTerms old new
    pub was : phase_of old ≡ Ready
    pub now : phase_of new ≡ Asking writer
    pub keeps : request_of new ≡ Some request
    pub reader : reader_of new ≡ reader_of old
    pub format : request_format request ≡ format_of old
    pub writes : left_to_write writer request ≡ written_of request (caps_of old) (agent_of old)

  -- its state then
  stands_asking : (t : Terms) (h : History) (old new : Client A) (request : Request A) (writer : RequestWriter) (c : Converses t h old)
      → BeginsToAsk old request writer new → StandsIn (phase_of new) t (h.asked ++ asked_of request ∷ []) c.clean c.given c.rest (length h.used)
      (question_in (request_of new)) (reader_of new)
  stands_asking t h old new request writer c b =
      let asked = h.asked ++ asked_of request ∷ [] in
      let goes : Goes t h.asked c.clean c.given c.rest (question_in (request_of old)) Ready (reader_of old) =
      subst (λ (phase : Phase). StandsIn phase t h.asked c.clean c.given c.rest (length h.used) (question_in (request_of old)) (reader_of old))
      b.was c.stands in
      let behind : IsAsked t asked (nearest c.clean []) (Some (asked_of request)) =
      record { earlier = h.asked; last = asked_of request; asked_is = refl; question_is = refl; whole = goes.behind } in
      let stands : Goes t asked c.clean c.given c.rest (Some (asked_of request)) (Asking writer) (reader_of old) =
      record { cut = goes.cut; sound = goes.sound; behind = behind; shut = λ _. goes.shut refl } in
      subst (λ (reader : PacketReader). StandsIn (phase_of new) t asked c.clean c.given c.rest (length h.used) (question_in (request_of new)) reader)
      (sym b.reader)
      (subst (λ (phase : Phase). StandsIn phase t asked c.clean c.given c.rest (length h.used) (question_in (request_of new)) (reader_of old))
      (sym b.now)
      (subst (λ (kept : Option (Request A)). StandsIn (Asking writer) t asked c.clean c.given c.rest (length h.used) (question_in kept) (reader_of old))
      (sym b.keeps) stands))

  nothing_where_ready : (t : Terms) (h : History) (old : Client A) (c : Converses t h old) → phase_of old ≡ Ready → c.rest ≡ []
  nothing_where_ready t h old c was =
      let goes : Goes t h.asked c.clean c.given c.rest (question_in (request_of old)) Ready (reader_of old) =
      subst (λ (phase : Phase). StandsIn phase t h.asked c.clean c.given c.rest (length h.used) (question_in (request_of old)) (reader_of old))
      was c.stands in
      goes.shut refl

  pub asks : (old new : Client A) (request : Request A) (writer : RequestWriter) → BeginsToAsk old request writer new → AsksOn old (asked_of request) new
  asks old new request writer b t h c =
      let caps = caps_of old in
      let asked = h.asked ++ asked_of request ∷ [] in
      let stays : h.left ≡ false = c.left ∙ ap has_left_in b.was in
      let spoken : h.given ++ [] ≡ spelled (sent_of t caps h.asked false) =
      ap (λ (phase : Phase). h.given ++ spelled (left_in phase (request_of old))) (sym b.was) ∙ c.spoken
      ∙ ap (λ (left : Bool). spelled (sent_of t caps h.asked left)) stays in
      let written : left_to_send new ≡ lines_written (named_if caps.agent t.agent) caps.object_format t.format (asked_of request) =
      ap (λ (phase : Phase). left_in phase (request_of new)) b.now ∙ ap (left_in (Asking writer)) b.keeps ∙ b.writes
      ∙ ap (λ (format : Format). lines_written (named_if caps.agent (agent_of old)) caps.object_format format (asked_of request)) (b.format ∙ c.format_is)
      ∙ ap (λ (agent : Agent). lines_written (named_if caps.agent agent) caps.object_format t.format (asked_of request)) c.agent_is in
      record {
        given = c.given;
        rest = c.rest;
        clean = c.clean;
        format_is = b.terms.format ∙ c.format_is;
        ending_is = b.terms.ending ∙ c.ending_is;
        agent_is = b.terms.agent ∙ c.agent_is;
        reads = subst (λ (reader : PacketReader). Reads reader 0 h.used c.given c.rest) (sym b.reader) c.reads;
        whole = c.whole;
        gives = gives_more t h.asked (asked_of request ∷ []) [] c.clean c.whole c.gives;
        events_are = opened_stays t h.asked asked c.clean h.events c.whole c.rest (nothing_where_ready t h old c b.was) c.events_are;
        notes = b.terms.caps ∙ c.notes;
        stands = stands_asking t h old new request writer c b;
        left = stays ∙ sym (ap has_left_in b.now);
        spoken = ap (λ (l : List Pkt). h.given ++ spelled l) written ∙ stated_more t caps h.asked (asked_of request) h.given spoken
            ∙ ap (λ (left : Bool). spelled (sent_of t caps asked left)) (sym stays)
            ∙ ap (λ (noted : Caps). spelled (sent_of t noted asked h.left)) (sym b.terms.caps);
      }

  -- the request's writer has put its next packet into the hold
  pub record PutsNext (old : Client A) (request : Request A) (writer next : RequestWriter) (bytes : List ℕ) (new : Client A) : Type 0 where
    pub terms : SameTerms old new
    pub was : phase_of old ≡ Asking writer
    pub kept : request_of old ≡ Some request
    pub reader : IsLent (reader_of old) (reader_of new)
    pub held : held_of (reader_of new) ≡ bytes
    pub shut : is_open (reader_of new) ≡ false
    pub puts : PutsFirst (left_to_write writer request) (left_to_write next request) bytes

  -- what is left to send of the request
  left_of : (client : Client A) (request : Request A) (writer : RequestWriter) → phase_of client ≡ Asking writer → request_of client ≡ Some request
      → left_to_send client ≡ left_to_write writer request
  left_of client request writer is kept = ap (λ (phase : Phase). left_in phase (request_of client)) is ∙ ap (left_in (Asking writer)) kept

  -- it is the next packet that has to be sent
  conveys_next : (old new : Client A) (request : Request A) (writer next : RequestWriter) (bytes : List ℕ) → PutsNext old request writer next bytes new
      → fault_in (phase_of new) ≡ None → has_left new ≡ false → left_to_send new ≡ left_to_write next request
      → ((t : Terms) (asked : List Asked) (before : List Pkt) → IsAsked t asked before (Some (asked_of request))
      → Behind t asked before (question_in (request_of new)) (phase_of new)) → SendsOn old (held_of (reader_of new)) new
  conveys_next old new request writer next bytes b sound stays left behind t h c =
      let later = left_to_send new in
      let stood : StandsIn (Asking writer) t h.asked c.clean c.given c.rest (length h.used) (question_in (request_of old)) (reader_of old) =
      subst (λ (phase : Phase). StandsIn phase t h.asked c.clean c.given c.rest (length h.used) (question_in (request_of old)) (reader_of old))
      b.was c.stands in
      let goes : Goes t h.asked c.clean c.given c.rest (Some (asked_of request)) (Asking writer) (reader_of old) =
      subst (λ (kept : Option (Request A)). Goes t h.asked c.clean c.given c.rest (question_in kept) (Asking writer) (reader_of old)) b.kept stood in
      record {
        given = c.given;
        rest = c.rest;
        clean = c.clean;
        format_is = b.terms.format ∙ c.format_is;
        ending_is = b.terms.ending ∙ c.ending_is;
        agent_is = b.terms.agent ∙ c.agent_is;
        reads = b.reader.reads 0 h.used c.given c.rest c.reads;
        whole = c.whole;
        gives = c.gives;
        events_are = c.events_are;
        notes = b.terms.caps ∙ c.notes;
        stands = stands_in (phase_of new) t h.asked c.clean c.given c.rest (length h.used) (question_in (request_of new)) (reader_of new) sound (record {
          cut = goes.cut;
          sound = b.reader.fault ∙ goes.sound;
          behind = behind t h.asked (nearest c.clean []) goes.behind;
          shut = λ _. goes.shut refl;
        });
        left = c.left ∙ ap has_left_in b.was ∙ sym stays;
        spoken = append_assoc h.given (held_of (reader_of new)) (spelled later)
            ∙ ap (λ (l : List ℕ). h.given ++ (l ++ spelled later)) (b.held ∙ b.puts.written)
            ∙ ap (λ (l : List Pkt). h.given ++ spelled (b.puts.packet ∷ l)) left
            ∙ ap (λ (l : List Pkt). h.given ++ spelled l) (sym (left_of old request writer b.was b.kept ∙ b.puts.first)) ∙ c.spoken
            ∙ ap (λ (noted : Caps). spelled (sent_of t noted h.asked h.left)) (sym b.terms.caps);
      }

  gives_next : (old new : Client A) (request : Request A) (writer next : RequestWriter) (bytes : List ℕ) → PutsNext old request writer next bytes new
      → fault_in (phase_of new) ≡ None → has_left new ≡ false → is_ready (phase_of new) ≡ false → left_to_send new ≡ left_to_write next request
      → GivesOne old new (held_of (reader_of new))
  gives_next old new request writer next bytes b sound stays not_ready left = record {
    packet = b.puts.packet;
    first = left_of old request writer b.was b.kept ∙ b.puts.first ∙ ap (λ (l : List Pkt). b.puts.packet ∷ l) (sym left);
    written = b.held ∙ b.puts.written;
    same_leaving = stays ∙ sym (ap has_left_in b.was);
    sound = sound;
    not_ready = not_ready;
  }

  -- more of the request has to be sent
  pub asks_on : (old new : Client A) (request : Request A) (writer next : RequestWriter) (bytes : List ℕ) → PutsNext old request writer next bytes new
      → phase_of new ≡ Asking next → request_of new ≡ Some request → Puts old new
  asks_on old new request writer next bytes b now keeps =
      let sound = ap fault_in now in
      let stays = ap has_left_in now in
      let left = left_of new request next now keeps in
      record {
        conveys = conveys_next old new request writer next bytes b sound stays left (λ t asked before h.
            subst (Behind t asked before (question_in (request_of new))) (sym now)
            (subst (λ (kept : Option (Request A)). IsAsked t asked before (question_in kept)) (sym keeps) h));
        gives = gives_next old new request writer next bytes b sound stays (ap is_ready now) left;
        credit = ap (λ (n : ℕ). 56 * n) (shut_counts_none (reader_of new) b.shut);
      }

  -- the whole request was sent
  pub receives_now : (old new : Client A) (request : Request A) (writer next : RequestWriter) (bytes : List ℕ) (expected : Expected)
      → PutsNext old request writer next bytes new → phase_of new ≡ Receiving expected → expected ≡ first_expected (asked_of request)
      → left_to_write next request ≡ [] → Puts old new
  receives_now old new request writer next bytes expected b now first none =
      let sound = ap fault_in now in
      let stays = ap has_left_in now in
      let left = ap (λ (phase : Phase). left_in phase (request_of new)) now ∙ sym none in
      record {
        conveys = conveys_next old new request writer next bytes b sound stays left (λ t asked before h.
            subst (Behind t asked before (question_in (request_of new))) (sym now)
            (subst (IsExpected t asked before) (sym first) (expected_stated t asked before (asked_of request) h)));
        gives = gives_next old new request writer next bytes b sound stays (ap is_ready now) left;
        credit = ap (λ (n : ℕ). 56 * n) (shut_counts_none (reader_of new) b.shut);
      }

  -- a writer with packets left has put the first of them
  pub puts_next : (old : Client A) (request : Request A) (writer next : RequestWriter) (held : List ℕ) (pulled : Bool) (P Q : Type 0)
      → phase_of old ≡ Asking writer → request_of old ≡ Some request → left_to_send old ≢ []
      → OnTrue pulled (PutsFirst (left_to_write writer request) (left_to_write next request) held)
      → OnFalse pulled ((left_to_write writer request ≡ []) × P × Q) → PutsFirst (left_to_write writer request) (left_to_write next request) held
  puts_next old request writer next held true P Q was kept some put none = put
  puts_next old request writer next held false P Q was kept some put none = absurd (some (left_of old request writer was kept ∙ none.0))

  -- a client that could ask leaves
  pub leaves : (old new : Client A) → is_ready (phase_of old) ≡ true → SameTerms old new → phase_of new ≡ Leaving → reader_of new ≡ reader_of old
      → Leaves old new
  leaves old new ready terms now reader =
      let was = ready_phase (phase_of old) ready in
      record {
        leaves = λ t h c.
            let goes : Goes t h.asked c.clean c.given c.rest (question_in (request_of old)) Ready (reader_of old) =
            subst (λ (phase : Phase). StandsIn phase t h.asked c.clean c.given c.rest (length h.used) (question_in (request_of old)) (reader_of old))
            was c.stands in
            let questions = questions_of t (caps_of old) h.asked in
            let asked : h.given ≡ spelled questions =
            sym (append-nil h.given)
            ∙ ap (λ (phase : Phase). h.given ++ spelled (left_in phase (request_of old))) (sym was)
            ∙ c.spoken
            ∙ ap (λ (left : Bool). spelled (sent_of t (caps_of old) h.asked left)) (c.left ∙ ap has_left_in was)
            ∙ ap spelled (append-nil questions) in
            record {
              given = c.given;
              rest = c.rest;
              clean = c.clean;
              format_is = terms.format ∙ c.format_is;
              ending_is = terms.ending ∙ c.ending_is;
              agent_is = terms.agent ∙ c.agent_is;
              reads = subst (λ (r : PacketReader). Reads r 0 h.used c.given c.rest) (sym reader) c.reads;
              whole = c.whole;
              gives = c.gives;
              events_are = c.events_are;
              notes = terms.caps ∙ c.notes;
              stands =
                  subst (λ (phase : Phase). StandsIn phase t h.asked c.clean c.given c.rest (length h.used) (question_in (request_of new)) (reader_of new))
                  (sym now) (record {
                    cut = goes.cut;
                    sound = ap reader_fault_of reader ∙ goes.sound;
                    behind = goes.behind;
                    shut = λ _. goes.shut refl;
                  });
              left = sym (ap has_left_in now);
              spoken = ap (λ (phase : Phase). h.given ++ spelled (left_in phase (request_of new))) now
                  ∙ ap (λ (l : List ℕ). l ++ spelled (flush ∷ [])) asked
                  ∙ sym (flat_map-append spelling_of questions (flush ∷ []))
                  ∙ ap (λ (noted : Caps). spelled (sent_of t noted h.asked true)) (sym terms.caps);
            };
        has_unsent = ap (λ (phase : Phase). left_in phase (request_of new)) now;
        no_more = ap has_left_in now;
        credit = omega (arith, ap credit_of reader);
      }
