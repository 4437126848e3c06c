-- Each step of a client that receives keeps its history true.
use Rattle.std.proofs.Common.{arith, ◌≡◌, inl, inr, Bool, Option, Some, ◌+◌, ◌-◌, ℕ, List, [], ◌∷◌, ◌++◌}
use Rattle.std.proofs.Common.{length, zero-add, true, false, None, ap, sym, ◌∙◌, refl, subst, append_assoc}
use Rattle.std.proofs.lemmas.List.{append-nil}
use Rattle.git_names.specs.declared.object_format.Format.{Format}
use Rattle.git_pkt.specs.Packets.{Pkt, payload, Spells, body_of}
use Rattle.git_pkt.specs.Splits.{Given}
use Rattle.git_pkt.specs.Faults.{StopsBy}
use Rattle.git_pkt.specs.Machine.PacketReader.{Reads, StandsAt, position_of, is_open, held_of, fault_of as reader_fault_of}
use Rattle.git_pkt.specs.declared.fault.Fault.{Fault}
use Rattle.git_pkt.specs.declared.fault.Kind.{Kind}
use Rattle.git_pkt.specs.declared.fault.Kind.TheVariants.{Truncated}
use Rattle.git_pkt.specs.declared.reader.PacketReader.{PacketReader}
use Rattle.git_pkt.proofs.KnownRest.{sound_rest, none_between}
use Rattle.git_msg.specs.Advertisement.{noted_of}
use Rattle.git_msg.specs.Asked.{Asked}
use Rattle.git_msg.specs.declared.offers.Caps.{Caps}
use Rattle.git_msg.specs.declared.requests.Request.{Request}
use Rattle.git_client.specs.Parts.{Terms, nearest, advertisement_of}
use Rattle.git_client.specs.Places.{Place, place_after}
use Rattle.git_client.specs.Events.{EventValue, Refuses}
use Rattle.git_client.specs.Opened.{opened_in}
use Rattle.git_client.specs.Conversation.{GiveAll, HasExpected}
use Rattle.git_client.specs.Machine.Turns.{has_left_in, left_in, question_in, events_at, phase_in, place_expected, NotesAfter, IsTurn}
use Rattle.git_client.specs.Machine.Client.{History, Converses, ReceivesOn, StandsIn, Goes, Behind, IsExpected, spelled}
use Rattle.git_client.specs.Machine.Client.{questions_of, farewell, agent_of, format_of, is_of_any_format, ending_of, caps_of, phase_of, reader_of, request_of}
use Rattle.git_client.specs.declared.events.Ending.{Ending}
use Rattle.git_client.specs.declared.phase.Phase.{Phase}
use Rattle.git_client.specs.declared.phase.Phase.TheVariants.{Receiving, Ready, Asking, Leaving, Left, Failed}
use Rattle.git_client.specs.declared.phase.Expected.{Expected}
use Rattle.git_client.specs.declared.phase.Expected.TheVariants.{Capabilities}
use Rattle.git_client.specs.declared.phase.LineContent.{LineContent}
use Rattle.git_client.specs.declared.phase.Turn.{Turn}
use Rattle.git_client.specs.declared.client.Client.{Client}
use Rattle.git_client.proofs.Sequences.{nearest_push, give_all_push}
use Rattle.git_client.proofs.PartSteps.{stands, no_flush}
use Rattle.git_client.proofs.Judged.{place_is, judged_well, judged_badly}
use Rattle.git_client.proofs.Opened.{nothing_opened}
use Rattle.git_client.proofs.Reached.{Reached, Reaches}

-- the client receives or can ask
abbrev pub goes_on : Phase → Bool
goes_on (Receiving expected) = true
goes_on Ready = true
goes_on phase = false

-- the state of a phase in which the conversation continues does not depend on the request
stands_on : (phase : Phase) (t : Terms) (asked : List Asked) (clean given : List Given) (rest : List ℕ) (end : ℕ) (question : Option Asked)
    (reader : PacketReader) → goes_on phase ≡ true → Goes t asked clean given rest None phase reader
    → StandsIn phase t asked clean given rest end question reader
stands_on (Receiving expected) t asked clean given rest end question reader e h =
    record { cut = h.cut; sound = h.sound; behind = h.behind; shut = h.shut }
stands_on Ready t asked clean given rest end question reader e h =
    record { cut = h.cut; sound = h.sound; behind = h.behind; shut = h.shut }
stands_on phase t asked clean given rest end question reader e h = absurd (cc)

-- a phase in which the client has nothing to send and has not left
abbrev pub is_quiet : Phase → Bool
is_quiet (Failed fault) = true
is_quiet phase = goes_on phase

goes_quietly : (phase : Phase) → goes_on phase ≡ true → is_quiet phase ≡ true
goes_quietly (Failed fault) e = refl
goes_quietly phase e = e

pub not_left : (phase : Phase) → is_quiet phase ≡ true → has_left_in phase ≡ false
not_left Leaving e = absurd (cc)
not_left Left e = absurd (cc)
not_left phase e = refl

pub nothing_unsent : {A : Type 0} (phase : Phase) (request : Option (Request A)) → is_quiet phase ≡ true → left_in phase request ≡ []
nothing_unsent (Asking writer) request e = absurd (cc)
nothing_unsent Leaving request e = absurd (cc)
nothing_unsent phase request e = refl

-- after a packet no byte is left over
nothing_left : (reader : PacketReader) (bytes : List ℕ) (given : List Given) (rest : List ℕ) → reader_fault_of reader ≡ None → is_open reader ≡ false
    → Reads reader 0 bytes given rest → rest ≡ []
nothing_left reader bytes given rest sound shut reads = none_between reader rest (sound_rest reader 0 bytes given rest sound reads).0 shut

-- the client's format and ending are those of the terms
on_terms : (P : Format → Ending → Type 0) (format : Format) (ending : Ending) (t : Terms) → format ≡ t.format → ending ≡ t.ending → P format ending
    → P t.format t.ending
on_terms P format ending t same_format same_ending h = subst (P t.format) same_ending (subst (λ (f : Format). P f ending) same_format h)

-- what is expected next has a place
pub some_place : (t : Terms) (asked : List Asked) (before : List Pkt) (expected : Expected) → IsExpected t asked before expected → HasExpected t asked before
some_place t asked before expected d = (_, place_is t asked before expected (noted_of (advertisement_of before)) d refl)

pub none_of : (asked : List Asked) → length asked ≡ 0 → asked ≡ []
none_of [] e = refl
none_of (q ∷ asked) e = absurd (omega arith)

-- capabilities are noted only before anything is asked
same_questions : (t : Terms) (asked : List Asked) (before : List Pkt) (expected : Expected) (caps after : Caps) (p : Pkt) → IsExpected t asked before expected
    → NotesAfter expected caps p after → questions_of t after asked ≡ questions_of t caps asked
same_questions t asked before Capabilities caps after (payload line) d notes =
    let none = none_of asked (omega (arith, d.counts, no_flush t asked before _ (stands t asked before Capabilities d).is_part refl)) in
    ap (questions_of t after) none ∙ sym (ap (questions_of t caps) none)
same_questions t asked before expected caps after p d notes = ap (λ (a : Caps). questions_of t a asked) notes

module _ {A : Type 0} where
  -- what stays in each call: the terms, and whether the format is to be chosen
  pub record KeepsTerms (old new : Client A) : Type 0 where
    pub format : format_of new ≡ format_of old
    pub any : is_of_any_format new ≡ is_of_any_format old
    pub ending : ending_of new ≡ ending_of old
    pub agent : agent_of new ≡ agent_of old

  -- The client has read these bytes. Then these packets are returned, and these events were handed out for bytes that were passed on.
  pub record ReceivesBytes (old new : Client A) (expected : Expected) (u : List ℕ) (announced : List Given) (parts : List EventValue) : Type 0 where
    pub receiving : phase_of old ≡ Receiving expected
    pub reaches : Reaches old expected u announced parts (reader_of new)
    pub terms : KeepsTerms old new

  -- the state of the conversation after them
  pub record Continues (t : Terms) (h : History) (old new : Client A) (now : List EventValue) (given : List Given) (rest : List ℕ) (end : ℕ) : Type 0 where
    pub clean : List Given
    pub whole : List EventValue
    pub gives : GiveAll t h.asked [] clean whole
    pub events_are : h.events ++ now ≡ whole ++ opened_in (place_after t h.asked (nearest clean [])) rest
    pub notes : caps_of new ≡ noted_of (advertisement_of (nearest clean []))
    pub stands : StandsIn (phase_of new) t h.asked clean given rest end (question_in (request_of new)) (reader_of new)
    pub same_questions : questions_of t (caps_of new) h.asked ≡ questions_of t (caps_of old) h.asked

  -- so the history goes on by these bytes
  receives_bytes : (old new : Client A) (expected : Expected) (u : List ℕ) (announced : List Given) (parts now : List EventValue)
      → ReceivesBytes old new expected u announced parts
      → is_quiet (phase_of new) ≡ true
      → ((t : Terms) (h : History) (c : Converses t h old) (r : Reached t h old expected u announced parts (reader_of new))
      → Continues t h old new now (r.clean ++ announced) r.rest (length (h.used ++ u))) → ReceivesOn old u now new
  receives_bytes old new expected u announced parts now b quiet after t h c =
      let r = b.reaches t h c in
      let a = after t h c r in
      let was : is_quiet (phase_of old) ≡ true = ap is_quiet b.receiving in
      record {
        given = r.clean ++ announced;
        rest = r.rest;
        clean = a.clean;
        format_is = b.terms.format ∙ c.format_is;
        ending_is = b.terms.ending ∙ c.ending_is;
        agent_is = b.terms.agent ∙ c.agent_is;
        reads = r.reads;
        whole = a.whole;
        gives = a.gives;
        events_are = a.events_are;
        notes = a.notes;
        stands = a.stands;
        left = c.left ∙ not_left (phase_of old) was ∙ sym (not_left (phase_of new) quiet);
        spoken =
            ap (λ (l : List Pkt). h.given ++ spelled l)
            (nothing_unsent (phase_of new) (request_of new) quiet ∙ sym (nothing_unsent (phase_of old) (request_of old) was))
            ∙ c.spoken ∙ ap (λ (l : List Pkt). spelled (l ++ farewell h.left)) (sym a.same_questions);
      }

  -- no packet is returned, and the same is expected as before
  pub receives_parts : (old new : Client A) (expected : Expected) (u : List ℕ) (parts : List EventValue) → ReceivesBytes old new expected u [] parts
      → reader_fault_of (reader_of new) ≡ None → phase_of new ≡ Receiving expected → caps_of new ≡ caps_of old → ReceivesOn old u parts new
  receives_parts old new expected u parts b sound now caps =
      receives_bytes old new expected u [] parts parts b (ap is_quiet now) (λ t h c r.
      let next : Goes t h.asked r.clean (r.clean ++ []) r.rest None (Receiving expected) (reader_of new) =
      record { cut = append-nil r.clean; sound = sound; behind = r.is_expected; shut = λ e. absurd (cc) } in
      record {
        clean = r.clean;
        whole = r.whole;
        gives = r.gives;
        events_are = r.events_are;
        notes = caps ∙ r.notes;
        stands =
            subst (λ (phase : Phase). StandsIn phase t h.asked r.clean (r.clean ++ []) r.rest (length (h.used ++ u))
            (question_in (request_of new)) (reader_of new)) (sym now)
            (stands_on (Receiving expected) t h.asked r.clean (r.clean ++ []) r.rest (length (h.used ++ u))
            (question_in (request_of new)) (reader_of new) refl next);
        same_questions = ap (λ (a : Caps). questions_of t a h.asked) caps;
      })

  -- one packet was read, and is in the hold
  pub record ReceivesOnePacket (old new : Client A) (expected : Expected) (u : List ℕ) (g : Given) : Type 0 where
    pub bytes : ReceivesBytes old new expected u (g ∷ []) []
    pub sound : reader_fault_of (reader_of new) ≡ None
    pub shut : is_open (reader_of new) ≡ false
    pub held : Spells g.packet (held_of (reader_of new))

  -- a packet without an error
  pub receives_packet : (old new : Client A) (expected : Expected) (u : List ℕ) (g : Given) (found : LineContent) (turn : Turn)
      → ReceivesOnePacket old new expected u g
      → IsTurn (format_of old) (ending_of old) expected (caps_of old) g.packet found (caps_of new) turn → goes_on (phase_in turn) ≡ true
      → phase_of new ≡ phase_in turn → ReceivesOn old u (events_at found (body_of g.packet)) new
  receives_packet old new expected u g found turn b judged goes_after now =
      let content = events_at found (body_of g.packet) in
      receives_bytes old new expected u (g ∷ []) [] content b.bytes
      (ap is_quiet now ∙ goes_quietly (phase_in turn) goes_after) (λ t h c r.
      let of_terms =
      on_terms (λ format ending. IsTurn format ending expected (caps_of old) g.packet found (caps_of new) turn) _ _ t c.format_is c.ending_is judged in
      let conveys = judged_well t h.asked (nearest r.clean []) expected (caps_of old) g.packet found (caps_of new) turn r.is_expected r.notes of_terms in
      let push = nearest_push r.clean g [] in
      let nothing = nothing_left (reader_of new) (h.used ++ u) (r.clean ++ g ∷ []) r.rest b.sound b.shut r.reads in
      let next : Goes t h.asked (r.clean ++ g ∷ []) (r.clean ++ g ∷ []) r.rest None (phase_in turn) (reader_of new) = record {
        cut = refl;
        sound = b.sound;
        behind = subst (λ (l : List Pkt). Behind t h.asked l None (phase_in turn)) (sym push) conveys.2;
        shut = λ _. nothing;
      } in
      let none : (place : Option Place) → opened_in place r.rest ≡ [] =
      λ place. ap (λ (rest : List ℕ). opened_in place rest) nothing ∙ nothing_opened place in
      record {
        clean = r.clean ++ g ∷ [];
        whole = r.whole ++ content;
        gives = give_all_push t h.asked [] r.clean g r.whole content r.gives conveys.0;
        events_are =
            ap (λ (l : List EventValue). l ++ content)
            (sym (append-nil h.events) ∙ r.events_are ∙ ap (λ (l : List EventValue). r.whole ++ l) (none _) ∙ append-nil r.whole)
            ∙ sym (append-nil (r.whole ++ content))
            ∙ ap (λ (l : List EventValue). (r.whole ++ content) ++ l) (sym (none _));
        notes = conveys.1 ∙ ap (λ (l : List Pkt). noted_of (advertisement_of l)) (sym push);
        stands =
            subst (λ (phase : Phase). StandsIn phase t h.asked (r.clean ++ g ∷ []) (r.clean ++ g ∷ []) r.rest (length (h.used ++ u))
            (question_in (request_of new)) (reader_of new)) (sym now) (stands_on (phase_in turn) t h.asked _ _ _ _ _ _ goes_after next);
        same_questions =
            same_questions t h.asked (nearest r.clean []) expected (caps_of old) (caps_of new) g.packet r.is_expected of_terms.notes;
      })

  -- a client that fails hands out no event, and keeps all else
  fails : (t : Terms) (h : History) (old new : Client A) (expected : Expected) (u : List ℕ) (announced : List Given) (f : Fault)
      → (r : Reached t h old expected u announced [] (reader_of new)) → phase_of new ≡ Failed f → caps_of new ≡ caps_of old
      → StandsIn (Failed f) t h.asked r.clean (r.clean ++ announced) r.rest (length (h.used ++ u)) (question_in (request_of new)) (reader_of new)
      → Continues t h old new [] (r.clean ++ announced) r.rest (length (h.used ++ u))
  fails t h old new expected u announced f r failed caps stands = record {
    clean = r.clean;
    whole = r.whole;
    gives = r.gives;
    events_are = r.events_are;
    notes = caps ∙ r.notes;
    stands = subst (λ (phase : Phase). StandsIn phase t h.asked r.clean (r.clean ++ announced) r.rest (length (h.used ++ u)) (question_in (request_of new))
        (reader_of new)) (sym failed) stands;
    same_questions = ap (λ (a : Caps). questions_of t a h.asked) caps;
  }

  -- a packet that is refused
  pub receives_refused : (old new : Client A) (expected : Expected) (u : List ℕ) (g : Given) (kind : Kind) → ReceivesOnePacket old new expected u g
      → Refuses (format_of old) (ending_of old) (place_expected (caps_of old) (format_of old) expected) g.packet kind
      → phase_of new ≡ Failed (record { kind = kind; offset = g.offset }) → caps_of new ≡ caps_of old → ReceivesOn old u [] new
  receives_refused old new expected u g kind b judged failed caps =
      receives_bytes old new expected u (g ∷ []) [] [] b.bytes (ap is_quiet failed) (λ t h c r.
      let of_terms =
      on_terms (λ format ending. Refuses format ending (place_expected (caps_of old) format expected) g.packet kind) _ _ t c.format_is c.ending_is judged in
      fails t h old new expected u (g ∷ []) (record { kind = kind; offset = g.offset }) r failed caps (inl (record {
        bad = g;
        cut = refl;
        nothing = nothing_left (reader_of new) (h.used ++ u) (r.clean ++ g ∷ []) r.rest b.sound b.shut r.reads;
        refused = judged_badly t h.asked (nearest r.clean []) expected (caps_of old) g.packet kind r.is_expected r.notes of_terms;
        at = refl;
        held = b.held;
      })))

  -- bytes that the packet reader refuses
  pub receives_failed : (old new : Client A) (expected : Expected) (u : List ℕ) (f : Fault) → ReceivesBytes old new expected u [] []
      → reader_fault_of (reader_of new) ≡ Some f → phase_of new ≡ Failed f → caps_of new ≡ caps_of old → ReceivesOn old u [] new
  receives_failed old new expected u f b announced failed caps =
      receives_bytes old new expected u [] [] [] b (ap is_quiet failed) (λ t h c r.
      let end : ℕ = length (h.used ++ u) in
      let start : 0 + end ≡ end = omega arith in
      let stops : StandsAt (Some f) (0 + end - length r.rest) (0 + end) r.rest (reader_of new) =
      subst (λ (o : Option Fault). StandsAt o (0 + end - length r.rest) (0 + end) r.rest (reader_of new)) announced r.reads.state in
      fails t h old new expected u [] f r failed caps (inr (inl (record {
        cut = append-nil r.clean;
        expected = some_place t h.asked (nearest r.clean []) expected r.is_expected;
        by = subst (λ (n : ℕ). StopsBy (n - length r.rest) r.rest n f.kind f.offset) start stops.1;
      }))))

  -- the input ended after a whole packet
  pub receives_end : (old new : Client A) (expected : Expected) (f : Fault) → ReceivesBytes old new expected [] [] [] → reader_fault_of (reader_of new) ≡ None
      → is_open (reader_of new) ≡ false → f.kind ≡ Truncated → f.offset ≡ position_of (reader_of new) → phase_of new ≡ Failed f
      → caps_of new ≡ caps_of old → ReceivesOn old [] [] new
  receives_end old new expected f b sound shut kind at failed caps =
      receives_bytes old new expected [] [] [] [] b (ap is_quiet failed) (λ t h c r.
      fails t h old new expected [] [] f r failed caps (inr (inr (record {
        cut = append-nil r.clean;
        nothing = nothing_left (reader_of new) (h.used ++ []) (r.clean ++ []) r.rest sound shut r.reads;
        expected = some_place t h.asked (nearest r.clean []) expected r.is_expected;
        kind = kind;
        at = at ∙ r.reads.position ∙ zero-add (length (h.used ++ []));
      }))))

  -- two steps in a row
  pub receives_twice : (a b c : Client A) (u v : List ℕ) (now later : List EventValue) → ReceivesOn a u now b → ReceivesOn b v later c
      → ReceivesOn a (u ++ v) (now ++ later) c
  receives_twice a b c u v now later first second t h r =
      subst (λ (es : List EventValue). Converses t (record h { used = h.used ++ (u ++ v); events = es }) c) (append_assoc h.events now later)
      (subst (λ (bs : List ℕ). Converses t (record h { used = bs; events = (h.events ++ now) ++ later }) c) (append_assoc h.used u v)
      (second t (record h { used = h.used ++ u; events = h.events ++ now }) (first t h r)))
