-- The advertisement of a server, as a client receives it and notes its capabilities.
use Rattle.std.proofs.Common.{arith, ◌≡◌, ℕ, suc, Bool, true, false, List, [], ◌∷◌, ◌++◌, Option, Some, None, Ok, Err, codes, map}
use Rattle.std.proofs.Common.{refl, ap, sym, ◌∙◌, subst, length, length-append}
use Rattle.std.proofs.Common.{cond, eqb, ltb, not, unwrap_or, slice_index, tests, ◌&&◌, ◌||◌, ◌≢◌, ◌≤◌, if◌then◌else◌}
use Rattle.std.specs.List.{list_all, list_any}
use Rattle.std.proofs.lemmas.Bool.{and_parts, lt-ltb}
use Rattle.git_names.specs.ObjectFormat.{name_of as format_name}
use Rattle.git_names.specs.declared.object_format.Format.{Format}
use Rattle.git_names.specs.declared.object_format.Format.TheVariants.{Sha1, Sha256}
use Rattle.git_pkt.specs.Packets.{Pkt, flush, payload, flushes}
use Rattle.git_pkt.specs.Splits.{Given}
use Rattle.git_pkt.specs.declared.fault.Kind.TheVariants.{WrongFormat}
use Rattle.git_pkt.proofs.Texts.{text_of-line_end}
use Rattle.git_msg.specs.Advertisement.{is_spoken, key_in, key_of, noted_by, noted_of, noted_offer, value_in}
use Rattle.git_msg.specs.Agents.{agent_text, own_agent}
use Rattle.git_msg.specs.Texts.{spaced_words}
use Rattle.git_msg.specs.declared.agent.Agent.{Agent}
use Rattle.git_msg.proofs.AgentNames.{agent_is_short, agent_is_value}
use Rattle.git_msg.specs.Capability.{is_key, is_value, IsCapability}
use Rattle.git_msg.specs.Features.{features_value, fetch_features, ls_refs_features, offered_words, valued}
use Rattle.git_msg.specs.Lines.{IsFormatMeant}
use Rattle.git_msg.specs.WrittenRequest.{agent_line, format_line, text_line}
use Rattle.git_msg.specs.Asked.{Asked}
use Rattle.git_msg.specs.declared.offers.Caps.{Caps}
use Rattle.git_msg.specs.declared.offers.Offer.{Offer}
use Rattle.git_client.specs.Machine.Client.{AreWhole, spelled}
use Rattle.git_client.specs.Conversation.{GiveAll, HasNoted}
use Rattle.git_client.specs.Events.{EventValue, capability, offered}
use Rattle.git_client.specs.Parts.{Terms, advertisement_of, is_end_expected, is_zero, message_of, nearest, terms_by}
use Rattle.git_client.specs.Places.{capabilities, place_after, version}
use Rattle.git_client.specs.declared.events.Ending.{Ending}
use Rattle.git_client.specs.declared.events.Ending.TheVariants.{FlushOnly, ResponseEnd}
use Rattle.git_client.proofs.ConversationRules.{line_expected, or_false}
use Rattle.git_client.proofs.Notes.{first_of_cut, stays_advertised}
use Rattle.git_client.proofs.Sequences.{gives_more, nearest-append}
use Rattle.git_server.specs.Answers.{AllFit, advertisement_of as server_sends, fetch_line, ls_refs_line, offered_line}
use Rattle.git_laws.specs.AnnouncedAnswers.{packets_of, announced_offer, announced_where}
use Rattle.git_laws.proofs.Receiving.{AnswerGives, given_give, given_whole, no_error}
use Rattle.git_laws.proofs.SpelledPackets.{front_are}

-- ---- the lines

-- a line: a key, and a value if it has one
abbrev OfferLine : Type 0
OfferLine = List ℕ × Option (List ℕ)

-- a line with a key alone, if it is advertised
abbrev line_where : Bool → List ℕ → List OfferLine
line_where is_offered key = if is_offered then (key, None) ∷ [] else []

-- the lines after those of the commands, and all lines after the first
abbrev other_lines : (server_option object_info : Bool) → Format → List OfferLine
other_lines server_option object_info format =
    line_where server_option (codes "server-option")
    ++ (codes "object-format", Some (format_name format)) ∷ line_where object_info (codes "object-info")

abbrev offer_lines : Offer → List OfferLine
offer_lines offer =
    (codes "agent", Some (agent_text offer.agent)) ∷ (codes "ls-refs", features_value (ls_refs_features offer))
    ∷ (codes "fetch", features_value (fetch_features offer)) ∷ other_lines offer.server_option offer.object_info offer.format

abbrev line_packets : List OfferLine → List Pkt
line_packets = map (λ line. text_line (valued line.0 line.1))

abbrev capabilities_in : List OfferLine → List EventValue
capabilities_in = map (λ line. capability line.0 line.1)

-- these are the lines of an advertisement, and its packets
others_packets : (server_option object_info : Bool) (format : Format)
    → offered_line server_option (codes "server-option") ++ format_line format ∷ (offered_line object_info (codes "object-info") ++ flush ∷ [])
    ≡ line_packets (other_lines server_option object_info format) ++ flush ∷ []
others_packets true true format = refl
others_packets true false format = refl
others_packets false true format = refl
others_packets false false format = refl

others_announced : (server_option object_info : Bool) (format : Format)
    → capabilities_in (other_lines server_option object_info format) ++ offered ∷ []
    ≡ announced_where server_option (codes "server-option")
    ++ capability (codes "object-format") (Some (format_name format)) ∷ (announced_where object_info (codes "object-info") ++ offered ∷ [])
others_announced true true format = refl
others_announced true false format = refl
others_announced false true format = refl
others_announced false false format = refl

-- the packets of a list, the last one first, after those before
abbrev pub pushed : List Pkt → List Pkt → List Pkt
pushed [] before = before
pushed (p ∷ ps) before = pushed ps (p ∷ before)

-- the packets of all lines, the last one first
abbrev pub lines_stated : Offer → List Pkt
lines_stated offer = pushed (line_packets (offer_lines offer)) (text_line (codes "version 2") ∷ [])

-- a line is not a flush
lines_flush : (lines : List OfferLine) (before : List Pkt) → flushes (pushed (line_packets lines) before) ≡ flushes before
lines_flush [] before = refl
lines_flush ((key, value) ∷ lines) before = lines_flush lines (text_line (valued key value) ∷ before)

-- so all of them are in one advertisement
lines_advertised : (lines : List OfferLine) (before : List Pkt) → flushes before ≡ 0
    → advertisement_of (pushed (line_packets lines) before) ≡ pushed (line_packets lines) (advertisement_of before)
lines_advertised [] before none = refl
lines_advertised ((key, value) ∷ lines) before none =
    let line = text_line (valued key value) in
    lines_advertised lines (line ∷ before) none
    ∙ ap (λ (n : ℕ). pushed (line_packets lines) (cond (is_zero n) (line ∷ advertisement_of before) (advertisement_of before))) none

-- after them another line may come
lines_expected : (agent : Agent) (format : Format) (ending : Ending) (lines : List OfferLine) (line : List ℕ) (before : List Pkt) → flushes before ≡ 0
    → place_after (terms_by agent format ending) [] (pushed (line_packets lines) (payload line ∷ before))
    ≡ Some (capabilities (is_spoken (noted_of (pushed (line_packets lines) (payload line ∷ message_of before))) format))
lines_expected agent format ending [] line before none = line_expected (terms_by agent format ending) [] line before none
lines_expected agent format ending ((key, value) ∷ lines) line before none =
    lines_expected agent format ending lines (valued key value ++ 10 ∷ []) (payload line ∷ before) none

-- the flush after them has no response end
no_end : (ending : Ending) (before : List Pkt) → flushes before ≡ 0 → is_end_expected ending (flush ∷ before) ≡ false
no_end FlushOnly before none = refl
no_end ResponseEnd before none = ap (λ (n : ℕ). not (is_zero n)) none

-- ---- the capabilities noted from them

-- a property for both values of a flag
each : (P : Bool → Type 0) → P true → P false → (is_offered : Bool) → P is_offered
each P where_it_is where_not true = where_it_is
each P where_it_is where_not false = where_not

abbrev is_sha1 : Format → Bool
is_sha1 Sha1 = true
is_sha1 Sha256 = false

-- the capabilities noted from the lines of the commands
abbrev commands_noted : Offer → Caps
commands_noted offer = record {
  agent = true;
  ls_refs = true;
  unborn = offer.unborn;
  fetch = true;
  shallow = offer.shallow;
  ref_in_want = offer.ref_in_want;
  wait_for_done = offer.wait_for_done;
  filter = offer.filter;
  server_option = false;
  object_info = false;
  object_format = false;
  sha1 = false;
  sha256 = false;
}

-- and those noted from the other lines too
abbrev others_noted : (server_option object_info : Bool) → Format → Caps → Caps
others_noted server_option object_info format caps = record caps {
  server_option = server_option || caps.server_option;
  object_info = object_info || caps.object_info;
  object_format = true;
  sha1 = is_sha1 format || caps.sha1;
  sha256 = not (is_sha1 format) || caps.sha256;
}

-- the lines of the commands for these features, the last one first
abbrev commands_stated : Offer → List Pkt
commands_stated offer = fetch_line offer ∷ ls_refs_line offer ∷ agent_line offer.agent ∷ text_line (codes "version 2") ∷ []

-- a line passes the test
abbrev line_passes : (List ℕ → List ℕ → List (List ℕ) → Bool) → Pkt → Bool
line_passes passes p = passes (key_in p) (value_in p) (spaced_words (value_in p))

-- the capabilities noted from these packets, the third of them a line with this key and value
abbrev noted_with_line : (key value : List ℕ) (first second : Pkt) (others : List Pkt) → Caps
noted_with_line key value first second others = noted_by
    (λ passes. line_passes passes first || (line_passes passes second || (passes key value (spaced_words value) || list_any (line_passes passes) others)))
    (λ flag named. named)

-- the key of the line that names an agent
agent_key : (agent : Agent) → key_in (agent_line agent) ≡ codes "agent"
agent_key agent = ap key_of (text_of-line_end (codes "agent=" ++ agent_text agent))

module _ (agent : Agent) (format : Format) (object_info server_option : Bool) where
  abbrev offer_of : (unborn shallow ref_in_want wait_for_done filter : Bool) → Offer
  offer_of unborn shallow ref_in_want wait_for_done filter = record {
    format = format;
    unborn = unborn;
    shallow = shallow;
    ref_in_want = ref_in_want;
    wait_for_done = wait_for_done;
    filter = filter;
    object_info = object_info;
    server_option = server_option;
    agent = agent;
  }

  -- what is noted if the second line has this key, whatever its value
  commands_of : (value : List ℕ) (unborn shallow ref_in_want wait_for_done filter : Bool)
      → let offer = offer_of unborn shallow ref_in_want wait_for_done filter in
      noted_with_line (codes "agent") value (fetch_line offer) (ls_refs_line offer) (text_line (codes "version 2") ∷ []) ≡ commands_noted offer
  commands_of value = each _
      (each _ (each _ (each _ (each _ refl refl) (each _ refl refl)) (each _ (each _ refl refl) (each _ refl refl)))
      (each _ (each _ (each _ refl refl) (each _ refl refl)) (each _ (each _ refl refl) (each _ refl refl))))
      (each _ (each _ (each _ (each _ refl refl) (each _ refl refl)) (each _ (each _ refl refl) (each _ refl refl)))
      (each _ (each _ (each _ refl refl) (each _ refl refl)) (each _ (each _ refl refl) (each _ refl refl))))

commands_are : (offer : Offer) → noted_of (commands_stated offer) ≡ commands_noted offer
commands_are offer =
    let value = value_in (agent_line offer.agent) in
    ap (λ (key : List ℕ). noted_with_line key value (fetch_line offer) (ls_refs_line offer) (text_line (codes "version 2") ∷ [])) (agent_key offer.agent)
    ∙ commands_of offer.agent offer.format offer.object_info offer.server_option value
    offer.unborn offer.shallow offer.ref_in_want offer.wait_for_done offer.filter

others_are : (server_option object_info : Bool) (format : Format) (before : List Pkt)
    → noted_of (pushed (line_packets (other_lines server_option object_info format)) before)
    ≡ others_noted server_option object_info format (noted_of before)
others_are true true Sha1 before = refl
others_are true true Sha256 before = refl
others_are true false Sha1 before = refl
others_are true false Sha256 before = refl
others_are false true Sha1 before = refl
others_are false true Sha256 before = refl
others_are false false Sha1 before = refl
others_are false false Sha256 before = refl

abbrev all_noted : Offer → Caps
all_noted offer = others_noted offer.server_option offer.object_info offer.format (commands_noted offer)

lines_noted : (offer : Offer) → noted_of (lines_stated offer) ≡ all_noted offer
lines_noted offer =
    others_are offer.server_option offer.object_info offer.format (commands_stated offer)
    ∙ ap (others_noted offer.server_option offer.object_info offer.format)
    (commands_are offer)

-- with these capabilities the server speaks its format
spoken_by : (server_option object_info : Bool) (format : Format) (caps : Caps)
    → is_spoken (others_noted server_option object_info format caps) format ≡ true
spoken_by server_option object_info Sha1 caps = refl
spoken_by server_option object_info Sha256 caps = refl

is_sent : (offer : Offer) → is_spoken (noted_of (lines_stated offer)) offer.format ≡ true
is_sent offer =
    ap (λ (caps : Caps). is_spoken caps offer.format) (lines_noted offer)
    ∙ spoken_by offer.server_option offer.object_info offer.format (commands_noted offer)

-- and advertises exactly this offer, but for the agent's name
offered_so : (offer : Offer) → noted_offer (all_noted offer) offer.format ≡ record offer { agent = own_agent }
offered_so offer = λ i. record {
  format = offer.format;
  unborn = offer.unborn;
  shallow = offer.shallow;
  ref_in_want = offer.ref_in_want;
  wait_for_done = offer.wait_for_done;
  filter = offer.filter;
  object_info = or_false offer.object_info i;
  server_option = or_false offer.server_option i;
  agent = own_agent;
}

noted_so : (offer : Offer) → noted_offer (noted_of (lines_stated offer)) offer.format ≡ record offer { agent = own_agent }
noted_so offer = ap (λ (caps : Caps). noted_offer caps offer.format) (lines_noted offer) ∙ offered_so offer

-- requests name the format
pub format_meant : (offer : Offer) (format : Format) (named : Bool) → named ≡ (noted_of (flush ∷ lines_stated offer)).object_format
    → IsFormatMeant format named
format_meant offer Sha1 named e = tt
format_meant offer Sha256 named e = e ∙ ap (λ (caps : Caps). caps.object_format) (lines_noted offer)

-- ---- the events of the lines

-- each is a capability line, does not begin like an error packet, and is short
abbrev is_line : OfferLine → Bool
is_line (key, value) =
    not (eqb (slice_index (valued key value) 0) 69) && ((is_key key && is_value (unwrap_or value [])) && ltb (length (valued key value)) 100)

ls_refs_is : (unborn : Bool) → is_line (codes "ls-refs", features_value (offered_words ((unborn, codes "unborn") ∷ []))) ≡ true
ls_refs_is = each _ refl refl

fetch_is : (shallow ref_in_want wait_for_done filter : Bool)
    → is_line (
      codes "fetch",
      features_value (offered_words (
          (shallow, codes "shallow") ∷ (ref_in_want, codes "ref-in-want") ∷ (wait_for_done, codes "wait-for-done") ∷ (filter, codes "filter") ∷ [])),
    ) ≡ true
fetch_is = each _
    (each _ (each _ (each _ refl refl) (each _ refl refl)) (each _ (each _ refl refl) (each _ refl refl)))
    (each _ (each _ (each _ refl refl) (each _ refl refl)) (each _ (each _ refl refl) (each _ refl refl)))

others_are_lines : (server_option object_info : Bool) (format : Format) → list_all is_line (other_lines server_option object_info format) ≡ true
others_are_lines true true Sha1 = refl
others_are_lines true true Sha256 = refl
others_are_lines true false Sha1 = refl
others_are_lines true false Sha256 = refl
others_are_lines false true Sha1 = refl
others_are_lines false true Sha256 = refl
others_are_lines false false Sha1 = refl
others_are_lines false false Sha256 = refl

both_true : (a b : Bool) → a ≡ true → b ≡ true → (a && b) ≡ true
both_true a b h k = rw (h, k) refl

agent_is : (agent : Agent) → is_line (codes "agent", Some (agent_text agent)) ≡ true
agent_is agent =
    let short = agent_is_short agent in
    both_true _ _ (agent_is_value agent) (lt-ltb (length (codes "agent=" ++ agent_text agent)) 100 (omega (arith, short)))

are_lines : (offer : Offer) → list_all is_line (offer_lines offer) ≡ true
are_lines offer =
    both_true _ _ (agent_is offer.agent) (both_true _ _ (ls_refs_is offer.unborn)
    (both_true _ _ (fetch_is offer.shallow offer.ref_in_want offer.wait_for_done offer.filter)
    (others_are_lines offer.server_option offer.object_info offer.format)))

other_byte : (byte : ℕ) → not (eqb byte 69) ≡ true → byte ≢ 69
other_byte byte e same = grind (arith, tests)

capability_of : (key : List ℕ) (value : Option (List ℕ)) → (is_key key && is_value (unwrap_or value [])) ≡ true → IsCapability (valued key value) key value
capability_of key None e = ((and_parts (is_key key) (is_value []) e).0, refl)
capability_of key (Some value) e = let parts = and_parts (is_key key) (is_value value) e in (parts.0, refl, parts.1)

record IsLine (key : List ℕ) (value : Option (List ℕ)) : Type 0 where
  begins : not (eqb (slice_index (valued key value) 0) 69) ≡ true
  is : (is_key key && is_value (unwrap_or value [])) ≡ true
  short : ltb (length (valued key value)) 100 ≡ true

line_parts : (key : List ℕ) (value : Option (List ℕ)) → is_line (key, value) ≡ true → IsLine key value
line_parts key value e =
    let first = and_parts (not (eqb (slice_index (valued key value) 0) 69)) _ e in
    let second = and_parts (is_key key && is_value (unwrap_or value [])) (ltb (length (valued key value)) 100) first.1 in
    record { begins = first.0; is = second.0; short = second.1 }

fits_short : (text : List ℕ) → ltb (length text) 100 ≡ true → length (text ++ 10 ∷ []) ≤ 65516
fits_short text short = let long = length-append text (10 ∷ []) in grind (arith, tests)

-- the packets of such lines fit
lines_fit : (lines : List OfferLine) → list_all is_line lines ≡ true → AllFit (line_packets lines ++ flush ∷ [])
lines_fit [] are = (omega arith, tt)
lines_fit ((key, value) ∷ lines) are =
    let is = and_parts (is_line (key, value)) (list_all is_line lines) are in
    let short = (line_parts key value is.0).short in
    (fits_short (valued key value) short, lines_fit lines is.1)

module _ (agent : Agent) (format : Format) (ending : Ending) where
  -- capability lines give their capabilities, and then the others follow
  capabilities_give : (lines : List OfferLine) (line : List ℕ) (before ps : List Pkt) (later : List EventValue) → flushes before ≡ 0
      → list_all is_line lines ≡ true → AnswerGives (terms_by agent format ending) [] (pushed (line_packets lines) (payload line ∷ before)) ps later
      → AnswerGives (terms_by agent format ending) [] (payload line ∷ before) (line_packets lines ++ ps) (capabilities_in lines ++ later)
  capabilities_give [] line before ps later none are others = others
  capabilities_give ((key, value) ∷ lines) line before ps later none are others =
      let place = capabilities (is_spoken (noted_of (payload line ∷ message_of before)) format) in
      let text = valued key value in
      let is = and_parts (is_line (key, value)) (list_all is_line lines) are in
      let parts = line_parts key value is.0 in (
        capability key value ∷ [],
        capabilities_in lines ++ later,
        refl,
        record {
          place = place;
          is_place = line_expected (terms_by agent format ending) [] line before none;
          gives = rw (text_of-line_end text)
              (record { no_error = no_error text (other_byte (slice_index text 0) parts.begins); conveys = capability_of key value parts.is });
        },
        capabilities_give lines (text ++ 10 ∷ []) (payload line ∷ before) ps later none is.1 others,
      )

module _ (agent : Agent) (offer : Offer) (ending : Ending) where
  -- the flush gives the event of a complete advertisement
  end_gives : AnswerGives (terms_by agent offer.format ending) [] (lines_stated offer) (flush ∷ []) (offered ∷ [])
  end_gives = (
    offered ∷ [],
    [],
    refl,
    record {
      place = capabilities (is_spoken (noted_of (lines_stated offer)) offer.format);
      is_place = lines_expected agent offer.format ending (offer_lines offer) (codes "version 2" ++ 10 ∷ []) [] refl;
      gives = ap (λ (spoken : Bool). cond spoken (Ok (offered ∷ [])) (Err WrongFormat)) (is_sent offer);
    },
    (
      refl,
      record {
        all_flushes = ap suc (lines_flush (offer_lines offer) (text_line (codes "version 2") ∷ []));
        no_end_expected = no_end ending (lines_stated offer) (lines_flush (offer_lines offer) (text_line (codes "version 2") ∷ []));
        no_message = refl;
      },
    ),
  )

  lines_give : AnswerGives (terms_by agent offer.format ending) [] (text_line (codes "version 2") ∷ []) (line_packets (offer_lines offer) ++ flush ∷ [])
      (capabilities_in (offer_lines offer) ++ offered ∷ [])
  lines_give =
      capabilities_give agent offer.format ending (offer_lines offer) (codes "version 2" ++ 10 ∷ []) [] (flush ∷ []) (offered ∷ []) refl (are_lines offer)
      end_gives

  -- all packets of the advertisement
  offer_gives : AnswerGives (terms_by agent offer.format ending) [] [] (server_sends offer) (announced_offer offer)
  offer_gives = (
    [],
    announced_offer offer,
    refl,
    record {
      place = version;
      is_place = refl;
      gives = record { no_error = no_error (codes "version 2") (λ e. omega arith); conveys = refl };
    },
    rw (others_packets offer.server_option offer.object_info offer.format, ← others_announced offer.server_option offer.object_info offer.format)
        lines_give,
  )

-- all packets of the advertisement fit
advertisement_fits : (offer : Offer) → AllFit (server_sends offer)
advertisement_fits offer =
    rw (others_packets offer.server_option offer.object_info offer.format) (omega arith, lines_fit (offer_lines offer) (are_lines offer))

-- ---- packets at any offset

-- the order of the packets does not depend on their offsets
pub nearest_pushed : (gs : List Given) (before : List Pkt) → nearest gs before ≡ pushed (packets_of gs) before
nearest_pushed [] before = refl
nearest_pushed (g ∷ gs) before = nearest_pushed gs (g.packet ∷ before)

pushed-append : (ps qs before : List Pkt) → pushed (ps ++ qs) before ≡ pushed qs (pushed ps before)
pushed-append [] qs before = refl
pushed-append (p ∷ ps) qs before = pushed-append ps qs (p ∷ before)

-- the advertisement, the last packet first
pub nearest_offer : (offer : Offer) (gs : List Given) → packets_of gs ≡ server_sends offer → nearest gs [] ≡ flush ∷ lines_stated offer
nearest_offer offer gs e =
    nearest_pushed gs [] ∙ ap (λ (ps : List Pkt). pushed ps []) e
    ∙ ap (λ (ps : List Pkt). pushed ps (commands_stated offer)) (others_packets offer.server_option offer.object_info offer.format)
    ∙ pushed-append (line_packets (other_lines offer.server_option offer.object_info offer.format)) (flush ∷ []) (commands_stated offer)

-- the capabilities noted from an advertisement, whatever follows it
pub noted_after_all : (offer : Offer) (back : List Given)
    → noted_of (advertisement_of (nearest back (flush ∷ lines_stated offer))) ≡ noted_of (flush ∷ lines_stated offer)
noted_after_all offer back =
    let first = text_line (codes "version 2") ∷ [] in
    ap noted_of (
    stays_advertised back (flush ∷ lines_stated offer) (omega arith)
    ∙ ap (λ (n : ℕ). cond (is_zero n) (flush ∷ advertisement_of (lines_stated offer)) (advertisement_of (lines_stated offer)))
    (lines_flush (offer_lines offer) first)
    ∙ ap (λ (l : List Pkt). flush ∷ l) (lines_advertised (offer_lines offer) first refl))

-- ---- what is received

module _ (t : Terms) (offer : Offer) (gs : List Given) (format : offer.format ≡ t.format) (are : packets_of gs ≡ server_sends offer) where
  given : AnswerGives t [] [] (packets_of gs) (announced_offer offer)
  given = rw are (subst (λ (f : Format). AnswerGives (terms_by t.agent f t.ending) [] [] (server_sends offer) (announced_offer offer)) format
      (offer_gives t.agent offer t.ending))

  -- the packets give the events of the offer, whatever is asked later
  pub offer_received : (asked : List Asked) → GiveAll t asked [] gs (announced_offer offer)
  offer_received asked = gives_more t [] asked [] gs (announced_offer offer) (given_give t [] [] gs (announced_offer offer) given)

  -- and then the advertisement is whole
  pub offer_whole : AreWhole t [] (nearest gs [])
  offer_whole = given_whole t [] [] gs (announced_offer offer) given

-- from bytes that begin with the advertisement exactly the offer is noted, but for the agent's name
pub offer_noted : (t : Terms) (asked : List Asked) (offer : Offer) (more : List ℕ) (caps : Caps) → offer.format ≡ t.format
    → HasNoted t asked (spelled (server_sends offer) ++ more) caps → noted_offer caps t.format ≡ record offer { agent = own_agent }
offer_noted t asked offer more caps format (clean, events, sounds, is) =
    let (front, back, whole, are) =
    front_are 0 (server_sends offer) more sounds.given sounds.rest (advertisement_fits offer) sounds.splits.spelled sounds.splits.ends in
    let arrived = offer_received t offer front format are asked in
    let (tail, cut) = first_of_cut t asked [] front clean back sounds.more (announced_offer offer) (sym whole ∙ sounds.cut) arrived sounds.stops in
    let order : nearest clean [] ≡ nearest tail (flush ∷ lines_stated offer) =
    ap (λ (l : List Given). nearest l []) cut ∙ nearest-append front tail [] ∙ ap (nearest tail) (nearest_offer offer front are) in
    let same : caps ≡ noted_of (lines_stated offer) =
    is ∙ ap (λ (l : List Pkt). noted_of (advertisement_of l)) order ∙ noted_after_all offer tail in
    rw (← format, same) (noted_so offer)
