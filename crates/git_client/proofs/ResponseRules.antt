-- A response follows its rule exactly if it is whole and each of its packets is in its place.
use Rattle.std.proofs.Common.{◌≡◌, ◌≢◌, ◌⊎◌, ◌↔◌, ◌||◌, inl, inr, ℕ, Bool, true, false, List, [], ◌∷◌, ◌++◌, Option, Some, None, Ok}
use Rattle.std.proofs.Common.{refl, sym, ap, ◌∙◌, subst, append-nil, codes, map}
use Rattle.git_names.specs.ObjectName.{ObjectName}
use Rattle.git_names.specs.declared.object_format.Format.{Format}
use Rattle.git_pkt.specs.Packets.{Pkt, flush, delim, resp_end, payload, text_of}
use Rattle.git_pkt.specs.Splits.{Given}
use Rattle.git_msg.specs.Advertisement.{noted_of}
use Rattle.git_msg.specs.Asked.{Asked, ls_refs, fetch, object_info, done_in}
use Rattle.git_msg.specs.ResponseLines.{IsAckLine}
use Rattle.git_msg.specs.Texts.{IsErrorText}
use Rattle.git_msg.specs.declared.offers.Caps.{Caps}
use Rattle.git_client.specs.declared.events.Ending.{Ending}
use Rattle.git_client.specs.declared.events.Ending.TheVariants.{FlushOnly, ResponseEnd as WithResponseEnd}
use Rattle.git_client.specs.declared.sections.Acks.{Acks}
use Rattle.git_client.specs.declared.sections.Allowed.{Allowed}
use Rattle.git_client.specs.declared.sections.Section.{Section}
use Rattle.git_client.specs.declared.sections.Section.TheVariants.{Acknowledgments as AcknowledgmentsHeader, ShallowInfo as ShallowInfoHeader}
use Rattle.git_client.specs.declared.sections.Section.TheVariants.{WantedRefs as WantedRefsHeader, Packfile as PackfileHeader}
use Rattle.git_client.specs.declared.phase.Expected.{Expected}
use Rattle.git_client.specs.declared.phase.Expected.TheVariants.{Version, Capabilities, References, Header, Acknowledgments, ShallowInfo, WantedRefs}
use Rattle.git_client.specs.declared.phase.Expected.TheVariants.{Packfile, SizeLine, Sizes, ResponseEnd}
use Rattle.git_client.specs.declared.phase.Phase.{Phase}
use Rattle.git_client.specs.declared.phase.Phase.TheVariants.{Receiving, Ready, Asking, Leaving, Left, Failed}
use Rattle.git_client.specs.Parts.{Terms, advertisement_of, nearest}
use Rattle.git_client.specs.Places.{Place, acknowledgments, header, references, shallow_info, sizes, wanted_refs}
use Rattle.git_client.specs.Sections.{acks_with, allowed_after, allows, header_of, section_named}
use Rattle.git_client.specs.Events.{EventValue, Gives, MeansEvents, ack, events_of_delimiter, ended, ended_by, events_of_flush, nak, ready, section}
use Rattle.git_client.specs.Conversation.{GiveAll, GivesAt}
use Rattle.git_client.specs.Responses.{AfterAcks, AcknowledgmentsSection, Either, FetchResponse, First, IsAck, IsBand, IsDelimiter, IsEnd, IsHeader, IsNak}
use Rattle.git_client.specs.Responses.{IsResponse, IsText, LsRefsResponse, Many, ObjectInfoResponse, PackPart, PackfileSection, Rule}
use Rattle.git_client.specs.Responses.{ShallowInfoSection, WantedRefsSection}
use Rattle.git_client.specs.Machine.Turns.{NotesAfter, expected_after_delimiter, expected_after_header, expected_after_line, expected_in}
use Rattle.git_client.specs.Machine.Turns.{first_expected, phase_after}
use Rattle.git_client.specs.Machine.Turns.{phase_after_response, place_expected}
use Rattle.git_client.specs.Machine.Client.{AreWhole, Behind, IsAsked}
use Rattle.git_client.proofs.Judged.{gives_well, place_is}
use Rattle.git_client.proofs.PlacePackets.{stated_by}
use Rattle.git_client.proofs.Questions.{expected_stated}
use Rattle.git_client.proofs.SectionSteps.{header_named}
use Rattle.git_client.proofs.Truncation.{none_expected}

-- no packet, and no event
abbrev Nothing : Rule
Nothing packets events = (packets ≡ []) × (events ≡ [])

abbrev Never : Rule
Never packets events = ⊥

-- the response end alone
abbrev LastPacket : Rule
LastPacket packets events = (packets ≡ resp_end ∷ []) × (events ≡ ended ∷ [])

-- the rule of the rest of a response, by what is expected next
abbrev AcksPart : Format → Ending → (ready_came nak_came any : Bool) → Rule
AcksPart format ending true nak_came any = First IsDelimiter (PackPart format ending true true)
AcksPart format ending false true any = AfterAcks format ending
AcksPart format ending false false true = Many (IsAck format) (AfterAcks format ending)
AcksPart format ending false false false = Either (First IsNak (AfterAcks format ending)) (Many (IsAck format) (AfterAcks format ending))

abbrev HeaderPart : Format → Ending → (acknowledgments shallow wanted : Bool) → Rule
HeaderPart format ending true shallow wanted = Either (AcknowledgmentsSection format ending) (PackPart format ending shallow wanted)
HeaderPart format ending false shallow wanted = PackPart format ending shallow wanted

abbrev HeaderRule : Format → Ending → Allowed → Rule
HeaderRule format ending allowed = HeaderPart format ending allowed.acknowledgments allowed.shallow_info allowed.wanted_refs

abbrev RuleOf : Format → Ending → Expected → Rule
RuleOf format ending References = LsRefsResponse format ending
RuleOf format ending (Header allowed) = HeaderRule format ending allowed
RuleOf format ending (Acknowledgments announced) = AcksPart format ending announced.ready announced.nak announced.any
RuleOf format ending (ShallowInfo allowed) = Many (IsText (MeansEvents shallow_info format)) (First IsDelimiter (HeaderRule format ending allowed))
RuleOf format ending (WantedRefs allowed) = Many (IsText (MeansEvents wanted_refs format)) (First IsDelimiter (HeaderRule format ending allowed))
RuleOf format ending Packfile = Many IsBand (IsEnd ending)
RuleOf format ending SizeLine = ObjectInfoResponse format ending
RuleOf format ending Sizes = Many (IsText (MeansEvents sizes format)) (IsEnd ending)
RuleOf format ending ResponseEnd = LastPacket
RuleOf format ending expected = Never

-- and of the rest in a phase: nothing after a whole response
abbrev RuleIn : Format → Ending → Phase → Rule
RuleIn format ending (Receiving expected) = RuleOf format ending expected
RuleIn format ending phase = Nothing

-- the next packet belongs to a response; if no acknowledgment was received, neither `NAK` nor `ready` was
abbrev IsReached : Expected → Type 0
IsReached Version = ⊥
IsReached Capabilities = ⊥
IsReached (Acknowledgments announced) = announced.any ≡ false → (announced.nak ≡ false) × (announced.ready ≡ false)
IsReached expected = Unit {0}

abbrev IsReachedIn : Phase → Type 0
IsReachedIn (Receiving expected) = IsReached expected
IsReachedIn phase = Unit {0}

module _ (format : Format) (ending : Ending) (caps : Caps) where
  -- a packet that is expected, and the rest by the rule of what is expected after it
  abbrev Steps : Expected → Pkt → List Pkt → List EventValue → Type 0
  Steps expected p packets events =
      (now : List EventValue) × (later : List EventValue) × (events ≡ now ++ later) × Gives format ending (place_expected caps format expected) p now
      × RuleIn format ending (phase_after ending expected p) packets later

-- ---- the end of a response

module _ (format : Format) where
  -- the flush, and what follows it
  abbrev EndsFrom : Ending → List Pkt → List EventValue → Type 0
  EndsFrom ending packets events =
      (later : List EventValue) × (events ≡ ended_by ending ++ later) × RuleIn format ending (phase_after_response ending) packets later

  end_to : (ending : Ending) (packets : List Pkt) (events : List EventValue) → IsEnd ending (flush ∷ packets) events → EndsFrom ending packets events
  end_to FlushOnly packets events (ps, es) = ([], es, ((let none : packets ≡ [] = cc in none), refl))
  end_to WithResponseEnd packets events (ps, es) = (ended ∷ [], es, ((let last : packets ≡ resp_end ∷ [] = cc in last), refl))

  end_from : (ending : Ending) (packets : List Pkt) (events : List EventValue) → EndsFrom ending packets events → IsEnd ending (flush ∷ packets) events
  end_from FlushOnly packets events (later, es, (none, nothing)) =
      (ap (λ (l : List Pkt). flush ∷ l) none, es ∙ ap (λ (l : List EventValue). ended ∷ l) nothing)
  end_from WithResponseEnd packets events (later, es, (last, is)) = (ap (λ (l : List Pkt). flush ∷ l) last, es ∙ is)

  -- only a flush begins the end of a response
  abbrev NoFlush : Pkt → Type 0
  NoFlush flush = ⊥
  NoFlush p = Unit {0}

  no_end : (ending : Ending) (p : Pkt) (packets : List Pkt) (events : List EventValue) → NoFlush p → IsEnd ending (p ∷ packets) events → ⊥
  no_end ending flush packets events other h = other
  no_end FlushOnly p packets events other h = let e = h.0 in cc
  no_end WithResponseEnd p packets events other h = let e = h.0 in cc

  none_ends : (ending : Ending) (events : List EventValue) → IsEnd ending [] events → ⊥
  none_ends FlushOnly events h = let e = h.0 in cc
  none_ends WithResponseEnd events h = let e = h.0 in cc

-- ---- what is expected, case by case

module _ (format : Format) (ending : Ending) (caps : Caps) where
  abbrev To : Expected → Type 0
  To expected = (p : Pkt) (ps : List Pkt) (es : List EventValue) → RuleOf format ending expected (p ∷ ps) es → Steps format ending caps expected p ps es

  abbrev From : Expected → Type 0
  From expected = (p : Pkt) (ps : List Pkt) (es : List EventValue) → Steps format ending caps expected p ps es → RuleOf format ending expected (p ∷ ps) es

  -- the flush of a response
  flush_to : (ps : List Pkt) (es : List EventValue) → IsEnd ending (flush ∷ ps) es
      → (now : List EventValue) × (later : List EventValue) × (es ≡ now ++ later) × (now ≡ ended_by ending)
      × RuleIn format ending (phase_after_response ending) ps later
  flush_to ps es end = let (later, e, rest) = end_to format ending ps es end in (ended_by ending, later, e, refl, rest)

  flush_from : (ps : List Pkt) (es now later : List EventValue) → es ≡ now ++ later → events_of_flush ending references ≡ Ok now
      → RuleIn format ending (phase_after_response ending) ps later → IsEnd ending (flush ∷ ps) es
  flush_from ps es now later e gives rest =
      let is : now ≡ ended_by ending = stated_by (Ok (ended_by ending)) (ended_by ending) now refl gives in
      end_from format ending ps es (later, e ∙ ap (λ (l : List EventValue). l ++ later) is, rest)

  references_to : To References
  references_to (payload line) ps es (inl end) = absurd (no_end format ending (payload line) ps es tt end)
  references_to (payload line) ps es (inr (now, later, e, (no_error, conveys), rest)) = (now, later, e, record { no_error = no_error; conveys = conveys }, rest)
  references_to flush ps es (inl end) = let (now, later, e, is, rest) = flush_to ps es end in (now, later, e, ap Ok (sym is), rest)
  references_to flush ps es (inr x) = absurd x.3
  references_to p ps es (inl end) = absurd (no_end format ending p ps es tt end)
  references_to p ps es (inr x) = absurd x.3

  references_from : From References
  references_from (payload line) ps es (now, later, e, gives, rest) = inr (now, later, e, (gives.no_error, gives.conveys), rest)
  references_from flush ps es (now, later, e, gives, rest) = inl (flush_from ps es now later e gives rest)
  references_from p ps es x = let gives = x.3 in absurd (cc)

  sizes_to : To Sizes
  sizes_to (payload line) ps es (inl end) = absurd (no_end format ending (payload line) ps es tt end)
  sizes_to (payload line) ps es (inr (now, later, e, (no_error, conveys), rest)) = (now, later, e, record { no_error = no_error; conveys = conveys }, rest)
  sizes_to flush ps es (inl end) = let (now, later, e, is, rest) = flush_to ps es end in (now, later, e, ap Ok (sym is), rest)
  sizes_to flush ps es (inr x) = absurd x.3
  sizes_to p ps es (inl end) = absurd (no_end format ending p ps es tt end)
  sizes_to p ps es (inr x) = absurd x.3

  sizes_from : From Sizes
  sizes_from (payload line) ps es (now, later, e, gives, rest) = inr (now, later, e, (gives.no_error, gives.conveys), rest)
  sizes_from flush ps es (now, later, e, gives, rest) = inl (flush_from ps es now later e gives rest)
  sizes_from p ps es x = let gives = x.3 in absurd (cc)

  size_line_to : To SizeLine
  size_line_to (payload line) ps es (inl end) = absurd (no_end format ending (payload line) ps es tt end)
  size_line_to (payload line) ps es (inr (now, later, e, (no_error, conveys), rest)) = (now, later, e, record { no_error = no_error; conveys = conveys }, rest)
  size_line_to flush ps es (inl end) = let (now, later, e, is, rest) = flush_to ps es end in (now, later, e, ap Ok (sym is), rest)
  size_line_to flush ps es (inr x) = absurd x.3
  size_line_to p ps es (inl end) = absurd (no_end format ending p ps es tt end)
  size_line_to p ps es (inr x) = absurd x.3

  size_line_from : From SizeLine
  size_line_from (payload line) ps es (now, later, e, gives, rest) = inr (now, later, e, (gives.no_error, gives.conveys), rest)
  size_line_from flush ps es (now, later, e, gives, rest) = inl (flush_from ps es now later e gives rest)
  size_line_from p ps es x = let gives = x.3 in absurd (cc)

  packfile_to : To Packfile
  packfile_to (payload line) ps es (inl end) = absurd (no_end format ending (payload line) ps es tt end)
  packfile_to (payload line) ps es (inr x) = x
  packfile_to flush ps es (inl end) = let (now, later, e, is, rest) = flush_to ps es end in (now, later, e, ap Ok (sym is), rest)
  packfile_to flush ps es (inr x) = absurd x.3
  packfile_to p ps es (inl end) = absurd (no_end format ending p ps es tt end)
  packfile_to p ps es (inr x) = absurd x.3

  packfile_from : From Packfile
  packfile_from (payload line) ps es x = inr x
  packfile_from flush ps es (now, later, e, gives, rest) = inl (flush_from ps es now later e gives rest)
  packfile_from p ps es x = let gives = x.3 in absurd (cc)

  response_end_to : To ResponseEnd
  response_end_to resp_end ps es (e, is) =
      (es, [], sym (append-nil es), ap Ok (sym is), ((let none : ps ≡ [] = cc in none), refl))
  response_end_to p ps es (e, is) = absurd (cc)

  response_end_from : From ResponseEnd
  response_end_from resp_end ps es (now, later, e, gives, (none, nothing)) = (
    ap (λ (l : List Pkt). resp_end ∷ l) none,
    e ∙ ap (λ (l : List EventValue). l ++ later) (stated_by (Ok (ended ∷ [])) (ended ∷ []) now refl gives)
        ∙ ap (λ (l : List EventValue). ended ∷ l) nothing,
  )
  response_end_from (payload line) ps es x = absurd x.3
  response_end_from p ps es x = let gives = x.3 in absurd (cc)

  -- the delimiter after a section, at a place where it gives no event
  delimiter_first : (rule : Rule) (ps : List Pkt) (es : List EventValue) → First IsDelimiter rule (delim ∷ ps) es
      → (now : List EventValue) × (later : List EventValue) × (es ≡ now ++ later) × (events_of_delimiter shallow_info ≡ Ok now) × rule ps later
  delimiter_first rule ps es (now, later, e, (is, none), rest) = (now, later, e, ap Ok (sym none), rest)

  delimiter_then : (rule : Rule) (ps : List Pkt) (es now later : List EventValue) → es ≡ now ++ later
      → events_of_delimiter shallow_info ≡ Ok now → rule ps later → First IsDelimiter rule (delim ∷ ps) es
  delimiter_then rule ps es now later e gives rest = (now, later, e, (refl, stated_by (Ok []) [] now refl gives), rest)

  no_delimiter : (rule : Rule) (p : Pkt) (ps : List Pkt) (es : List EventValue) → p ≢ delim → First IsDelimiter rule (p ∷ ps) es → ⊥
  no_delimiter rule p ps es other x = other x.3.0

  shallow_to : (allowed : Allowed) → To (ShallowInfo allowed)
  shallow_to allowed (payload line) ps es (inl x) = absurd (no_delimiter (HeaderRule format ending allowed) (payload line) ps es (λ e. cc) x)
  shallow_to allowed (payload line) ps es (inr (now, later, e, (no_error, conveys), rest)) =
      (now, later, e, record { no_error = no_error; conveys = conveys }, rest)
  shallow_to allowed delim ps es (inl x) = delimiter_first (HeaderRule format ending allowed) ps es x
  shallow_to allowed delim ps es (inr x) = absurd x.3
  shallow_to allowed p ps es (inl x) = absurd (no_delimiter (HeaderRule format ending allowed) p ps es (λ e. cc) x)
  shallow_to allowed p ps es (inr x) = absurd x.3

  shallow_from : (allowed : Allowed) → From (ShallowInfo allowed)
  shallow_from allowed (payload line) ps es (now, later, e, gives, rest) = inr (now, later, e, (gives.no_error, gives.conveys), rest)
  shallow_from allowed delim ps es (now, later, e, gives, rest) = inl (delimiter_then (HeaderRule format ending allowed) ps es now later e gives rest)
  shallow_from allowed p ps es x = let gives = x.3 in absurd (cc)

  wanted_to : (allowed : Allowed) → To (WantedRefs allowed)
  wanted_to allowed (payload line) ps es (inl x) = absurd (no_delimiter (HeaderRule format ending allowed) (payload line) ps es (λ e. cc) x)
  wanted_to allowed (payload line) ps es (inr (now, later, e, (no_error, conveys), rest)) =
      (now, later, e, record { no_error = no_error; conveys = conveys }, rest)
  wanted_to allowed delim ps es (inl x) = delimiter_first (HeaderRule format ending allowed) ps es x
  wanted_to allowed delim ps es (inr x) = absurd x.3
  wanted_to allowed p ps es (inl x) = absurd (no_delimiter (HeaderRule format ending allowed) p ps es (λ e. cc) x)
  wanted_to allowed p ps es (inr x) = absurd x.3

  wanted_from : (allowed : Allowed) → From (WantedRefs allowed)
  wanted_from allowed (payload line) ps es (now, later, e, gives, rest) = inr (now, later, e, (gives.no_error, gives.conveys), rest)
  wanted_from allowed delim ps es (now, later, e, gives, rest) = inl (delimiter_then (HeaderRule format ending allowed) ps es now later e gives rest)
  wanted_from allowed p ps es x = let gives = x.3 in absurd (cc)

  -- ---- headers

  -- a section of the rule
  abbrev SectionRule : Section → Rule → Rule
  SectionRule AcknowledgmentsHeader rule = AcknowledgmentsSection format ending
  SectionRule ShallowInfoHeader rule = ShallowInfoSection format ending rule
  SectionRule WantedRefsHeader rule = WantedRefsSection format ending rule
  SectionRule PackfileHeader rule = PackfileSection format ending

  section_is : (begun : Section) → section_named (header_of begun) ≡ Some begun
  section_is AcknowledgmentsHeader = refl
  section_is ShallowInfoHeader = refl
  section_is WantedRefsHeader = refl
  section_is PackfileHeader = refl

  conveys_header : (allowed : Allowed) (text : List ℕ) (begun : Section) (now : List EventValue) → now ≡ section begun ∷ []
      → section_named text ≡ Some begun → allows allowed begun ≡ true → MeansEvents (header allowed) format text now
  conveys_header allowed text begun now is named may = rw is (named, may)

  -- a header that may come, and its section
  begins_to : (allowed : Allowed) (begun : Section) (rule : Rule) → allows allowed begun ≡ true
      → ((ps : List Pkt) (es : List EventValue) → rule ps es → RuleOf format ending (expected_in allowed begun) ps es)
      → (p : Pkt) (ps : List Pkt) (es : List EventValue) → First (IsHeader begun) rule (p ∷ ps) es → Steps format ending caps (Header allowed) p ps es
  begins_to allowed begun rule may on (payload line) ps es (now, later, e, (no_error, (is, content)), rest) =
      let named : section_named (text_of line) ≡ Some begun = ap section_named is ∙ section_is begun in (
        now,
        later,
        e,
        record {
          no_error = no_error;
          conveys = conveys_header allowed (text_of line) begun now content named may;
        },
        subst (λ (o : Option Section). RuleOf format ending (expected_after_header allowed o) ps later) (sym named) (on ps later rest),
      )
  begins_to allowed begun rule may on flush ps es x = absurd x.3
  begins_to allowed begun rule may on delim ps es x = absurd x.3
  begins_to allowed begun rule may on resp_end ps es x = absurd x.3

  -- the sections before a pack, in both directions
  pack_out : (shallow wanted : Bool) (ps : List Pkt) (es : List EventValue) → PackPart format ending shallow wanted ps es
      → PackfileSection format ending ps es
      ⊎ (((shallow ≡ true) × ShallowInfoSection format ending (PackPart format ending false wanted) ps es)
      ⊎ ((wanted ≡ true) × WantedRefsSection format ending (PackPart format ending shallow false) ps es))
  pack_out false false ps es h = inl h
  pack_out true false ps es (inl h) = inl h
  pack_out true false ps es (inr h) = inr (inl (refl, h))
  pack_out false true ps es (inl h) = inl h
  pack_out false true ps es (inr h) = inr (inr (refl, h))
  pack_out true true ps es (inl h) = inl h
  pack_out true true ps es (inr (inl h)) = inr (inl (refl, h))
  pack_out true true ps es (inr (inr h)) = inr (inr (refl, h))

  packfile_in : (shallow wanted : Bool) (ps : List Pkt) (es : List EventValue) → PackfileSection format ending ps es
      → PackPart format ending shallow wanted ps es
  packfile_in false false ps es h = h
  packfile_in true false ps es h = inl h
  packfile_in false true ps es h = inl h
  packfile_in true true ps es h = inl h

  shallow_in : (shallow wanted : Bool) (ps : List Pkt) (es : List EventValue) → shallow ≡ true
      → ShallowInfoSection format ending (PackPart format ending false wanted) ps es → PackPart format ending shallow wanted ps es
  shallow_in false wanted ps es may h = absurd (cc)
  shallow_in true false ps es may h = inr h
  shallow_in true true ps es may h = inr (inl h)

  wanted_in : (shallow wanted : Bool) (ps : List Pkt) (es : List EventValue) → wanted ≡ true
      → WantedRefsSection format ending (PackPart format ending shallow false) ps es → PackPart format ending shallow wanted ps es
  wanted_in shallow false ps es may h = absurd (cc)
  wanted_in false true ps es may h = inr h
  wanted_in true true ps es may h = inr (inr h)

  pack_to : (allowed : Allowed) (p : Pkt) (ps : List Pkt) (es : List EventValue)
      → PackPart format ending allowed.shallow_info allowed.wanted_refs (p ∷ ps) es → Steps format ending caps (Header allowed) p ps es
  pack_to allowed p ps es h = elim (pack_out allowed.shallow_info allowed.wanted_refs (p ∷ ps) es h) [
    | inl x ↦ begins_to allowed PackfileHeader (Many IsBand (IsEnd ending)) refl (λ qs fs k. k) p ps es x
    | inr others ↦ elim others [
      | inl x ↦ begins_to allowed ShallowInfoHeader
          (Many (IsText (MeansEvents shallow_info format)) (First IsDelimiter (PackPart format ending false allowed.wanted_refs))) x.0
          (λ qs fs k. k) p ps es x.1
      | inr x ↦ begins_to allowed WantedRefsHeader
          (Many (IsText (MeansEvents wanted_refs format)) (First IsDelimiter (PackPart format ending allowed.shallow_info false))) x.0
          (λ qs fs k. k) p ps es x.1
    ]
  ]

  header_to_by : (may shallow wanted : Bool) → To (Header (record { acknowledgments = may; shallow_info = shallow; wanted_refs = wanted }))
  header_to_by true shallow wanted p ps es (inl h) =
      begins_to (record { acknowledgments = true; shallow_info = shallow; wanted_refs = wanted }) AcknowledgmentsHeader
      (Either (First IsNak (AfterAcks format ending)) (Many (IsAck format) (AfterAcks format ending))) refl (λ qs fs k. k) p ps es h
  header_to_by true shallow wanted p ps es (inr h) =
      pack_to (record { acknowledgments = true; shallow_info = shallow; wanted_refs = wanted }) p ps es h
  header_to_by false shallow wanted p ps es h =
      pack_to (record { acknowledgments = false; shallow_info = shallow; wanted_refs = wanted }) p ps es h

  acks_first : (may shallow wanted : Bool) (ps : List Pkt) (es : List EventValue) → may ≡ true → AcknowledgmentsSection format ending ps es
      → HeaderPart format ending may shallow wanted ps es
  acks_first true shallow wanted ps es e h = inl h
  acks_first false shallow wanted ps es e h = absurd (cc)

  pack_first : (may shallow wanted : Bool) (ps : List Pkt) (es : List EventValue) → PackPart format ending shallow wanted ps es
      → HeaderPart format ending may shallow wanted ps es
  pack_first true shallow wanted ps es h = inr h
  pack_first false shallow wanted ps es h = h

  -- the event of a header
  abbrev HeaderConveys : Allowed → List ℕ → List EventValue → Type 0
  HeaderConveys allowed text now =
      (begun : Section) × (now ≡ section begun ∷ []) × (section_named text ≡ Some begun) × (allows allowed begun ≡ true)

  header_conveys : (allowed : Allowed) (text : List ℕ) (now : List EventValue) → MeansEvents (header allowed) format text now
      → HeaderConveys allowed text now
  header_conveys allowed text (section begun ∷ []) conveys = (begun, refl, conveys.0, conveys.1)
  header_conveys allowed text now conveys = absurd conveys

  section_from : (allowed : Allowed) (line : List ℕ) (ps : List Pkt) (es now later : List EventValue) (begun : Section) → es ≡ now ++ later
      → ¬ IsErrorText (text_of line) → now ≡ section begun ∷ [] → section_named (text_of line) ≡ Some begun → allows allowed begun ≡ true
      → RuleOf format ending (expected_in allowed begun) ps later → HeaderRule format ending allowed (payload line ∷ ps) es
  section_from allowed line ps es now later AcknowledgmentsHeader e no_error content named may rest =
      acks_first allowed.acknowledgments allowed.shallow_info allowed.wanted_refs (payload line ∷ ps) es may
      (now, later, e, (no_error, (header_named (text_of line) AcknowledgmentsHeader named, content)), rest)
  section_from allowed line ps es now later ShallowInfoHeader e no_error content named may rest =
      pack_first allowed.acknowledgments allowed.shallow_info allowed.wanted_refs (payload line ∷ ps) es
      (shallow_in allowed.shallow_info allowed.wanted_refs (payload line ∷ ps) es may
      (now, later, e, (no_error, (header_named (text_of line) ShallowInfoHeader named, content)), rest))
  section_from allowed line ps es now later WantedRefsHeader e no_error content named may rest =
      pack_first allowed.acknowledgments allowed.shallow_info allowed.wanted_refs (payload line ∷ ps) es
      (wanted_in allowed.shallow_info allowed.wanted_refs (payload line ∷ ps) es may
      (now, later, e, (no_error, (header_named (text_of line) WantedRefsHeader named, content)), rest))
  section_from allowed line ps es now later PackfileHeader e no_error content named may rest =
      pack_first allowed.acknowledgments allowed.shallow_info allowed.wanted_refs (payload line ∷ ps) es
      (packfile_in allowed.shallow_info allowed.wanted_refs (payload line ∷ ps) es
      (now, later, e, (no_error, (header_named (text_of line) PackfileHeader named, content)), rest))

  header_from : (allowed : Allowed) → From (Header allowed)
  header_from allowed (payload line) ps es (now, later, e, gives, rest) =
      let (begun, content, named, may) = header_conveys allowed (text_of line) now gives.conveys in
      section_from allowed line ps es now later begun e gives.no_error content named may
      (subst (λ (o : Option Section). RuleOf format ending (expected_after_header allowed o) ps later) named rest)
  header_from allowed p ps es x = let gives = x.3 in absurd (cc)

  -- ---- acknowledgments

  abbrev AcksExpected : (ready_came nak_came any : Bool) → Expected
  AcksExpected ready_came nak_came any = Acknowledgments (record { any = any; nak = nak_came; ready = ready_came })

  after_to : (nak_came any : Bool) (p : Pkt) (ps : List Pkt) (es : List EventValue) → AfterAcks format ending (p ∷ ps) es
      → Steps format ending caps (AcksExpected false nak_came any) p ps es
  after_to nak_came any (payload line) ps es (inl end) = absurd (no_end format ending (payload line) ps es tt end)
  after_to nak_came any (payload line) ps es (inr (now, later, e, (no_error, (text, content)), rest)) =
      (now, later, e, record { no_error = no_error; conveys = rw content (text, refl) }, rw text rest)
  after_to nak_came any flush ps es (inl end) = let (now, later, e, is, rest) = flush_to ps es end in (now, later, e, ap Ok (sym is), rest)
  after_to nak_came any flush ps es (inr x) = absurd x.3
  after_to nak_came any p ps es (inl end) = absurd (no_end format ending p ps es tt end)
  after_to nak_came any p ps es (inr x) = absurd x.3

  many_to : (any : Bool) (p : Pkt) (ps : List Pkt) (es : List EventValue) → Many (IsAck format) (AfterAcks format ending) (p ∷ ps) es
      → Steps format ending caps (AcksExpected false false any) p ps es
  many_to any p ps es (inl h) = after_to false any p ps es h
  many_to any (payload line) ps es (inr (now, later, e, (no_error, (id, content, is)), rest)) =
      (now, later, e, record { no_error = no_error; conveys = rw content (is, refl) }, rw is.spelled rest)
  many_to any flush ps es (inr x) = absurd x.3
  many_to any delim ps es (inr x) = absurd x.3
  many_to any resp_end ps es (inr x) = absurd x.3

  acks_to : (ready nak_came any : Bool) → To (AcksExpected ready nak_came any)
  acks_to true nak_came any delim ps es h = delimiter_first (PackPart format ending true true) ps es h
  acks_to true nak_came any p ps es h = absurd (no_delimiter (PackPart format ending true true) p ps es (λ e. cc) h)
  acks_to false true any p ps es h = after_to true any p ps es h
  acks_to false false true p ps es h = many_to true p ps es h
  acks_to false false false (payload line) ps es (inl (now, later, e, (no_error, (text, content)), rest)) =
      (now, later, e, record { no_error = no_error; conveys = rw content (text, refl) }, rw text rest)
  acks_to false false false p ps es (inl x) = absurd x.3
  acks_to false false false p ps es (inr h) = many_to false p ps es h

  after_in : (nak_came any : Bool) (p : Pkt) (ps : List Pkt) (es : List EventValue) → AfterAcks format ending (p ∷ ps) es
      → AcksPart format ending false nak_came any (p ∷ ps) es
  after_in true any p ps es h = h
  after_in false true p ps es h = inl h
  after_in false false p ps es h = inr (inl h)

  ack_in : (any : Bool) (line : List ℕ) (ps : List Pkt) (es now later : List EventValue) → es ≡ now ++ later → IsAck format (payload line) now
      → Many (IsAck format) (AfterAcks format ending) ps later → AcksPart format ending false false any (payload line ∷ ps) es
  ack_in true line ps es now later e is rest = inr (now, later, e, is, rest)
  ack_in false line ps es now later e is rest = inr (inr (now, later, e, is, rest))

  -- the event of a line of the acknowledgments
  abbrev AckConveys : Acks → List ℕ → List EventValue → Type 0
  AckConveys announced text now =
      ((text ≡ codes "NAK") × (now ≡ nak ∷ []) × (announced.any ≡ false))
      ⊎ (((text ≡ codes "ready") × (now ≡ ready ∷ []) × (announced.ready ≡ false))
      ⊎ ((id : ObjectName) × (now ≡ ack id ∷ []) × IsAckLine format text id × ((announced.nak || announced.ready) ≡ false)))

  ack_conveys : (announced : Acks) (text : List ℕ) (now : List EventValue) → MeansEvents (acknowledgments announced) format text now
      → AckConveys announced text now
  ack_conveys announced text (nak ∷ []) conveys = inl (conveys.0, refl, conveys.1)
  ack_conveys announced text (ready ∷ []) conveys = inr (inl (conveys.0, refl, conveys.1))
  ack_conveys announced text (ack id ∷ []) conveys = inr (inr (id, refl, conveys.0, conveys.1))
  ack_conveys announced text now conveys = absurd conveys

  line_from : (ready_came nak_came any : Bool) → (any ≡ false → (nak_came ≡ false) × (ready_came ≡ false)) → (line : List ℕ) (ps : List Pkt)
      (es now later : List EventValue) → es ≡ now ++ later → ¬ IsErrorText (text_of line)
      → AckConveys (record { any = any; nak = nak_came; ready = ready_came }) (text_of line) now
      → RuleOf format ending (Acknowledgments (acks_with (record { any = any; nak = nak_came; ready = ready_came }) (text_of line))) ps later
      → AcksPart format ending ready_came nak_came any (payload line ∷ ps) es
  line_from false false false reached line ps es now later e no_error (inl (text, content, none)) rest =
      inl (now, later, e, (no_error, (text, content)), rw text at rest)
  line_from true nak_came false reached line ps es now later e no_error (inl x) rest = let is = (reached refl).1 in absurd (cc)
  line_from false true false reached line ps es now later e no_error (inl x) rest = let is = (reached refl).0 in absurd (cc)
  line_from ready_came nak_came true reached line ps es now later e no_error (inl x) rest = let is = x.2 in absurd (cc)
  line_from false nak_came any reached line ps es now later e no_error (inr (inl (text, content, none))) rest =
      after_in nak_came any (payload line) ps es (inr (now, later, e, (no_error, (text, content)), rw text at rest))
  line_from true nak_came any reached line ps es now later e no_error (inr (inl x)) rest = let is = x.2 in absurd (cc)
  line_from false false any reached line ps es now later e no_error (inr (inr (id, content, is, none))) rest =
      ack_in any line ps es now later e (no_error, (id, content, is)) (rw is.spelled at rest)
  line_from true false any reached line ps es now later e no_error (inr (inr x)) rest = let is = x.3 in absurd (cc)
  line_from ready_came true any reached line ps es now later e no_error (inr (inr x)) rest = let is = x.3 in absurd (cc)

  acks_from : (ready_came nak_came any : Bool) → IsReached (AcksExpected ready_came nak_came any) → From (AcksExpected ready_came nak_came any)
  acks_from ready_came nak_came any reached (payload line) ps es (now, later, e, gives, rest) =
      line_from ready_came nak_came any reached line ps es now later e gives.no_error
      (ack_conveys (record { any = any; nak = nak_came; ready = ready_came }) (text_of line) now gives.conveys) rest
  acks_from true nak_came any reached flush ps es x = let gives = x.3 in absurd (cc)
  acks_from false nak_came any reached flush ps es (now, later, e, gives, rest) =
      after_in nak_came any flush ps es (inl (flush_from ps es now later e gives rest))
  acks_from true nak_came any reached delim ps es (now, later, e, gives, rest) =
      delimiter_then (PackPart format ending true true) ps es now later e gives rest
  acks_from false nak_came any reached delim ps es x = let gives = x.3 in absurd (cc)
  acks_from ready_came nak_came any reached resp_end ps es x = let gives = x.3 in absurd (cc)

  -- ---- all cases

  to : (expected : Expected) → To expected
  to References p ps es h = references_to p ps es h
  to (Header allowed) p ps es h = header_to_by allowed.acknowledgments allowed.shallow_info allowed.wanted_refs p ps es h
  to (Acknowledgments announced) p ps es h = acks_to announced.ready announced.nak announced.any p ps es h
  to (ShallowInfo allowed) p ps es h = shallow_to allowed p ps es h
  to (WantedRefs allowed) p ps es h = wanted_to allowed p ps es h
  to Packfile p ps es h = packfile_to p ps es h
  to SizeLine p ps es h = size_line_to p ps es h
  to Sizes p ps es h = sizes_to p ps es h
  to ResponseEnd p ps es h = response_end_to p ps es h
  to expected p ps es h = absurd h

  from : (expected : Expected) → IsReached expected → From expected
  from References reached p ps es h = references_from p ps es h
  from (Header allowed) reached p ps es h = header_from allowed p ps es h
  from (Acknowledgments announced) reached p ps es h = acks_from announced.ready announced.nak announced.any reached p ps es h
  from (ShallowInfo allowed) reached p ps es h = shallow_from allowed p ps es h
  from (WantedRefs allowed) reached p ps es h = wanted_from allowed p ps es h
  from Packfile reached p ps es h = packfile_from p ps es h
  from SizeLine reached p ps es h = size_line_from p ps es h
  from Sizes reached p ps es h = sizes_from p ps es h
  from ResponseEnd reached p ps es h = response_end_from p ps es h
  from expected reached p ps es h = absurd reached

  -- while a response is expected, its rest is not empty
  pack_left : (shallow wanted : Bool) (es : List EventValue) → PackPart format ending shallow wanted [] es → ⊥
  pack_left shallow wanted es h = elim (pack_out shallow wanted [] es h) [ inl x ↦ x | inr others ↦ elim others [ inl x ↦ x.1 | inr x ↦ x.1 ] ]

  header_left : (may shallow wanted : Bool) (es : List EventValue) → HeaderPart format ending may shallow wanted [] es → ⊥
  header_left true shallow wanted es (inl h) = h
  header_left true shallow wanted es (inr h) = pack_left shallow wanted es h
  header_left false shallow wanted es h = pack_left shallow wanted es h

  after_left : (es : List EventValue) → AfterAcks format ending [] es → ⊥
  after_left es (inl end) = none_ends format ending es end
  after_left es (inr h) = h

  acks_left : (ready_came nak_came any : Bool) (es : List EventValue) → AcksPart format ending ready_came nak_came any [] es → ⊥
  acks_left true nak_came any es h = h
  acks_left false true any es h = after_left es h
  acks_left false false true es h = after_left es h
  acks_left false false false es (inl h) = h
  acks_left false false false es (inr h) = after_left es h

  none_left : (expected : Expected) (es : List EventValue) → RuleOf format ending expected [] es → ⊥
  none_left References es h = none_ends format ending es h
  none_left (Header allowed) es h = header_left allowed.acknowledgments allowed.shallow_info allowed.wanted_refs es h
  none_left (Acknowledgments announced) es h = acks_left announced.ready announced.nak announced.any es h
  none_left (ShallowInfo allowed) es h = h
  none_left (WantedRefs allowed) es h = h
  none_left Packfile es h = none_ends format ending es h
  none_left SizeLine es (inl h) = none_ends format ending es h
  none_left SizeLine es (inr h) = h
  none_left Sizes es h = none_ends format ending es h
  none_left ResponseEnd es h = let e = h.0 in cc
  none_left expected es h = h

  -- what is expected next belongs to a response too
  header_reached : (allowed : Allowed) (named : Option Section) → IsReached (expected_after_header allowed named)
  header_reached allowed None = tt
  header_reached allowed (Some AcknowledgmentsHeader) = λ e. (refl, refl)
  header_reached allowed (Some ShallowInfoHeader) = tt
  header_reached allowed (Some WantedRefsHeader) = tt
  header_reached allowed (Some PackfileHeader) = tt

  line_reached : (expected : Expected) (text : List ℕ) → IsReached expected → IsReached (expected_after_line expected text)
  line_reached Version text reached = absurd reached
  line_reached (Header allowed) text reached = header_reached allowed (section_named text)
  line_reached (Acknowledgments announced) text reached = λ e. absurd (cc)
  line_reached SizeLine text reached = tt
  line_reached expected text reached = reached

  delimiter_reached : (expected : Expected) → IsReached expected → IsReached (expected_after_delimiter expected)
  delimiter_reached (Acknowledgments announced) reached = tt
  delimiter_reached (ShallowInfo allowed) reached = tt
  delimiter_reached (WantedRefs allowed) reached = tt
  delimiter_reached expected reached = reached

  end_reached : (how : Ending) → IsReachedIn (phase_after_response how)
  end_reached FlushOnly = tt
  end_reached WithResponseEnd = tt

  flush_reached : (expected : Expected) → IsReached expected → IsReachedIn (phase_after ending expected flush)
  flush_reached Capabilities reached = absurd reached
  flush_reached expected reached = end_reached ending

  reached_next : (expected : Expected) (p : Pkt) → IsReached expected → IsReachedIn (phase_after ending expected p)
  reached_next expected (payload line) reached = line_reached expected (text_of line) reached
  reached_next expected delim reached = delimiter_reached expected reached
  reached_next expected flush reached = flush_reached expected reached
  reached_next expected resp_end reached = tt

  -- a response notes nothing
  notes_nothing : (expected : Expected) (p : Pkt) → IsReached expected → NotesAfter expected caps p caps
  notes_nothing Version p reached = absurd reached
  notes_nothing Capabilities p reached = absurd reached
  notes_nothing expected p reached = refl

-- ---- all packets of a response

abbrev pub packets_in : List Given → List Pkt
packets_in gs = map (λ g. g.packet) gs

module _ (t : Terms) (asked : List Asked) where
  -- if the rule is followed, each packet is in its place
  goes_by : (gs : List Given) (before : List Pkt) (phase : Phase) (es : List EventValue) → IsReachedIn phase → Behind t asked before None phase
      → RuleIn t.format t.ending phase (packets_in gs) es → GiveAll t asked before gs es × AreWhole t asked (nearest gs before)
  goes_by [] before (Receiving expected) es reached is h = absurd (none_left t.format t.ending (noted_of (advertisement_of before)) expected es h)
  goes_by (g ∷ gs) before (Receiving expected) es reached is h =
      let caps = noted_of (advertisement_of before) in
      let (now, later, e, gives, rest) = to t.format t.ending caps expected g.packet (packets_in gs) es h in
      let (at, noted, behind) =
      gives_well t asked before expected caps caps g.packet now is refl gives (notes_nothing t.format t.ending caps expected g.packet reached) in
      let (others, whole) =
      goes_by gs (g.packet ∷ before) (phase_after t.ending expected g.packet) later
      (reached_next t.format t.ending caps expected g.packet reached) behind rest in
      ((now, later, e, at, others), whole)
  goes_by [] before Ready es reached behind h = (h.1, behind)
  goes_by [] before Leaving es reached behind h = (h.1, behind)
  goes_by [] before Left es reached behind h = (h.1, behind)
  goes_by [] before (Asking writer) es reached behind h = let none = behind.question_is in absurd (cc)
  goes_by [] before (Failed fault) es reached behind h = absurd behind
  goes_by (g ∷ gs) before phase es reached behind h = let none = h.0 in absurd (cc)

  nothing_more : (before : List Pkt) (g : Given) (now : List EventValue) → AreWhole t asked before → GivesAt t asked before g.packet now → ⊥
  nothing_more before g now whole at = let none = sym (none_expected t asked before whole) ∙ at.is_place in cc

  -- if each packet is in its place, the rule is followed
  comes_by : (gs : List Given) (before : List Pkt) (phase : Phase) (es : List EventValue) → IsReachedIn phase → Behind t asked before None phase
      → GiveAll t asked before gs es → AreWhole t asked (nearest gs before) → RuleIn t.format t.ending phase (packets_in gs) es
  comes_by [] before (Receiving expected) es reached is h whole =
      let place = place_is t asked before expected (noted_of (advertisement_of before)) is refl in
      let none = sym (none_expected t asked before whole) ∙ place in absurd (cc)
  comes_by (g ∷ gs) before (Receiving expected) es reached is (now, later, e, at, rest) whole =
      let caps = noted_of (advertisement_of before) in
      let place = sym at.is_place ∙ place_is t asked before expected caps is refl in
      let same : at.place ≡ place_expected caps t.format expected = cc in
      let gives : Gives t.format t.ending (place_expected caps t.format expected) g.packet now =
      subst (λ (x : Place). Gives t.format t.ending x g.packet now) same at.gives in
      let (given, noted, behind) =
      gives_well t asked before expected caps caps g.packet now is refl gives (notes_nothing t.format t.ending caps expected g.packet reached) in
      let next_reached = reached_next t.format t.ending caps expected g.packet reached in
      let others = comes_by gs (g.packet ∷ before) (phase_after t.ending expected g.packet) later next_reached behind rest whole in
      from t.format t.ending caps expected reached g.packet (packets_in gs) es (now, later, e, gives, others)
  comes_by [] before phase es reached behind h whole = (refl, h)
  comes_by (g ∷ gs) before Ready es reached behind h whole = absurd (nothing_more before g h.0 behind h.3)
  comes_by (g ∷ gs) before Leaving es reached behind h whole = absurd (nothing_more before g h.0 behind h.3)
  comes_by (g ∷ gs) before Left es reached behind h whole = absurd (nothing_more before g h.0 behind h.3)
  comes_by (g ∷ gs) before (Asking writer) es reached behind h whole = let none = behind.question_is in absurd (cc)
  comes_by (g ∷ gs) before (Failed fault) es reached behind h whole = absurd behind

-- the rule of a response is the rule of what is expected first
first_reached : (q : Asked) → IsReached (first_expected q)
first_reached (ls_refs q) = tt
first_reached (fetch q) = tt
first_reached (object_info q) = tt

fetch_rule : (format : Format) (ending : Ending) (done : Bool) (ps : List Pkt) (es : List EventValue)
    → FetchResponse format ending done ps es ↔ HeaderRule format ending (allowed_after done []) ps es
fetch_rule format ending true ps es = (λ h. h, λ h. h)
fetch_rule format ending false ps es = (λ h. h, λ h. h)

response_rule : (format : Format) (ending : Ending) (q : Asked) (ps : List Pkt) (es : List EventValue)
    → IsResponse format ending q ps es ↔ RuleOf format ending (first_expected q) ps es
response_rule format ending (ls_refs q) ps es = (λ h. h, λ h. h)
response_rule format ending (fetch q) ps es = fetch_rule format ending (done_in q) ps es
response_rule format ending (object_info q) ps es = (λ h. h, λ h. h)

pub response_is : (t : Terms) (earlier : List Asked) (q : Asked) (before : List Pkt) (gs : List Given) (es : List EventValue) → AreWhole t earlier before
    → IsResponse t.format t.ending q (map (λ g. g.packet) gs) es
    ↔ (GiveAll t (earlier ++ q ∷ []) before gs es × AreWhole t (earlier ++ q ∷ []) (nearest gs before))
response_is t earlier q before gs es whole =
    let asked = earlier ++ q ∷ [] in
    let is : IsAsked t asked before (Some q) = record { earlier = earlier; last = q; asked_is = refl; question_is = refl; whole = whole } in
    let expected = expected_stated t asked before q is in
    let rule = response_rule t.format t.ending q (packets_in gs) es in (
      λ h. goes_by t asked gs before (Receiving (first_expected q)) es (first_reached q) expected (rule.0 h),
      λ h. rule.1 (comes_by t asked gs before (Receiving (first_expected q)) es (first_reached q) expected h.0 h.1),
    )
