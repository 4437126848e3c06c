-- What a text line at a place gives, derived from the place.
use Rattle.std.proofs.Common.{arith, ◌≡◌, ◌⊎◌, inl, inr, ℕ, Bool, true, false, ◌||◌, List, [], ◌∷◌, ◌++◌}
use Rattle.std.proofs.Common.{Option, Some, Ok, Err, refl, ap, sym, ◌∙◌, codes, cond, map, ◌==◌, slice_index}
use Rattle.git_names.specs.ObjectName.{ObjectName}
use Rattle.git_names.specs.declared.object_format.Format.{Format}
use Rattle.git_pkt.specs.declared.fault.Kind.{Kind}
use Rattle.git_pkt.specs.declared.fault.Kind.TheVariants.{RemoteFatal, BadBand, BadObjectName}
use Rattle.git_msg.specs.Capability.{IsCapability}
use Rattle.git_msg.specs.References.{Ref, IsReferenceLine}
use Rattle.git_msg.specs.ResponseLines.{Wanted, IsAckLine, IsBoundaryLine, IsInfoLine, IsWantedLine}
use Rattle.git_msg.specs.declared.response_lines.Info.{Info}
use Rattle.git_msg.specs.declared.response_lines.Boundary.{Boundary}
use Rattle.git_msg.specs.declared.response_lines.Boundary.TheVariants.{Shallow, Unshallow}
use Rattle.git_msg.proofs.Keys.{one_capability}
use Rattle.git_msg.proofs.ReferenceLaws.{one_reference}
use Rattle.git_msg.proofs.ReferenceFaults.{reference_or_fault, one_reference_fault}
use Rattle.git_msg.proofs.ResponseLines.{one_ack, one_boundary, one_info, one_wanted}
use Rattle.git_msg.proofs.ResponseFaults.{ack_or_fault, boundary_or_fault, info_or_fault, wanted_or_fault, one_boundary_fault, one_info_fault, one_wanted_fault}
use Rattle.git_client.specs.declared.sections.Acks.{Acks}
use Rattle.git_client.specs.declared.sections.Section.{Section}
use Rattle.git_client.specs.Sections.{allows, section_named, may_begin}
use Rattle.git_client.specs.Places.{Place, version, capabilities, references, header, acknowledgments, shallow_info, wanted_refs, packfile}
use Rattle.git_client.specs.Places.{size_line, sizes, response_end}
use Rattle.git_client.specs.Events.{EventValue, capability, reference, section, ack, nak, ready, shallow, unshallow, wanted_ref, pack, progress, info}
use Rattle.git_client.specs.Packs.{on_first_band}
use Rattle.git_client.specs.Events.{MeansEvents, IsLineFault, IsNotExpected, IsBadAck, events_of_band, turns_of, pack_bytes}

abbrev pub boundary_event : Boundary → EventValue
boundary_event (Shallow id) = shallow id
boundary_event (Unshallow id) = unshallow id

-- `NAK`, `ready` or an acknowledgment, each only if it may come
abbrev pub IsAcknowledging : Format → Acks → List ℕ → List EventValue → Type 0
IsAcknowledging format announced text events =
    ((text ≡ codes "NAK") × (announced.any ≡ false) × (events ≡ nak ∷ []))
    ⊎ (((text ≡ codes "ready") × (announced.ready ≡ false) × (events ≡ ready ∷ []))
    ⊎ ((id : ObjectName) × IsAckLine format text id × ((announced.nak || announced.ready) ≡ false) × (events ≡ ack id ∷ [])))

-- how a text line at the place is read, and its events
abbrev pub ReadsLine : Place → Format → List ℕ → List EventValue → Type 0
ReadsLine version format text events = (text ≡ codes "version 2") × (events ≡ [])
ReadsLine (capabilities spoken) format text events =
    (key : List ℕ) × (value : Option (List ℕ)) × IsCapability text key value × (events ≡ capability key value ∷ [])
ReadsLine references format text events = (ref : Ref) × IsReferenceLine format text ref × (events ≡ reference ref ∷ [])
ReadsLine (header allowed) format text events =
    (begun : Section) × (section_named text ≡ Some begun) × (allows allowed begun ≡ true) × (events ≡ section begun ∷ [])
ReadsLine (acknowledgments announced) format text events = IsAcknowledging format announced text events
ReadsLine shallow_info format text events = (line : Boundary) × IsBoundaryLine format text line × (events ≡ boundary_event line ∷ [])
ReadsLine wanted_refs format text events = (wanted : Wanted) × IsWantedLine format text wanted × (events ≡ wanted_ref wanted ∷ [])
ReadsLine size_line format text events = (text ≡ codes "size") × (events ≡ [])
ReadsLine sizes format text events = (announced : Info) × IsInfoLine format text announced × (events ≡ info announced ∷ [])
ReadsLine _ format text events = ⊥

pub line_read : (place : Place) (format : Format) (text : List ℕ) (events : List EventValue) → MeansEvents place format text events
    → ReadsLine place format text events
line_read version format text [] conveys = (conveys, refl)
line_read (capabilities spoken) format text (capability key value ∷ []) conveys = (key, value, conveys, refl)
line_read references format text (reference ref ∷ []) conveys = (ref, conveys, refl)
line_read (header allowed) format text (section begun ∷ []) conveys = (begun, conveys.0, conveys.1, refl)
line_read (acknowledgments announced) format text (nak ∷ []) conveys = inl (conveys.0, conveys.1, refl)
line_read (acknowledgments announced) format text (ready ∷ []) conveys = inr (inl (conveys.0, conveys.1, refl))
line_read (acknowledgments announced) format text (ack id ∷ []) conveys = inr (inr (id, conveys.0, conveys.1, refl))
line_read shallow_info format text (shallow id ∷ []) conveys = (Shallow id, conveys, refl)
line_read shallow_info format text (unshallow id ∷ []) conveys = (Unshallow id, conveys, refl)
line_read wanted_refs format text (wanted_ref wanted ∷ []) conveys = (wanted, conveys, refl)
line_read size_line format text [] conveys = (conveys, refl)
line_read sizes format text (info announced ∷ []) conveys = (announced, conveys, refl)
line_read place format text events conveys = absurd conveys

same_heads : (text a b : List ℕ) → text ≡ a → text ≡ b → slice_index a 0 ≡ slice_index b 0
same_heads text a b h k = ap (λ (l : List ℕ). slice_index l 0) (sym h ∙ k)

nak_or_ready : (text : List ℕ) → text ≡ codes "NAK" → text ≡ codes "ready" → ⊥
nak_or_ready text h k = omega (arith, same_heads text (codes "NAK") (codes "ready") h k)

nak_or_ack : (text name : List ℕ) → text ≡ codes "NAK" → text ≡ codes "ACK " ++ name → ⊥
nak_or_ack text name h k = omega (arith, same_heads text (codes "NAK") (codes "ACK " ++ name) h k)

ready_or_ack : (text name : List ℕ) → text ≡ codes "ready" → text ≡ codes "ACK " ++ name → ⊥
ready_or_ack text name h k = omega (arith, same_heads text (codes "ready") (codes "ACK " ++ name) h k)

one_acknowledging : (format : Format) (announced : Acks) (text : List ℕ) (events others : List EventValue) → IsAcknowledging format announced text events
    → IsAcknowledging format announced text others → events ≡ others
one_acknowledging format announced text events others (inl h) (inl k) = h.2 ∙ sym k.2
one_acknowledging format announced text events others (inl h) (inr (inl k)) = absurd (nak_or_ready text h.0 k.0)
one_acknowledging format announced text events others (inl h) (inr (inr k)) = absurd (nak_or_ack text k.1.value h.0 k.1.spelled)
one_acknowledging format announced text events others (inr (inl h)) (inl k) = absurd (nak_or_ready text k.0 h.0)
one_acknowledging format announced text events others (inr (inl h)) (inr (inl k)) = h.2 ∙ sym k.2
one_acknowledging format announced text events others (inr (inl h)) (inr (inr k)) = absurd (ready_or_ack text k.1.value h.0 k.1.spelled)
one_acknowledging format announced text events others (inr (inr h)) (inl k) = absurd (nak_or_ack text h.1.value k.0 h.1.spelled)
one_acknowledging format announced text events others (inr (inr h)) (inr (inl k)) = absurd (ready_or_ack text h.1.value k.0 h.1.spelled)
one_acknowledging format announced text events others (inr (inr h)) (inr (inr k)) =
    h.3 ∙ ap (λ (id : ObjectName). ack id ∷ []) (one_ack format text h.0 k.0 h.1 k.1) ∙ sym k.3

-- a text is read in one way
one_reading : (place : Place) (format : Format) (text : List ℕ) (events others : List EventValue) → ReadsLine place format text events
    → ReadsLine place format text others → events ≡ others
one_reading version format text events others h k = h.1 ∙ sym k.1
one_reading (capabilities spoken) format text events others h k =
    let same = one_capability text h.0 k.0 h.1 k.1 h.2 k.2 in
    h.3
    ∙ ap (λ (key : List ℕ). capability key h.1 ∷ []) same.0
    ∙ ap (λ (value : Option (List ℕ)). capability k.0 value ∷ []) same.1
    ∙ sym k.3
one_reading references format text events others h k =
    h.2 ∙ ap (λ (ref : Ref). reference ref ∷ []) (one_reference format text h.0 k.0 h.1 k.1) ∙ sym k.2
one_reading (header allowed) format text events others h k =
    let same : h.0 ≡ k.0 = let named = sym h.1 ∙ k.1 in cc in h.3 ∙ ap (λ (begun : Section). section begun ∷ []) same ∙ sym k.3
one_reading (acknowledgments announced) format text events others h k = one_acknowledging format announced text events others h k
one_reading shallow_info format text events others h k =
    h.2 ∙ ap (λ (line : Boundary). boundary_event line ∷ []) (one_boundary format text h.0 k.0 h.1 k.1) ∙ sym k.2
one_reading wanted_refs format text events others h k =
    h.2 ∙ ap (λ (wanted : Wanted). wanted_ref wanted ∷ []) (one_wanted format text h.0 k.0 h.1 k.1) ∙ sym k.2
one_reading size_line format text events others h k = h.1 ∙ sym k.1
one_reading sizes format text events others h k =
    h.2 ∙ ap (λ (announced : Info). info announced ∷ []) (one_info format text h.0 k.0 h.1 k.1) ∙ sym k.2
one_reading packfile format text events others h k = absurd h
one_reading response_end format text events others h k = absurd h

pub one_line : (place : Place) (format : Format) (text : List ℕ) (events others : List EventValue) → MeansEvents place format text events
    → MeansEvents place format text others → events ≡ others
one_line place format text events others h k =
    one_reading place format text events others (line_read place format text events h) (line_read place format text others k)

-- a line that may come in the acknowledgments is not one that may not
expected_or_not : (format : Format) (announced : Acks) (text : List ℕ) (events : List EventValue) → IsAcknowledging format announced text events
    → IsNotExpected announced text → ⊥
expected_or_not format announced text events (inl h) not_expected = let any = not_expected.nak h.0 in cc
expected_or_not format announced text events (inr (inl h)) not_expected = let ready = not_expected.ready h.0 in cc
expected_or_not format announced text events (inr (inr h)) not_expected = let late = not_expected.ack h.1.value h.1.spelled in cc

named_or_not : (format : Format) (announced : Acks) (text : List ℕ) (events : List EventValue) → IsAcknowledging format announced text events
    → IsBadAck format announced text → ⊥
named_or_not format announced text events (inl h) bad = nak_or_ack text bad.no_name.value h.0 bad.no_name.spelled
named_or_not format announced text events (inr (inl h)) bad = ready_or_ack text bad.no_name.value h.0 bad.no_name.spelled
named_or_not format announced text events (inr (inr h)) bad = ack_or_fault format text h.0 BadObjectName h.1 bad.no_name

read_or_refused : (place : Place) (format : Format) (text : List ℕ) (events : List EventValue) (kind : Kind) → ReadsLine place format text events
    → IsLineFault place format text kind → ⊥
read_or_refused version format text events kind h bad = bad.0 h.0
read_or_refused (capabilities spoken) format text events kind h bad = bad.0 h.0 h.1 h.2
read_or_refused references format text events kind h bad = reference_or_fault format text h.0 kind h.1 bad
read_or_refused (header allowed) format text events kind h bad = let may = ap (may_begin allowed) h.1 ∙ h.2 in let never = bad.0 in cc
read_or_refused (acknowledgments announced) format text events kind h (inl bad) = expected_or_not format announced text events h bad.0
read_or_refused (acknowledgments announced) format text events kind h (inr bad) = named_or_not format announced text events h bad.0
read_or_refused shallow_info format text events kind h bad = boundary_or_fault format text h.0 kind h.1 bad
read_or_refused wanted_refs format text events kind h bad = wanted_or_fault format text h.0 kind h.1 bad
read_or_refused size_line format text events kind h bad = bad.0 h.0
read_or_refused sizes format text events kind h bad = info_or_fault format text h.0 kind h.1 bad
read_or_refused packfile format text events kind h bad = bad
read_or_refused response_end format text events kind h bad = bad

-- a text line is not both read and refused
pub line_or_fault : (place : Place) (format : Format) (text : List ℕ) (events : List EventValue) (kind : Kind) → MeansEvents place format text events
    → IsLineFault place format text kind → ⊥
line_or_fault place format text events kind h bad = read_or_refused place format text events kind (line_read place format text events h) bad

not_expected_or_bad : (format : Format) (announced : Acks) (text : List ℕ) → IsNotExpected announced text → IsBadAck format announced text → ⊥
not_expected_or_bad format announced text not_expected bad =
    let late = not_expected.ack bad.no_name.value bad.no_name.spelled in let expected = bad.expected in cc

pub one_line_fault : (place : Place) (format : Format) (text : List ℕ) (kind other : Kind) → IsLineFault place format text kind
    → IsLineFault place format text other → kind ≡ other
one_line_fault version format text kind other h k = h.1 ∙ sym k.1
one_line_fault (capabilities spoken) format text kind other h k = h.1 ∙ sym k.1
one_line_fault references format text kind other h k = one_reference_fault format text kind other h k
one_line_fault (header allowed) format text kind other h k = h.1 ∙ sym k.1
one_line_fault (acknowledgments announced) format text kind other (inl h) (inl k) = h.1 ∙ sym k.1
one_line_fault (acknowledgments announced) format text kind other (inl h) (inr k) = absurd (not_expected_or_bad format announced text h.0 k.0)
one_line_fault (acknowledgments announced) format text kind other (inr h) (inl k) = absurd (not_expected_or_bad format announced text k.0 h.0)
one_line_fault (acknowledgments announced) format text kind other (inr h) (inr k) = h.1 ∙ sym k.1
one_line_fault shallow_info format text kind other h k = one_boundary_fault format text kind other h k
one_line_fault wanted_refs format text kind other h k = one_wanted_fault format text kind other h k
one_line_fault size_line format text kind other h k = h.1 ∙ sym k.1
one_line_fault sizes format text kind other h k = one_info_fault format text kind other h k
one_line_fault packfile format text kind other h k = absurd h
one_line_fault response_end format text kind other h k = absurd h

-- the events of a text line: no turn, and no byte of the pack
pub record IsOfLine (events : List EventValue) : Type 0 where
  pub turns : turns_of events ≡ 0
  pub bytes : pack_bytes events ≡ []

of_line : (one events : List EventValue) → events ≡ one → turns_of one ≡ 0 → pack_bytes one ≡ [] → IsOfLine events
of_line one events e none nothing = record { turns = ap turns_of e ∙ none; bytes = ap pack_bytes e ∙ nothing }

of_boundary : (line : Boundary) (events : List EventValue) → events ≡ boundary_event line ∷ [] → IsOfLine events
of_boundary (Shallow id) events e = of_line (shallow id ∷ []) events e refl refl
of_boundary (Unshallow id) events e = of_line (unshallow id ∷ []) events e refl refl

of_read : (place : Place) (format : Format) (text : List ℕ) (events : List EventValue) → ReadsLine place format text events → IsOfLine events
of_read version format text events (is, e) = of_line [] events e refl refl
of_read (capabilities spoken) format text events (key, value, is, e) = of_line (capability key value ∷ []) events e refl refl
of_read references format text events (ref, is, e) = of_line (reference ref ∷ []) events e refl refl
of_read (header allowed) format text events (begun, is, may, e) = of_line (section begun ∷ []) events e refl refl
of_read (acknowledgments announced) format text events (inl h) = of_line (nak ∷ []) events h.2 refl refl
of_read (acknowledgments announced) format text events (inr (inl h)) = of_line (ready ∷ []) events h.2 refl refl
of_read (acknowledgments announced) format text events (inr (inr h)) = of_line (ack h.0 ∷ []) events h.3 refl refl
of_read shallow_info format text events (line, is, e) = of_boundary line events e
of_read wanted_refs format text events (wanted, is, e) = of_line (wanted_ref wanted ∷ []) events e refl refl
of_read size_line format text events (is, e) = of_line [] events e refl refl
of_read sizes format text events (announced, is, e) = of_line (info announced ∷ []) events e refl refl
of_read packfile format text events h = absurd h
of_read response_end format text events h = absurd h

pub line_is : (place : Place) (format : Format) (text : List ℕ) (events : List EventValue) → MeansEvents place format text events → IsOfLine events
line_is place format text events conveys = of_read place format text events (line_read place format text events conveys)

-- bytes of the pack, or of the progress if the payload has none on the first band
abbrev pub IsOfBand : List ℕ → List ℕ → List EventValue → Type 0
IsOfBand first bytes events = (events ≡ map pack first) ⊎ ((first ≡ []) × (events ≡ map progress bytes))

pub band_of : (first second third : Bool) (bytes : List ℕ) (events : List EventValue)
    → cond first (Ok (map pack bytes)) (cond second (Ok (map progress bytes)) (cond third (Err RemoteFatal) (Err BadBand))) ≡ Ok events
    → IsOfBand (cond first bytes []) bytes events
band_of true second third bytes events conveys = inl (cc)
band_of false true third bytes events conveys = inr (refl, cc)
band_of false false true bytes events conveys = absurd (cc)
band_of false false false bytes events conveys = absurd (cc)

progress_is : (bytes : List ℕ) → IsOfLine (map progress bytes)
progress_is [] = record { turns = refl; bytes = refl }
progress_is (byte ∷ bytes) = record { turns = (progress_is bytes).turns; bytes = (progress_is bytes).bytes }

pack_is : (bytes : List ℕ) → (turns_of (map pack bytes) ≡ 0) × (pack_bytes (map pack bytes) ≡ bytes)
pack_is [] = (refl, refl)
pack_is (byte ∷ bytes) = ((pack_is bytes).0, ap (λ (l : List ℕ). byte ∷ l) (pack_is bytes).1)

band_is_of : (first bytes : List ℕ) (events : List EventValue) → IsOfBand first bytes events → (turns_of events ≡ 0) × (pack_bytes events ≡ first)
band_is_of first bytes events (inl e) = (ap turns_of e ∙ (pack_is first).0, ap pack_bytes e ∙ (pack_is first).1)
band_is_of first bytes events (inr (none, e)) =
    let of = progress_is bytes in (ap turns_of e ∙ of.turns, ap pack_bytes e ∙ of.bytes ∙ sym none)

-- a payload of the packfile section is no turn, and its pack bytes are those on the first band
pub band_is : (bytes : List ℕ) (events : List EventValue) → events_of_band bytes ≡ Ok events → (turns_of events ≡ 0) × (pack_bytes events ≡ on_first_band bytes)
band_is [] events conveys = absurd (cc)
band_is (band ∷ bytes) events conveys =
    band_is_of (on_first_band (band ∷ bytes)) bytes events (band_of (band == 1) (band == 2) (band == 3) bytes events conveys)
