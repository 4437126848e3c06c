-- Why a packet is refused: the server reports an error in it, or a rule of the client refuses it.
use Rattle.std.proofs.Common.{◌≡◌, ◌⊎◌, inl, inr, ℕ, ◌==◌, Bool, true, false, List, [], ◌∷◌, Result, Ok, Err, refl, ap, sym, ◌∙◌, cond, subst, map}
use Rattle.std.proofs.lemmas.Bool.{eqb-true}
use Rattle.git_names.specs.declared.object_format.Format.{Format}
use Rattle.git_pkt.specs.Packets.{Pkt, flush, delim, resp_end, payload, text_of}
use Rattle.git_pkt.specs.declared.fault.Kind.{Kind}
use Rattle.git_pkt.specs.declared.fault.Kind.TheVariants.{RemoteFatal, NotVersion2, BadCapability, WrongFormat, UnexpectedPacket}
use Rattle.git_pkt.specs.declared.fault.Kind.TheVariants.{UnexpectedSection, BadLine, BadNumber, BadObjectName, BadRefName, NoBand, BadBand}
use Rattle.git_msg.specs.Checks.{Refuses as RefusesBy}
use Rattle.git_msg.specs.References.{reference_checks, attribute_checks, IsAttributeFault}
use Rattle.git_msg.specs.ResponseLines.{IsBoundaryFault, IsInfoFault, IsWantedFault}
use Rattle.git_msg.specs.Texts.{spaced_words}
use Rattle.git_client.specs.declared.events.Ending.{Ending}
use Rattle.git_client.specs.Places.{Place, version, capabilities, references, header, acknowledgments, shallow_info, wanted_refs, packfile}
use Rattle.git_client.specs.Places.{size_line, sizes, response_end}
use Rattle.git_client.specs.Events.{EventValue, Refuses, RefusesLine, IsLineFault, events_of_band, events_of_flush, events_of_delimiter}
use Rattle.git_client.specs.Events.{events_of_response_end, pack, progress}
use Rattle.git_client.specs.Machine.Client.{IsMessage}

-- an error of the client's own rules
abbrev pub is_own : Kind → Bool
is_own NotVersion2 = true
is_own BadCapability = true
is_own WrongFormat = true
is_own UnexpectedPacket = true
is_own UnexpectedSection = true
is_own BadLine = true
is_own BadNumber = true
is_own BadObjectName = true
is_own BadRefName = true
is_own NoBand = true
is_own BadBand = true
is_own kind = false

-- the server reports an error of this kind in the packet
pub record AnnouncesFault (p : Pkt) (kind : Kind) : Type 0 where
  pub line : List ℕ
  pub message : List ℕ
  pub packet : p ≡ payload line
  pub conveys : IsMessage kind line message

own : (conveys : Result (List EventValue) Kind) (one kind : Kind) → conveys ≡ Err one → conveys ≡ Err kind → is_own one ≡ true → is_own kind ≡ true
own conveys one kind announced e h = let same : one ≡ kind = cc in ap is_own (sym same) ∙ h

own_if : (allowed : Bool) (events : List EventValue) (one kind : Kind) → cond allowed (Ok events) (Err one) ≡ Err kind → is_own one ≡ true
    → is_own kind ≡ true
own_if true events one kind e h = absurd (cc)
own_if false events one kind e h = own _ one kind refl e h

own_unless : (refused : Bool) (events : List EventValue) (one kind : Kind) → cond refused (Err one) (Ok events) ≡ Err kind → is_own one ≡ true
    → is_own kind ≡ true
own_unless true events one kind e h = own _ one kind refl e h
own_unless false events one kind e h = absurd (cc)

flush_own : (ending : Ending) (place : Place) (kind : Kind) → events_of_flush ending place ≡ Err kind → is_own kind ≡ true
flush_own ending version kind e = own _ NotVersion2 kind refl e refl
flush_own ending (capabilities spoken) kind e = own_if spoken _ WrongFormat kind e refl
flush_own ending references kind e = absurd (cc)
flush_own ending (acknowledgments announced) kind e = own_unless announced.ready _ UnexpectedPacket kind e refl
flush_own ending packfile kind e = absurd (cc)
flush_own ending size_line kind e = absurd (cc)
flush_own ending sizes kind e = absurd (cc)
flush_own ending _ kind e = own _ UnexpectedPacket kind refl e refl

delimiter_own : (place : Place) (kind : Kind) → events_of_delimiter place ≡ Err kind → is_own kind ≡ true
delimiter_own version kind e = own _ NotVersion2 kind refl e refl
delimiter_own (acknowledgments announced) kind e = own_if announced.ready _ UnexpectedPacket kind e refl
delimiter_own shallow_info kind e = absurd (cc)
delimiter_own wanted_refs kind e = absurd (cc)
delimiter_own _ kind e = own _ UnexpectedPacket kind refl e refl

response_end_own : (place : Place) (kind : Kind) → events_of_response_end place ≡ Err kind → is_own kind ≡ true
response_end_own version kind e = own _ NotVersion2 kind refl e refl
response_end_own response_end kind e = absurd (cc)
response_end_own _ kind e = own _ UnexpectedPacket kind refl e refl

attribute_own : (format : Format) (word : List ℕ) (kind : Kind) → IsAttributeFault format word kind → is_own kind ≡ true
attribute_own format word BadRefName r = refl
attribute_own format word BadObjectName r = refl
attribute_own format word _ r = absurd r

attributes_own : (format : Format) (words : List (List ℕ)) (kind : Kind) → RefusesBy (attribute_checks format words) kind → is_own kind ≡ true
attributes_own format [] kind r = absurd r
attributes_own format (word ∷ words) kind (inl r) = attribute_own format word kind r
attributes_own format (word ∷ words) kind (inr r) = attributes_own format words kind r.1

reference_own : (format : Format) (words : List (List ℕ)) (kind : Kind) → RefusesBy (reference_checks format words) kind → is_own kind ≡ true
reference_own format [] kind (inl r) = ap is_own r.1
reference_own format [] kind (inr r) = absurd r.1
reference_own format (word ∷ []) kind (inl r) = ap is_own r.1
reference_own format (word ∷ []) kind (inr r) = absurd r.1
reference_own format (id ∷ name ∷ words) kind (inl r) = ap is_own r.1
reference_own format (id ∷ name ∷ words) kind (inr (passes, inl r)) = ap is_own r.1
reference_own format (id ∷ name ∷ words) kind (inr (passes, inr r)) = attributes_own format words kind r.1

boundary_own : (format : Format) (text : List ℕ) (kind : Kind) → IsBoundaryFault format text kind → is_own kind ≡ true
boundary_own format text BadLine r = refl
boundary_own format text BadObjectName r = refl
boundary_own format text _ (inl r) = absurd r
boundary_own format text _ (inr r) = absurd r

wanted_own : (format : Format) (text : List ℕ) (kind : Kind) → IsWantedFault format text kind → is_own kind ≡ true
wanted_own format text BadLine r = refl
wanted_own format text BadObjectName r = refl
wanted_own format text BadRefName r = refl
wanted_own format text _ r = absurd r

info_own : (format : Format) (text : List ℕ) (kind : Kind) → IsInfoFault format text kind → is_own kind ≡ true
info_own format text BadLine r = refl
info_own format text BadObjectName r = refl
info_own format text BadNumber r = refl
info_own format text _ r = absurd r

line_own : (place : Place) (format : Format) (text : List ℕ) (kind : Kind) → IsLineFault place format text kind → is_own kind ≡ true
line_own version format text kind r = ap is_own r.1
line_own (capabilities spoken) format text kind r = ap is_own r.1
line_own references format text kind r = reference_own format (spaced_words text) kind r
line_own (header allowed) format text kind r = ap is_own r.1
line_own (acknowledgments announced) format text kind (inl r) = ap is_own r.1
line_own (acknowledgments announced) format text kind (inr r) = ap is_own r.1
line_own shallow_info format text kind r = boundary_own format text kind r
line_own wanted_refs format text kind r = wanted_own format text kind r
line_own size_line format text kind r = ap is_own r.1
line_own sizes format text kind r = info_own format text kind r
line_own _ format text kind r = absurd r

abbrev Why : Pkt → Kind → Type 0
Why p kind = AnnouncesFault p kind ⊎ (is_own kind ≡ true)

line_why : (place : Place) (format : Format) (line : List ℕ) (kind : Kind) → RefusesLine place format (text_of line) kind → Why (payload line) kind
line_why place format line kind (inl r) =
    inl (record { line = line; message = r.0.message; packet = refl; conveys = subst (λ (k : Kind). IsMessage k line r.0.message) (sym r.1) r.0.spelled })
line_why place format line kind (inr r) = inr (line_own place format (text_of line) kind r.1)

band_announced : (first second third : Bool) (band : ℕ) (bytes : List ℕ) (kind : Kind) → (third ≡ true → band ≡ 3)
    → cond first (Ok (map pack bytes)) (cond second (Ok (map progress bytes)) (cond third (Err RemoteFatal) (Err BadBand))) ≡ Err kind
    → Why (payload (band ∷ bytes)) kind
band_announced true second third band bytes kind is e = absurd (cc)
band_announced false true third band bytes kind is e = absurd (cc)
band_announced false false true band bytes kind is e = inl (record {
  line = band ∷ bytes;
  message = bytes;
  packet = refl;
  conveys =
      let fatal : RemoteFatal ≡ kind = cc in
      subst (λ (k : Kind). IsMessage k (band ∷ bytes) bytes) fatal (ap (λ (n : ℕ). n ∷ bytes) (is refl));
})
band_announced false false false band bytes kind is e = inr (own _ BadBand kind refl e refl)

band_why : (bytes : List ℕ) (kind : Kind) → events_of_band bytes ≡ Err kind → Why (payload bytes) kind
band_why [] kind e = inr (own _ NoBand kind refl e refl)
band_why (band ∷ bytes) kind e = band_announced (band == 1) (band == 2) (band == 3) band bytes kind (eqb-true band 3) e

-- the server reports an error, or a rule of the client refuses the packet
pub why_refused : (format : Format) (ending : Ending) (place : Place) (p : Pkt) (kind : Kind) → Refuses format ending place p kind → Why p kind
why_refused format ending packfile (payload bytes) kind r = band_why bytes kind r
why_refused format ending response_end (payload bytes) kind r = inr (ap is_own r)
why_refused format ending place (payload bytes) kind r = line_why place format bytes kind r
why_refused format ending place flush kind r = inr (flush_own ending place kind r)
why_refused format ending place delim kind r = inr (delimiter_own place kind r)
why_refused format ending place resp_end kind r = inr (response_end_own place kind r)
