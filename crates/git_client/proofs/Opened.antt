-- What an open packet has given so far: bytes on a band, which are no turn.
use Rattle.std.proofs.Common.{arith, ◌≡◌, ◌≢◌, ℕ, ◌≤◌, ◌==◌, Bool, true, false, cond, List, [], ◌∷◌, ◌++◌, length, map, drop}
use Rattle.std.proofs.Common.{Option, Some, None, Ok, Err, refl, ap, sym, ◌∙◌, append_assoc, is_some, length-append, length-drop}
use Rattle.std.proofs.lemmas.List.{length-map}
use Rattle.git_names.specs.declared.object_format.Format.{Format}
use Rattle.git_pkt.specs.Passed.{OnBand, begins_band, bytes_on, on, passed_by_rest, passed_in, passing_band}
use Rattle.git_pkt.specs.declared.band.Band.{Band}
use Rattle.git_pkt.specs.declared.band.Band.TheVariants.{Pack, Progress, Fatal}
use Rattle.git_pkt.specs.declared.fault.Kind.TheVariants.{RemoteFatal, BadBand}
use Rattle.git_pkt.proofs.BandCarries.{passes_short}
use Rattle.git_msg.specs.declared.offers.Caps.{Caps}
use Rattle.git_client.specs.Places.{Place, packfile}
use Rattle.git_client.specs.Events.{EventValue, pack, progress, events_of_band, pack_bytes, turns_of}
use Rattle.git_client.specs.Opened.{band_event, events_on, opened_in}
use Rattle.git_client.specs.Packs.{on_first_band, open_pack_in}
use Rattle.git_client.specs.Machine.Turns.{place_expected}
use Rattle.git_client.specs.declared.phase.Expected.{Expected}
use Rattle.git_client.specs.declared.phase.Expected.TheVariants.{Packfile}

pub nothing_opened : (place : Option Place) → opened_in place [] ≡ []
nothing_opened (Some packfile) = refl
nothing_opened place = refl

-- no bytes of a packet pass before its sixth
pub opened_short : (place : Option Place) (rest : List ℕ) → length rest ≤ 5 → opened_in place rest ≡ []
opened_short (Some packfile) rest few = ap events_on (passes_short rest few)
opened_short place rest few = refl

-- unless bytes on a band are expected, an open packet gives no events
pub not_opened : (expected : Expected) → expected ≢ Packfile → (caps : Caps) (format : Format) (rest : List ℕ)
    → opened_in (Some (place_expected caps format expected)) rest ≡ []
not_opened Packfile other caps format rest = absurd (other refl)
not_opened expected other caps format rest = refl

pub events_on-append : (bytes more : List OnBand) → events_on (bytes ++ more) ≡ events_on bytes ++ events_on more
events_on-append [] more = refl
events_on-append (x ∷ bytes) more =
    ap (λ (l : List EventValue). band_event x.band x.byte ++ l) (events_on-append bytes more)
    ∙ sym (append_assoc (band_event x.band x.byte) (events_on bytes) (events_on more))

-- ---- bytes on one band

pub on_pack : (bytes : List ℕ) → events_on (map (on Pack) bytes) ≡ map pack bytes
on_pack [] = refl
on_pack (byte ∷ bytes) = ap (λ (l : List EventValue). pack byte ∷ l) (on_pack bytes)

pub on_progress : (bytes : List ℕ) → events_on (map (on Progress) bytes) ≡ map progress bytes
on_progress [] = refl
on_progress (byte ∷ bytes) = ap (λ (l : List EventValue). progress byte ∷ l) (on_progress bytes)

pub on_fatal : (bytes : List ℕ) → events_on (map (on Fatal) bytes) ≡ []
on_fatal [] = refl
on_fatal (byte ∷ bytes) = on_fatal bytes

by_band : (first second third : Bool) (bytes : List ℕ) → is_some (cond first (Some Pack) (cond second (Some Progress) None)) ≡ true
    → cond first (Ok (map pack bytes)) (cond second (Ok (map progress bytes)) (cond third (Err RemoteFatal) (Err BadBand)))
    ≡ Ok (events_on (bytes_on (cond first (Some Pack) (cond second (Some Progress) None)) bytes))
by_band true second third bytes e = ap (λ (l : List EventValue). Ok l) (sym (on_pack bytes))
by_band false true third bytes e = ap (λ (l : List EventValue). Ok l) (sym (on_progress bytes))
by_band false false third bytes e = absurd (cc)

-- a payload of the packfile section that begins with such a band's byte gives the bytes that pass of it
pub band_gives : (bytes : List ℕ) → begins_band bytes ≡ true → events_of_band bytes ≡ Ok (events_on (passed_in bytes))
band_gives [] e = absurd (cc)
band_gives (byte ∷ bytes) e = by_band (byte == 1) (byte == 2) (byte == 3) bytes e

-- ---- they are no turns

turns_with : (band : Band) (byte : ℕ) (events : List EventValue) → turns_of (band_event band byte ++ events) ≡ turns_of events
turns_with Pack byte events = refl
turns_with Progress byte events = refl
turns_with Fatal byte events = refl

pub no_turns_on : (bytes : List OnBand) → turns_of (events_on bytes) ≡ 0
no_turns_on [] = refl
no_turns_on (x ∷ bytes) = turns_with x.band x.byte (events_on bytes) ∙ no_turns_on bytes

pub no_turns : (bytes : List ℕ) → (turns_of (map pack bytes) ≡ 0) × (turns_of (map progress bytes) ≡ 0)
no_turns bytes = (
  ap turns_of (sym (on_pack bytes)) ∙ no_turns_on (map (on Pack) bytes),
  ap turns_of (sym (on_progress bytes)) ∙ no_turns_on (map (on Progress) bytes),
)

pub no_turns_opened : (place : Option Place) (rest : List ℕ) → turns_of (opened_in place rest) ≡ 0
no_turns_opened (Some packfile) rest = no_turns_on (passed_by_rest rest)
no_turns_opened place rest = refl

-- ---- their number

few_with : (band : Band) (byte : ℕ) → length (band_event band byte) ≤ 1
few_with Pack byte = omega arith
few_with Progress byte = omega arith
few_with Fatal byte = omega arith

few_on : (bytes : List OnBand) → length (events_on bytes) ≤ length bytes
few_on [] = omega arith
few_on (x ∷ bytes) =
    omega (arith, few_on bytes, few_with x.band x.byte, length-append (band_event x.band x.byte) (events_on bytes))

few_of : (band : Option Band) (bytes : List ℕ) → length (bytes_on band bytes) ≤ length bytes
few_of None bytes = omega arith
few_of (Some band) bytes = omega (arith, length-map bytes (on band))

few_in : (bytes : List ℕ) → length (passed_in bytes) ≤ length bytes
few_in [] = omega arith
few_in (byte ∷ bytes) = omega (arith, few_of (passing_band byte) bytes)

pub few_opened : (place : Option Place) (rest : List ℕ) → length (opened_in place rest) ≤ length rest
few_opened (Some packfile) rest = omega (arith, few_on (passed_by_rest rest), few_in (drop 4 rest), length-drop 4 rest)
few_opened place rest = omega arith

-- ---- their bytes of the pack

pack_all : (bytes : List ℕ) → pack_bytes (map pack bytes) ≡ bytes
pack_all [] = refl
pack_all (byte ∷ bytes) = ap (λ (l : List ℕ). byte ∷ l) (pack_all bytes)

pack_none : (bytes : List ℕ) → pack_bytes (map progress bytes) ≡ []
pack_none [] = refl
pack_none (byte ∷ bytes) = pack_none bytes

pack_by : (first second : Bool) (bytes : List ℕ)
    → pack_bytes (events_on (bytes_on (cond first (Some Pack) (cond second (Some Progress) None)) bytes)) ≡ cond first bytes []
pack_by true second bytes = ap pack_bytes (on_pack bytes) ∙ pack_all bytes
pack_by false true bytes = ap pack_bytes (on_progress bytes) ∙ pack_none bytes
pack_by false false bytes = refl

pack_on : (bytes : List ℕ) → pack_bytes (events_on (passed_in bytes)) ≡ on_first_band bytes
pack_on [] = refl
pack_on (byte ∷ bytes) = pack_by (byte == 1) (byte == 2) bytes

pub pack_opened : (place : Option Place) (rest : List ℕ) → pack_bytes (opened_in place rest) ≡ open_pack_in place rest
pack_opened (Some packfile) rest = pack_on (drop 4 rest)
pack_opened place rest = refl
