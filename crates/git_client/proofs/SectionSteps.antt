-- One more packet of a message that has sections.
use Rattle.std.proofs.Common.{◌≡◌, ℕ, Bool, true, false, List, [], ◌∷◌, Option, Some, None, ap, cond, refl, sym, ◌∙◌}
use Rattle.std.specs.Str.{bytes_eq}
use Rattle.std.proofs.Math.Bool.{and-false}
use Rattle.std.proofs.lemmas.Slice.Eq.{bytes_eq-Decides}
use Rattle.git_pkt.specs.Packets.{Pkt, payload, text_of}
use Rattle.git_client.specs.Parts.{sections}
use Rattle.git_client.specs.Sections.{header_of, section_named, section_of, is_header_expected, lines_of, allowed_after, allows, next_allowed, may_begin}
use Rattle.git_client.specs.Sections.{acks_in}
use Rattle.git_client.specs.Machine.Turns.{expected_after_header, after_acknowledgments}
use Rattle.git_client.specs.Machine.Client.{IsExpectedIn, IsInside}
use Rattle.git_client.specs.declared.sections.Section.{Section}
use Rattle.git_client.specs.declared.sections.Section.TheVariants.{Acknowledgments, ShallowInfo, WantedRefs, Packfile}
use Rattle.git_client.specs.declared.sections.Allowed.{Allowed}
use Rattle.git_client.specs.declared.phase.Expected.TheVariants.{Header}

first_or_later : (text : List ℕ) (first section : Section) (rest : Option Section)
    → cond (bytes_eq text (header_of first)) (Some first) rest ≡ Some section → (rest ≡ Some section → text ≡ header_of section)
    → text ≡ header_of section
first_or_later text first section rest named later = go (bytes_eq text (header_of first)) refl named where
  go : (b : Bool) → bytes_eq text (header_of first) ≡ b → cond b (Some first) rest ≡ Some section → text ≡ header_of section
  go true same named = let is : first ≡ section = cc in (bytes_eq-Decides text (header_of first)).0 same ∙ ap header_of is
  go false other named = later named

-- a text that names a section is its header
pub header_named : (text : List ℕ) (section : Section) → section_named text ≡ Some section → text ≡ header_of section
header_named text section named =
    first_or_later text Acknowledgments section _ named
    (λ named. first_or_later text ShallowInfo section _ named
    (λ named. first_or_later text WantedRefs section _ named (λ named. first_or_later text Packfile section None named (λ none. absurd (cc)))))

-- after a line inside a section the message is still in it
pub inside_more : (section : Section) (message : List Pkt) (line : List ℕ) → IsInside section message → IsInside section (payload line ∷ message)
inside_more section message line h = record {
  inside = refl;
  begun = ap (λ (b : Bool). cond b (section_named (text_of line)) (section_of message)) h.inside ∙ h.begun;
}

-- a packet inside a section does not change which sections may begin
pub allowed_stays : (done : Bool) (p : Pkt) (message : List Pkt) → is_header_expected message ≡ false
    → allowed_after done (p ∷ message) ≡ allowed_after done message
allowed_stays done p [] inside = absurd (cc)
allowed_stays done p (q ∷ message) inside = rw inside refl

-- a header does
allowed_more : (done : Bool) (message : List Pkt) (line : List ℕ) (section : Section) → is_header_expected message ≡ true → text_of line ≡ header_of section
    → next_allowed (allowed_after done message) section ≡ allowed_after done (payload line ∷ message)
allowed_more done message line Acknowledgments expected text = rw (expected, text, and-false) refl
allowed_more done message line ShallowInfo expected text = rw (expected, text, and-false) refl
allowed_more done message line WantedRefs expected text = rw (expected, text, and-false) refl
allowed_more done message line Packfile expected text = rw (expected, text, and-false) refl

-- no section comes before the acknowledgments
none_before : (done : Bool) (message : List Pkt) → allows (allowed_after done message) Acknowledgments ≡ true
    → next_allowed (allowed_after done message) Acknowledgments ≡ after_acknowledgments
none_before done [] may = refl
none_before true (p ∷ message) may = absurd (cc)
none_before false (p ∷ message) may = absurd (cc)

header_more : (done : Bool) (message : List Pkt) (line : List ℕ) (named : Option Section) → section_named (text_of line) ≡ named
    → is_header_expected message ≡ true → may_begin (allowed_after done message) named ≡ true
    → IsExpectedIn (sections done) (payload line ∷ message) (expected_after_header (allowed_after done message) named)
header_more done message line None named expected may = absurd (cc)
header_more done message line (Some section) named expected may = go section named may where
  inside : (section : Section) → section_named (text_of line) ≡ Some section → IsInside section (payload line ∷ message)
  inside section named = record { inside = refl; begun = ap (λ (b : Bool). cond b (section_named (text_of line)) (section_of message)) expected ∙ named }

  more : (section : Section) → section_named (text_of line) ≡ Some section
      → next_allowed (allowed_after done message) section ≡ allowed_after done (payload line ∷ message)
  more section named = allowed_more done message line section expected (header_named (text_of line) section named)

  go : (section : Section) → section_named (text_of line) ≡ Some section → allows (allowed_after done message) section ≡ true
      → IsExpectedIn (sections done) (payload line ∷ message) (expected_after_header (allowed_after done message) (Some section))
  go Acknowledgments named may = (
    inside Acknowledgments named,
    ap (λ (b : Bool). acks_in (cond b [] (payload line ∷ lines_of message))) (sym expected),
    sym (more Acknowledgments named) ∙ none_before done message may,
  )
  go ShallowInfo named may = (inside ShallowInfo named, more ShallowInfo named)
  go WantedRefs named may = (inside WantedRefs named, more WantedRefs named)
  go Packfile named may = inside Packfile named

-- after a section's header its lines are expected
pub header_expected : (done : Bool) (message : List Pkt) (allowed : Allowed) (line : List ℕ) → IsExpectedIn (sections done) message (Header allowed)
    → may_begin allowed (section_named (text_of line)) ≡ true
    → IsExpectedIn (sections done) (payload line ∷ message) (expected_after_header allowed (section_named (text_of line)))
header_expected done message allowed line (expected, is) may =
    rw is (header_more done message line (section_named (text_of line)) refl expected (rw is at may))
