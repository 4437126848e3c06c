-- The lines of fetch's response sections and of the response to object-info: a text is at most one of them, and the written forms read back.
use Rattle.std.proofs.Common.{arith, ◌≡◌, ℕ, Option, Some, None, List, ◌∷◌, ◌++◌, refl, ap, ◌∙◌, subst, slice_index, codes, rules}
use Rattle.std.proofs.lemmas.List.{append_cancel_left}
use Rattle.git_names.specs.ObjectName.{ObjectName, IsObjectName, hex_of}
use Rattle.git_names.specs.RefName.{IsRefName}
use Rattle.git_names.specs.declared.object_format.Format.{Format}
use Rattle.git_names.proofs.ObjectNames.{one_object_name}
use Rattle.git_pkt.proofs.Spelling.{append_cancel_length}
use Rattle.git_msg.specs.declared.response_lines.Boundary.{Boundary}
use Rattle.git_msg.specs.declared.response_lines.Boundary.TheVariants.{Shallow, Unshallow}
use Rattle.git_msg.specs.declared.response_lines.Info.{Info}
use Rattle.git_msg.specs.Arguments.{IsNameIn}
use Rattle.git_msg.specs.ResponseLines.{Wanted, wanted_of, object_of, IsNamed, IsAckLine, IsBoundaryLine, IsWantedLine, ack_text, boundary_text, wanted_text}
use Rattle.git_msg.specs.ResponseLines.{IsInfoLine, IsSize, IsSizeText, info_text, size_text}
use Rattle.git_msg.proofs.DigitValues.{decimal_reads_back, one_number}
use Rattle.git_msg.proofs.WrittenNames.{hex_of-reads_back}

-- the object name after a word is unique
one_named : (word : List ℕ) (format : Format) (text : List ℕ) (a b : ObjectName) → IsNamed word format text a → IsNamed word format text b → a ≡ b
one_named word format text a b h k = search (rules, append_cancel_left, one_object_name)

-- the written form of an object after a word reads back
named_reads_back : (word : List ℕ) (format : Format) (id : ObjectName) → IsNameIn format id → IsNamed word format (word ++ hex_of id) id
named_reads_back word format id h = record { value = hex_of id; spelled = refl; holds = hex_of-reads_back format id h }

pub one_ack : (format : Format) (text : List ℕ) (a b : ObjectName) → IsAckLine format text a → IsAckLine format text b → a ≡ b
one_ack format text a b h k = one_named (codes "ACK ") format text a b h k

pub ack_reads_back : (format : Format) (id : ObjectName) → IsNameIn format id → IsAckLine format (ack_text id) id
ack_reads_back format id h = named_reads_back (codes "ACK ") format id h

apart : (c : ℕ) → c ≡ 115 → c ≡ 117 → ⊥
apart c h k = omega arith

-- a text does not begin with both words
pub not_both : (text s t : List ℕ) → text ≡ codes "shallow " ++ s → text ≡ codes "unshallow " ++ t → ⊥
not_both text s t h k = apart (slice_index text 0) (ap (λ (xs : List ℕ). slice_index xs 0) h) (ap (λ (xs : List ℕ). slice_index xs 0) k)

pub one_boundary : (format : Format) (text : List ℕ) (a b : Boundary) → IsBoundaryLine format text a → IsBoundaryLine format text b → a ≡ b
one_boundary format text (Shallow a) (Shallow b) h k = ap Shallow (one_named (codes "shallow ") format text a b h k)
one_boundary format text (Unshallow a) (Unshallow b) h k = ap Unshallow (one_named (codes "unshallow ") format text a b h k)
one_boundary format text (Shallow a) (Unshallow b) h k = absurd (not_both text h.value k.value h.spelled k.spelled)
one_boundary format text (Unshallow a) (Shallow b) h k = absurd (not_both text k.value h.value k.spelled h.spelled)

pub boundary_reads_back : (format : Format) (line : Boundary) → IsNameIn format (object_of line) → IsBoundaryLine format (boundary_text line) line
boundary_reads_back format (Shallow id) h = named_reads_back (codes "shallow ") format id h
boundary_reads_back format (Unshallow id) h = named_reads_back (codes "unshallow ") format id h

-- the text is the digits of an object name, a space, and a value
pub record BeginsWith (format : Format) (text : List ℕ) (named : ObjectName) (value : List ℕ) : Type 0 where
  pub digits : List ℕ
  pub spelled : text ≡ digits ++ 32 ∷ value
  pub named_is : IsObjectName format digits named

-- in one way only
one_beginning : (format : Format) (text : List ℕ) (a b : ObjectName) (value other : List ℕ) → BeginsWith format text a value
    → BeginsWith format text b other → (a ≡ b) × (value ≡ other)
one_beginning format text a b value other h k = search (rules, append_cancel_length, one_object_name)

-- the written form of an object name, a space and any value reads back
beginning_reads_back : (format : Format) (id : ObjectName) (value : List ℕ) → IsNameIn format id → BeginsWith format (hex_of id ++ 32 ∷ value) id value
beginning_reads_back format id value h = record { digits = hex_of id; spelled = refl; named_is = hex_of-reads_back format id h }

pub wanted_begins : (format : Format) (text : List ℕ) (wanted : Wanted) → IsWantedLine format text wanted
    → BeginsWith format text wanted.id wanted.name
wanted_begins format text wanted h = record { digits = h.id; spelled = h.spelled; named_is = h.id_is }

pub one_wanted : (format : Format) (text : List ℕ) (a b : Wanted) → IsWantedLine format text a → IsWantedLine format text b → a ≡ b
one_wanted format text a b h k =
    let both = one_beginning format text a.id b.id a.name b.name (wanted_begins format text a h) (wanted_begins format text b k) in
    ap (λ (id : ObjectName). wanted_of id a.name) both.0 ∙ ap (λ (name : List ℕ). wanted_of b.id name) both.1

pub wanted_reads_back : (format : Format) (wanted : Wanted) → IsNameIn format wanted.id → IsRefName wanted.name
    → IsWantedLine format (wanted_text wanted) wanted
wanted_reads_back format wanted h name =
    let begins = beginning_reads_back format wanted.id wanted.name h in
    record { id = begins.digits; spelled = begins.spelled; id_is = begins.named_is; name_is = name }

-- a text is one size, or none
one_size : (text : List ℕ) (a b : Option ℕ) → IsSizeText text a → IsSizeText text b → a ≡ b
one_size text None None h k = refl
one_size text None (Some b) h k = absurd (k.is_number.some h)
one_size text (Some a) None h k = absurd (h.is_number.some k)
one_size text (Some a) (Some b) h k = ap Some (one_number text a b h.is_number k.is_number)

-- the written form of a size reads back
size_reads_back : (size : Option ℕ) → ((bytes : ℕ) → size ≡ Some bytes → IsSize bytes) → IsSizeText (size_text size) size
size_reads_back None fits = refl
size_reads_back (Some bytes) fits = record { is_number = decimal_reads_back bytes (fits bytes refl); in_range = fits bytes refl }

pub info_begins : (format : Format) (text : List ℕ) (info : Info) → (h : IsInfoLine format text info) → BeginsWith format text info.id h.size
info_begins format text info h = record { digits = h.id; spelled = h.spelled; named_is = h.id_is }

abbrev info_of : ObjectName → Option ℕ → Info
info_of id size = record { id = id; size = size }

pub one_info : (format : Format) (text : List ℕ) (a b : Info) → IsInfoLine format text a → IsInfoLine format text b → a ≡ b
one_info format text a b h k =
    let both = one_beginning format text a.id b.id h.size k.size (info_begins format text a h) (info_begins format text b k) in
    let sizes = one_size k.size a.size b.size (subst (λ (text : List ℕ). IsSizeText text a.size) both.1 h.size_is) k.size_is in
    ap (λ (id : ObjectName). info_of id a.size) both.0 ∙ ap (λ (size : Option ℕ). info_of b.id size) sizes

pub info_reads_back : (format : Format) (info : Info) → IsNameIn format info.id → ((size : ℕ) → info.size ≡ Some size → IsSize size)
    → IsInfoLine format (info_text info) info
info_reads_back format info h fits =
    let begins = beginning_reads_back format info.id (size_text info.size) h in
    record {
      id = begins.digits;
      size = size_text info.size;
      spelled = begins.spelled;
      id_is = begins.named_is;
      size_is = size_reads_back info.size fits;
    }
