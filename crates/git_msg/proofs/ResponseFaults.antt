-- A line of a response section, or of the response to object-info, is accepted or refused, never both, and it has one error.
use Rattle.std.proofs.Common.{◌≡◌, ℕ, Option, Some, None, List, [], ◌∷◌, refl, sym, ◌∙◌, subst, codes, inl, inr, rules}
use Rattle.std.proofs.lemmas.List.{append_cancel_left}
use Rattle.git_names.specs.ObjectName.{ObjectName, IsObjectName, IsNoObjectName}
use Rattle.git_names.specs.RefName.{IsRefName, Lacks}
use Rattle.git_names.specs.declared.object_format.Format.{Format}
use Rattle.git_pkt.specs.declared.fault.Kind.{Kind}
use Rattle.git_pkt.specs.declared.fault.Kind.TheVariants.{BadLine, BadNumber, BadObjectName, BadRefName}
use Rattle.git_msg.specs.declared.response_lines.Boundary.{Boundary}
use Rattle.git_msg.specs.declared.response_lines.Boundary.TheVariants.{Shallow, Unshallow}
use Rattle.git_msg.specs.declared.response_lines.Info.{Info}
use Rattle.git_msg.specs.Checks.{Check, Passes, Refuses, unless}
use Rattle.git_msg.specs.Texts.{Follows}
use Rattle.git_msg.specs.ResponseLines.{Wanted, IsNamed, IsNamedFault, IsAckLine, IsAckFault, IsBoundaryLine, IsBoundaryFault, IsWantedLine, IsWantedFault}
use Rattle.git_msg.specs.ResponseLines.{BeginsWithName, BeginsWithNoName, IsInfoLine, IsInfoFault, IsNoSizeText, IsSizeText}
use Rattle.git_msg.proofs.CheckLaws.{AllFair, IsFair, fair_check, one_name, passes_or_refuses}
use Rattle.git_msg.proofs.ReferenceLines.{digits_lack_space}
use Rattle.git_msg.proofs.ResponseLines.{BeginsWith, info_begins, not_both, wanted_begins}
use Rattle.git_msg.proofs.TextParts.{one_parting, parted_has_byte}

-- the text after a word is unique
same_value : (word text : List ℕ) (P Q : List ℕ → Type 0) → (h : Follows word P text) → (k : Follows word Q text) → h.value ≡ k.value
same_value word text P Q h k = append_cancel_left word h.value k.value (sym h.spelled ∙ k.spelled)

named_or_not : (word : List ℕ) (format : Format) (text : List ℕ) (id : ObjectName) → IsNamed word format text id
    → Follows word (IsNoObjectName format) text → ⊥
named_or_not word format text id h k =
    let same = same_value word text (λ name. IsObjectName format name id) (IsNoObjectName format) h k in
    k.holds id (subst (λ (name : List ℕ). IsObjectName format name id) same h.holds)

named_or_fault : (word : List ℕ) (format : Format) (text : List ℕ) (id : ObjectName) (kind : Kind) → IsNamed word format text id
    → IsNamedFault word format text kind → ⊥
named_or_fault word format text id BadLine h fault = fault h.value h.spelled
named_or_fault word format text id BadObjectName h fault = named_or_not word format text id h fault
named_or_fault word format text id kind h fault = fault

one_named_fault : (word : List ℕ) (format : Format) (text : List ℕ) (kind other : Kind) → IsNamedFault word format text kind
    → IsNamedFault word format text other → kind ≡ other
one_named_fault word format text BadLine BadLine h k = refl
one_named_fault word format text BadObjectName BadObjectName h k = refl
one_named_fault word format text BadLine BadObjectName h k = absurd (h k.value k.spelled)
one_named_fault word format text BadObjectName BadLine h k = absurd (k h.value h.spelled)
one_named_fault word format text BadLine other h k = absurd k
one_named_fault word format text BadObjectName other h k = absurd k
one_named_fault word format text kind other h k = absurd h

pub ack_or_fault : (format : Format) (text : List ℕ) (id : ObjectName) (kind : Kind) → IsAckLine format text id → IsAckFault format text kind → ⊥
ack_or_fault format text id kind h fault = named_or_fault (codes "ACK ") format text id kind h fault

pub one_ack_fault : (format : Format) (text : List ℕ) (kind other : Kind) → IsAckFault format text kind → IsAckFault format text other → kind ≡ other
one_ack_fault format text kind other h k = one_named_fault (codes "ACK ") format text kind other h k

pub boundary_or_fault : (format : Format) (text : List ℕ) (line : Boundary) (kind : Kind) → IsBoundaryLine format text line
    → IsBoundaryFault format text kind → ⊥
boundary_or_fault format text (Shallow id) BadLine h fault = fault.0 h.value h.spelled
boundary_or_fault format text (Unshallow id) BadLine h fault = fault.1 h.value h.spelled
boundary_or_fault format text (Shallow id) BadObjectName h (inl k) = named_or_not (codes "shallow ") format text id h k
boundary_or_fault format text (Shallow id) BadObjectName h (inr k) = not_both text h.value k.value h.spelled k.spelled
boundary_or_fault format text (Unshallow id) BadObjectName h (inl k) = not_both text k.value h.value k.spelled h.spelled
boundary_or_fault format text (Unshallow id) BadObjectName h (inr k) = named_or_not (codes "unshallow ") format text id h k
boundary_or_fault format text line kind h (inl k) = k
boundary_or_fault format text line kind h (inr k) = k

-- a line of the boundary has only two errors
begins_or_not : (format : Format) (text : List ℕ) → IsBoundaryFault format text BadLine → IsBoundaryFault format text BadObjectName → ⊥
begins_or_not format text h (inl k) = h.0 k.value k.spelled
begins_or_not format text h (inr k) = h.1 k.value k.spelled

pub one_boundary_fault : (format : Format) (text : List ℕ) (kind other : Kind) → IsBoundaryFault format text kind
    → IsBoundaryFault format text other → kind ≡ other
one_boundary_fault format text BadLine BadLine h k = refl
one_boundary_fault format text BadObjectName BadObjectName h k = refl
one_boundary_fault format text BadLine BadObjectName h k = absurd (begins_or_not format text h k)
one_boundary_fault format text BadObjectName BadLine h k = absurd (begins_or_not format text k h)
one_boundary_fault format text BadLine other h (inl k) = absurd k
one_boundary_fault format text BadLine other h (inr k) = absurd k
one_boundary_fault format text BadObjectName other h (inl k) = absurd k
one_boundary_fault format text BadObjectName other h (inr k) = absurd k
one_boundary_fault format text kind other (inl h) k = absurd h
one_boundary_fault format text kind other (inr h) k = absurd h

-- the checks of a line that has to be an object name, a space and a value; a value with P has this error
abbrev line_checks : Format → (List ℕ → Type 0) → Kind → List ℕ → List Check
line_checks format P by_value text =
    unless (Lacks text 32) BadLine ∷ unless (BeginsWithNoName format text) BadObjectName ∷ unless (BeginsWithName format P text) by_value ∷ []

fair_unless : (Q : Type 0) (name : Kind) → IsFair (unless Q name)
fair_unless Q name = fair_check (¬ Q) Q name (λ p q. p q)

fair_line : (format : Format) (P : List ℕ → Type 0) (by_value : Kind) (text : List ℕ) → AllFair (line_checks format P by_value text)
unfolding AllFair
fair_line format P by_value text = search (rules, fair_unless)

-- a text that begins with a name has a space, and this is its only name
has_space : (format : Format) (P : List ℕ → Type 0) (text : List ℕ) → BeginsWithName format P text → ¬ Lacks text 32
has_space format P text h lacks = parted_has_byte 32 text h.0 h.1 h.2 lacks

named_or_none : (format : Format) (P : List ℕ → Type 0) (text : List ℕ) → BeginsWithName format P text → ¬ BeginsWithNoName format text
named_or_none format P text h k =
    let same = one_parting 32 text h.0 k.0 h.1 k.1 h.2 k.2 in
    k.3 h.3.0 (subst (λ (id : List ℕ). IsObjectName format id h.3.0) same.0 h.3.1)

-- a line with a name passes the checks, unless its value is refused
line_passes : (format : Format) (P : List ℕ → Type 0) (by_value : Kind) (text : List ℕ) (named : ObjectName) (value : List ℕ)
    → BeginsWith format text named value → ¬ P value → Passes (line_checks format P by_value text)
line_passes format P by_value text named value h good =
    let is : BeginsWithName format (λ rest. rest ≡ value) text =
    (h.digits, value, record { spelled = h.spelled; first = digits_lack_space format h.digits named h.named_is }, (named, h.named_is), refl) in (
      has_space format (λ rest. rest ≡ value) text is,
      (
        named_or_none format (λ rest. rest ≡ value) text is,
        ((λ bad. good (subst (λ (rest : List ℕ). P rest) (one_parting 32 text bad.0 is.0 bad.1 value bad.2 is.2).1 bad.4)), tt),
      ),
    )

line_or_fault : (format : Format) (P : List ℕ → Type 0) (by_value : Kind) (text : List ℕ) (named : ObjectName) (value : List ℕ) (kind : Kind)
    → BeginsWith format text named value → ¬ P value → Refuses (line_checks format P by_value text) kind → ⊥
line_or_fault format P by_value text named value kind h good fault =
    passes_or_refuses (line_checks format P by_value text) (fair_line format P by_value text) kind
    (line_passes format P by_value text named value h good) fault

one_line_fault : (format : Format) (P : List ℕ → Type 0) (by_value : Kind) (text : List ℕ) (kind other : Kind)
    → Refuses (line_checks format P by_value text) kind → Refuses (line_checks format P by_value text) other → kind ≡ other
one_line_fault format P by_value text kind other h k = search (rules, one_name, fair_line)

by_its_name : (format : Format) (P : List ℕ → Type 0) (by_value : Kind) (text : List ℕ) → BeginsWithNoName format text
    → Refuses (line_checks format P by_value text) BadObjectName
by_its_name format P by_value text h = inr ((λ lacks. parted_has_byte 32 text h.0 h.1 h.2 lacks), inl (h, refl))

by_its_value : (format : Format) (P : List ℕ → Type 0) (by_value : Kind) (text : List ℕ) → BeginsWithName format P text
    → Refuses (line_checks format P by_value text) by_value
by_its_value format P by_value text h = inr (has_space format P text h, inr (named_or_none format P text h, inl (h, refl)))

-- the checks of a wanted reference after its object
abbrev wanted_checks : Format → List ℕ → List Check
wanted_checks format text = line_checks format (λ name. ¬ IsRefName name) BadRefName text

wanted_refusal : (format : Format) (text : List ℕ) (kind : Kind) → IsWantedFault format text kind → Refuses (wanted_checks format text) kind
wanted_refusal format text BadLine h = inl (h, refl)
wanted_refusal format text BadObjectName h = by_its_name format (λ name. ¬ IsRefName name) BadRefName text h
wanted_refusal format text BadRefName h = by_its_value format (λ name. ¬ IsRefName name) BadRefName text h
wanted_refusal format text kind h = absurd h

pub wanted_or_fault : (format : Format) (text : List ℕ) (wanted : Wanted) (kind : Kind) → IsWantedLine format text wanted
    → IsWantedFault format text kind → ⊥
wanted_or_fault format text wanted kind h fault = search (rules, line_or_fault, wanted_begins, wanted_refusal)

pub one_wanted_fault : (format : Format) (text : List ℕ) (kind other : Kind) → IsWantedFault format text kind → IsWantedFault format text other
    → kind ≡ other
one_wanted_fault format text kind other h k = search (rules, one_line_fault, wanted_refusal)

-- the checks of a size, or of nothing, after its object
abbrev info_checks : Format → List ℕ → List Check
info_checks format text = line_checks format IsNoSizeText BadNumber text

info_refusal : (format : Format) (text : List ℕ) (kind : Kind) → IsInfoFault format text kind → Refuses (info_checks format text) kind
info_refusal format text BadLine h = inl (h, refl)
info_refusal format text BadObjectName h = by_its_name format IsNoSizeText BadNumber text h
info_refusal format text BadNumber h = by_its_value format IsNoSizeText BadNumber text h
info_refusal format text kind h = absurd h

size_or_none : (text : List ℕ) (size : Option ℕ) → IsSizeText text size → ¬ IsNoSizeText text
size_or_none text None h bad = bad.some h
size_or_none text (Some size) h bad = bad.no_number size h

pub info_or_fault : (format : Format) (text : List ℕ) (info : Info) (kind : Kind) → IsInfoLine format text info → IsInfoFault format text kind → ⊥
info_or_fault format text info kind h fault =
    line_or_fault format IsNoSizeText BadNumber text info.id h.size kind (info_begins format text info h) (size_or_none h.size info.size h.size_is)
    (info_refusal format text kind fault)

pub one_info_fault : (format : Format) (text : List ℕ) (kind other : Kind) → IsInfoFault format text kind → IsInfoFault format text other → kind ≡ other
one_info_fault format text kind other h k = search (rules, one_line_fault, info_refusal)
