-- What a writer for C reports, by what it made and how that was handed out.
use Rattle.std.proofs.Common.{◌≡◌, ℕ, ◌<◌, ◌≤◌, List, length, length-append, Result, Ok, Err, OnOk, IfErr, subst, sym, ap, arith}
use Rattle.std.specs.Result.{IsErrAnd}
use Rattle.git_names.specs.ObjectName.{ObjectName}
use Rattle.git_names.specs.declared.fault.NameFault.{NameFault}
use Rattle.git_pkt.specs.Packets.{body_of, longest_payload, spelling_of}
use Rattle.git_msg.specs.WrittenRequest.{text_line}
use Rattle.gitwire.specs.Buffers.{Fills}
use Rattle.gitwire.specs.WrittenForC.{Makes, Meant, MeansLineOf, Names, Writes, refused_name, announcing_why}
use Rattle.gitwire.specs.declared.answer.GitwireAnswer.{GitwireAnswer}
use Rattle.gitwire.specs.declared.written.Unwritten.{Unwritten}

-- a text that is shorter than a payload may be is a payload with LF
pub line_fits : (text : List ℕ) → length text < longest_payload → length (body_of (text_line text)) ≤ longest_payload
line_fits text short = simp length-append (omega arith)

-- what was made and handed out is what the values mean
pub writes : (Means : Meant → Type 0) (made : Result (Unit {0}) Unwritten) (held buffer : List ℕ) (answer : GitwireAnswer) (filled : List ℕ)
    → Makes Means made held → OnOk made (Fills held buffer answer filled)
    → IfErr made (λ why. (answer ≡ announcing_why why) × (filled ≡ buffer)) → Writes Means buffer answer filled
writes Means (Ok _) held buffer answer filled (packet, means, fits, written) fills why =
    record { meant = Ok packet; means = means; announces = (fits, subst (λ bytes. Fills bytes buffer answer filled) written fills) }
writes Means (Err why) held buffer answer filled means fills announces = record { meant = Err why; means = means; announces = announces }

-- what is made of a line, where its text is that of the object
pub line_made : (number : ℕ) (digits : List ℕ) (text : ObjectName → List ℕ) (id : ObjectName) (line held : List ℕ)
    → Names number digits (Ok id) → line ≡ text id → held ≡ spelling_of (text_line line) → length line < longest_payload
    → Makes (MeansLineOf number digits text) (Ok tt) held
line_made number digits text id line held (format, numbered, is_id) same written short =
    (text_line line, (format, numbered, record { id = id; is_id = is_id; line = ap text_line same }), line_fits line short, written)

-- what is reported where a name is refused
pub name_refused : (Means : Meant → Type 0) (made : Result (Unit {0}) Unwritten) (fault : NameFault) (held : List ℕ)
    → IsErrAnd made (λ why. why ≡ refused_name fault) → Means (Err (refused_name fault)) → Makes Means made held
name_refused Means (Ok _) fault held refused means = absurd refused
name_refused Means (Err why) fault held refused means = subst (λ why. Means (Err why)) (sym refused) means
