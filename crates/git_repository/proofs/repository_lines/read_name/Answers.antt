use Rattle.std.proofs.Common.{rules, ◌≡◌, ℕ, List, Option, Some, MatchOption, Result, Ok, Err, sym, subst, ◌∙◌}
use Rattle.std.specs.Result.{result_ok}
use Rattle.std.proofs.lemmas.Option.{MatchOption-at_none, MatchOption-at_some}
use Rattle.hex.specs.declared.error.FromHexError.{FromHexError}
use Rattle.git_names.specs.declared.object_format.Format.{Format}
use Rattle.git_names.specs.ObjectName.{HexReads, IsNoObjectName, IsObjectName, ObjectName}
use Rattle.git_names.proofs.ObjectNames.{no_name_of_another, no_name_where_refused}
use Rattle.git_repository.proofs.repository_lines.read_name.Goals as goal

-- what `hex` reads is an object name of its own format, and what it refuses is none
by_hex : (format : Format) (text : List ℕ) (read : Result ObjectName FromHexError) → HexReads text read
    → MatchOption (result_ok read) (IsNoObjectName format text) (λ id. IsObjectName id.format text id)
by_hex format text (Ok id) h = h.name
by_hex format text (Err fault) h = no_name_where_refused format text fault h.refused

named : (format : Format) (text : List ℕ) (read : Result ObjectName FromHexError) (found : Option ObjectName) (id : ObjectName)
    → HexReads text read → found ≡ result_ok read → found ≡ Some id → IsObjectName id.format text id
named format text read found id h value is =
    MatchOption-at_some (IsNoObjectName format text) (λ other. IsObjectName other.format text other) id (sym value ∙ is) (by_hex format text read h)

pub returns-then-ne : goal.returns-then-ne
returns-then-ne c =
    let name = named c.args.format c.args.text.now c.from_hex.result c.ok.result c.in_ok-id.id c.from_hex.ensures c.ok.ensures.value c.in_ok-id.was in
    no_name_of_another c.in_ok-id.id.format c.args.format c.args.text.now c.in_ok-id.id name (λ same. search rules)

pub returns-in_err-id : goal.returns-in_err-id
returns-in_err-id c = rw c.from_residual.ensures
    (MatchOption-at_none (IsNoObjectName c.args.format c.args.text.now) (λ other. IsObjectName other.format c.args.text.now other)
    (sym c.ok.ensures.value ∙ c.in_err-id.was) (by_hex c.args.format c.args.text.now c.from_hex.result c.from_hex.ensures))

pub returns : goal.returns
returns c =
    let name = named c.args.format c.args.text.now c.from_hex.result c.ok.result c.in_ok-id.id c.from_hex.ensures c.ok.ensures.value c.in_ok-id.was in
    let same : c.in_ok-id.id.format ≡ c.args.format = search rules in
    subst (λ (format : Format). IsObjectName format c.args.text.now c.in_ok-id.id) same name
