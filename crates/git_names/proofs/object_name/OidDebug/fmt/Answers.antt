use Rattle.std.specs.Str.{IsUtf8}
use Rattle.std.proofs.Common.{◌≡◌, sym, subst}
use Rattle.std.proofs.lemmas.Result.{IfOk-at_ok}
use Rattle.git_names.proofs.Pairs.{IsUtf8-encode_lower, read_as_text}
use Rattle.git_names.proofs.object_name.OidDebug.fmt.Goals as goal

pub unwrap-requires-2 : goal.unwrap-requires-2
unwrap-requires-2 g c =
    let written = IfOk-at_ok (λ _. c.encode_to_slice.new.output ≡ _) c.unwrap.ensures c.encode_to_slice.ensures.written in
    read_as_text _ _ c.from_utf8.result c.from_utf8.ensures.cases (subst IsUtf8 (sym written) (IsUtf8-encode_lower _))
