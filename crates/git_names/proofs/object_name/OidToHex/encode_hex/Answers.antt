use Rattle.std.specs.Str.{IsUtf8}
use Rattle.std.proofs.Common.{sym, subst, ◌∙◌}
use Rattle.git_names.proofs.Pairs.{IsUtf8-encode_lower}
use Rattle.git_names.proofs.object_name.OidToHex.encode_hex.Goals as goal

pub unwrap-requires : goal.unwrap-requires
unwrap-requires g c = c.from_utf8.ensures.succeeds (subst IsUtf8 (sym (c.in_ok-digits.ensures.items ∙ c.written.ensures.text)) (IsUtf8-encode_lower _))
