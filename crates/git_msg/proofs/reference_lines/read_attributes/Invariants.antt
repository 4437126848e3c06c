use Rattle.std.specs.Option.{option_copied}
use Rattle.std.proofs.Common.{◌≡◌, ◌+◌, ◌*◌, ◌≤◌}
use Rattle.git_msg.specs.Texts.{bytes_left, parts_left}
use Rattle.git_msg.specs.ReferenceParts.{ReadSoFar}
use Rattle.git_msg.proofs.reference_lines.read_attributes.Given as goal

abbrev pub invariant-words : goal.invariant-words
invariant-words l = record {
  read : ReadSoFar l.format l.text (parts_left 32 (option_copied l.fn.words)) (option_copied l.left) l.places.target l.places.peeled;
  id : l.places.id ≡ l.fn.places.id;
  name_length : l.places.name_length ≡ l.fn.places.name_length;
  rises : l.fn.steps ≤ l.steps;
  within : l.steps + 21 * bytes_left (option_copied l.left) ≤ l.fn.steps + 21 * bytes_left (option_copied l.fn.words);
}

abbrev pub decreases-words : goal.decreases-words
decreases-words l = bytes_left (option_copied l.left)
