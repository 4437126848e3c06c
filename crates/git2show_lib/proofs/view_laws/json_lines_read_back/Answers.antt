use Rattle.std.proofs.Common.{refl}
use Rattle.json.specs.Print.{print}
use Rattle.json.specs.Tree.{json_tokens}
use Rattle.git2show_lib.specs.JsonLines.{json_value}
use Rattle.git2show_lib.proofs.JsonTexts.{reads_back}
use Rattle.git2show_lib.proofs.view_laws.json_lines_read_back.Goals as goal

pub returns : goal.returns
returns c = λ g offset long. (print (json_tokens (json_value g)), refl, reads_back g offset long)
