use Rattle.std.proofs.Common.{[], Some, None, codes, refl, arith}
use Rattle.git_msg.proofs.Keys.{no_key, no_value}
use Rattle.git_rows.proofs.NamesByComputing.{lacks_by}
use Rattle.git_rows.proofs.lines.capability_lines.Goals as goal

pub returns-clause-no_key : goal.returns-clause-no_key
returns-clause-no_key c = no_key (codes "=") [] (Some []) (record { spelled = refl; first = λ k lt. omega arith }) refl

pub returns-clause-space_in_the_key : goal.returns-clause-space_in_the_key
returns-clause-space_in_the_key c = no_key (codes "a b") (codes "a b") None (refl, lacks_by 61 (codes "a b") refl) refl

pub returns-clause-line_end_in_the_value : goal.returns-clause-line_end_in_the_value
returns-clause-line_end_in_the_value c =
    no_value (codes "a=b\n") (codes "a") (Some (codes "b\n")) (record { spelled = refl; first = lacks_by 61 (codes "a") refl }) refl

pub returns-clause-not_refused : goal.returns-clause-not_refused
returns-clause-not_refused c = λ none. none (codes "a") (Some []) (refl, refl, refl)
