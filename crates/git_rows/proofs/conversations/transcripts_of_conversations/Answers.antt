use Rattle.std.proofs.Common.{codes, refl}
use Rattle.std.specs.Fmt.{digits}
use Rattle.git_names.specs.Digits.{lower_digit}
use Rattle.hex.specs.Hex.{encode_with}
use Rattle.git_pkt.specs.Escape.{escape_of}
use Rattle.git_rows.proofs.TextsByComputing.{differ}
use Rattle.git_rows.proofs.conversations.transcripts_of_conversations.Goals as goal

pub returns-clause-reference_shown : goal.returns-clause-reference_shown
unfolding digits escape_of encode_with lower_digit
returns-clause-reference_shown c = refl

pub returns-clause-bytes_counted : goal.returns-clause-bytes_counted
unfolding digits
returns-clause-bytes_counted c = refl

pub returns-clause-not_counted_as_one : goal.returns-clause-not_counted_as_one
unfolding digits
returns-clause-not_counted_as_one c = λ h. differ (codes "offered\nrequest fetch\nend 1 1\n") (codes "offered\nrequest fetch\nend 2 0\n") refl h
