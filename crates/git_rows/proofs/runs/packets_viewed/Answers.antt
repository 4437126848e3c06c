use Rattle.std.proofs.Common.{refl}
use Rattle.std.specs.Fmt.{digits}
use Rattle.git_names.specs.Digits.{lower_digit}
use Rattle.git_pkt.specs.Escape.{escape_of}
use Rattle.json.specs.Print.{escape_byte, print_from}
use Rattle.git_rows.proofs.runs.packets_viewed.Goals as goal

pub returns : goal.returns
unfolding digits escape_of lower_digit escape_byte print_from
returns c = record {
  section = refl;
  cut = refl;
  band = refl;
  no_band = refl;
  json = refl;
  counted = refl;
  left_out = refl;
  not_left_out = refl;
  before = refl;
  not_before = refl;
}
