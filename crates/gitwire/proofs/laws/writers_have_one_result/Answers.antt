use Rattle.std.proofs.Common.{◌++◌, codes}
use Rattle.std.specs.Bool.{then_some}
use Rattle.git_msg.specs.ResponseLines.{ack_text, boundary_text, info_text}
use Rattle.gitwire.specs.Offers.{offer_meant}
use Rattle.gitwire.specs.WrittenForC.{boundary_of, info_of}
use Rattle.gitwire.proofs.Determined.{advertised_once, determined, one_band_packet, one_line, one_line_of, one_packet, one_reference, one_wanted}
use Rattle.gitwire.proofs.laws.writers_have_one_result.Goals as goal

pub returns : goal.returns
returns c = record {
  packet = λ kind payload. determined _ (one_packet kind payload);
  band = λ band bytes. determined _ (one_band_packet band bytes);
  line = λ text. determined _ (one_line text);
  error = λ message. determined _ (one_line (codes "ERR " ++ message));
  reference = λ format id name target peeled. determined _ (one_reference format id name target peeled);
  ack = λ format id. determined _ (one_line_of format id ack_text);
  boundary = λ format shallow id. determined _ (one_line_of format id (λ named. boundary_text (boundary_of shallow named)));
  wanted = λ format id name. determined _ (one_wanted format id name);
  info = λ format id has_size size. determined _ (one_line_of format id (λ named. info_text (info_of (then_some has_size size) named)));
  advertisement = λ format features. advertised_once (offer_meant format features);
}
