use Rattle.git_names.proofs.ObjectNames.{reads_back-hex_of}
use Rattle.git_names.proofs.laws.written_name_reads_back.Goals as goal

pub returns : goal.returns
returns c = reads_back-hex_of
