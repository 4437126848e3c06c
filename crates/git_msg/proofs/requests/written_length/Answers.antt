use Rattle.std.proofs.Common.{rules, length-append}
use Rattle.git_msg.proofs.WrittenNames.{length-hex_of}
use Rattle.git_msg.proofs.requests.written_length.Goals as goal

pub returns-in-Object : goal.returns-in-Object
returns-in-Object c = search (rules, length-append, length-hex_of)
