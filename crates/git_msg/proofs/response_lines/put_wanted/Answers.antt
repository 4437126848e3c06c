use Rattle.std.proofs.Common.{List, ℕ, Some, None, rules, arith}
use Rattle.git_names.specs.ObjectName.{ObjectName}
use Rattle.git_msg.specs.References.{HasFormat, reference_of}
use Rattle.git_msg.proofs.ResponseLines.{wanted_reads_back}
use Rattle.git_msg.proofs.WrittenNames.{named_in}
use Rattle.git_msg.proofs.response_lines.put_wanted.Goals as goal
use Rattle.std.proofs.lemmas.Grind.{common_steps}

-- a reference that has only an object has the format of that object
own_format : (id : ObjectName) (name : List ℕ) → HasFormat id.format (reference_of (Some id) name None None)
own_format id name = search rules

pub put_reference-requires : goal.put_reference-requires
put_reference-requires c = grind (arith, common_steps, own_format)

pub returns-clause-reads_back : goal.returns-clause-reads_back
returns-clause-reads_back c = search (rules, wanted_reads_back, named_in)
