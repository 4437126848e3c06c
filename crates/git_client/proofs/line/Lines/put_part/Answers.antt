use Rattle.std.proofs.Common.{decimal}
use Rattle.git_names.specs.ObjectName.{hex_of}
use Rattle.git_pkt.specs.Escape.{escaped_of}
use Rattle.git_pkt.proofs.Sends.{puts_front, puts_then}
use Rattle.git_client.proofs.line.Lines.put_part.Goals as goal

pub returns-in_err-put-in-Text : goal.returns-in_err-put-in-Text
returns-in_err-put-in-Text g c = rw c.in-Text.is (puts_front (escaped_of c.in-Text.text.now) c.in_err-put-in-Text.ensures c.from_residual.ensures.1)

pub returns-in_err-put-in-Name : goal.returns-in_err-put-in-Name
returns-in_err-put-in-Name g c =
    rw c.in-Name.is (puts_front (hex_of c.in-Name.id.now) c.in_err-put-in-Name.ensures c.from_residual-in_err-put-in-Name.ensures.1)

pub returns-in_err-put-in-Number : goal.returns-in_err-put-in-Number
returns-in_err-put-in-Number g c =
    rw c.in-Number.is (puts_front (decimal c.in-Number.number) c.in_err-put-in-Number.ensures c.from_residual-in_err-put-in-Number.ensures.1)

pub returns-in_ok-put-in-Text : goal.returns-in_ok-put-in-Text
returns-in_ok-put-in-Text g c = rw c.in-Text.is (puts_then c.in_ok-put-in-Text.ensures c.put_text.ensures)

pub returns-in_ok-put-in-Name : goal.returns-in_ok-put-in-Name
returns-in_ok-put-in-Name g c = rw c.in-Name.is (puts_then c.in_ok-put-in-Name.ensures c.put_name.ensures)

pub returns-in_ok-put-in-Number : goal.returns-in_ok-put-in-Number
returns-in_ok-put-in-Number g c = rw c.in-Number.is (puts_then c.in_ok-put-in-Number.ensures c.put_number.ensures)
