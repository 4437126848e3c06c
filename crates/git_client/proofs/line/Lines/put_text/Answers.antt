use Rattle.std.proofs.Common.{arith}
use Rattle.git_client.proofs.Writing.{block_put, block_stopped}
use Rattle.git_client.proofs.line.Lines.put_text.Goals as goal

pub returns-in_err-put_block : goal.returns-in_err-put_block
returns-in_err-put_block g c =
    block_stopped c.args.bytes.now c.loop-done.done c.min-count.result c.loop-done.invariant.puts c.in_err-put_block.ensures c.from_residual.ensures.1

pub loop-done-preserved : goal.loop-done-preserved
loop-done-preserved g c = record {
  within = omega (arith, c.min-count.ensures, c.loop-done.invariant.within);
  puts = block_put c.args.bytes.now c.loop-done.done c.min-count.result c.loop-done.invariant.puts c.in_ok-put_block.ensures;
}
