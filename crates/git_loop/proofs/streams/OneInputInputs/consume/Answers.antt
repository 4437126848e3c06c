use Rattle.std.proofs.Common.{ap}
use Rattle.git_loop.specs.Streams.{one_input}
use Rattle.git_loop.proofs.OneStream.{consumes_window}
use Rattle.git_loop.proofs.streams.OneInputInputs.consume.Goals as goal

pub returns-clause-consumed : goal.returns-clause-consumed
returns-clause-consumed g c =
    consumes_window g.R.Read.remaining c.args.self.now.reader.now c.args.count c.args.self.now.start c.args.self.now.end
    c.args.self.now.buffer.now (ap (one_input _) c.requires.exists) (ap (one_input _) c.requires.exists) c.requires.within
