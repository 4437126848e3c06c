use Rattle.std.proofs.Common.{rules, ◌≡◌, ap, inl, inr}
use Rattle.git_loop.specs.Streams.{two_inputs}
use Rattle.git_loop.proofs.OneStream.{consumes_window}
use Rattle.git_loop.proofs.two_inputs.TwoInputsInputs.consume.Goals as goal

pub returns-in-0-clause-consumed : goal.returns-in-0-clause-consumed
returns-in-0-clause-consumed g c =
    consumes_window g.Q.Read.remaining c.args.self.now.first.now c.args.count c.args.self.now.first_start c.args.self.now.first_end
    c.args.self.now.first_buffer.now (ap (two_inputs _ _) c.in-0.is) (ap (two_inputs _ _) c.in-0.is) c.requires.within

pub returns-in_default-clause-consumed : goal.returns-in_default-clause-consumed
returns-in_default-clause-consumed g c =
    let is_second : c.args.from ≡ 1 = elim c.requires.exists [
      | inl first ↦ absurd (search rules)
      | inr second ↦ second
    ] in
    consumes_window g.R.Read.remaining c.args.self.now.second.now c.args.count c.args.self.now.second_start c.args.self.now.second_end
    c.args.self.now.second_buffer.now (ap (two_inputs _ _) is_second) (ap (two_inputs _ _) is_second) c.requires.within
