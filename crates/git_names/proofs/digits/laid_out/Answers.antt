use Rattle.std.proofs.Common.{arith, sym}
use Rattle.std.proofs.lemmas.List.{length-take-le}
use Rattle.git_names.proofs.Joined.{laid_out_by_parts}
use Rattle.git_names.proofs.digits.laid_out.Goals as goal

pub slice_bounds-copy_from_slice-end-2 : goal.slice_bounds-copy_from_slice-end-2
slice_bounds-copy_from_slice-end-2 c = sym (length-take-le 32 c.args.text.now (omega (arith, c.requires)))

pub returns : goal.returns
returns c = record {
  value = laid_out_by_parts c.args.text.now c.copy_from_slice.new.self c.copy_from_slice-2.new.self (c.copy_from_slice.auto.self)
      c.copy_from_slice.ensures.after c.copy_from_slice-2.ensures.after;
}
