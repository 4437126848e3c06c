-- The lines of a script with one request.
use Rattle.std.proofs.Common.{[], ◌∷◌, true, codes, refl, arith}
use Rattle.git_msg.specs.Arguments.{alone}
use Rattle.git_msg.specs.declared.arguments.Command.TheVariants.{LsRefs}
use Rattle.git_msg.specs.declared.flags.Flag.{Flag}
use Rattle.git2show_lib.specs.Scripts.{IsScript, argument, blank, command}
use Rattle.git_rows.specs.Worked.{offer_all}
use Rattle.git_rows.specs.WorkedTexts.{kept_refs}

pub script : IsScript offer_all 7 (codes "ls-refs\nsymrefs\n\n") (kept_refs 7 true 7 ∷ [])
script = record {
  lines = command LsRefs ∷ argument (alone Flag.Symrefs) ∷ blank ∷ [];
  follow = (
    (refl, refl),
    (
      record {
        of = LsRefs;
        is_open = refl;
        reads = record { is_argument = (refl, record { value = []; spelled = refl; states = tt }); offered = refl };
        short = omega arith;
        fits = omega arith;
      },
      (refl, tt),
    ),
  );
  requests_are = refl;
}
