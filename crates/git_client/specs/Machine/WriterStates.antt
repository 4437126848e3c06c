-- Three writers as the outputs of a run.
use Rattle.std.specs.Prelude.{◌≡◌, ℕ, zero, suc, List, Option, None}
use Rattle.std.proofs.Common.{refl, ◌∙◌}
use Rattle.git_client.specs.declared.outputs.Writers.{Writers}

-- what each output holds, by its number
abbrev pub three_outputs : (out pack progress : Option (List ℕ)) → ℕ → Option (List ℕ)
three_outputs out pack progress zero = out
three_outputs out pack progress (suc zero) = pack
three_outputs out pack progress (suc (suc zero)) = progress
three_outputs out pack progress (suc (suc (suc k))) = None

module _ {O P E : Type 0} where
  -- both have the same writers
  pub record HaveSameWriters (old new : Writers O P E) : Type 0 where
    pub out : new.out.ghost_name ≡ old.out.ghost_name
    pub pack : new.pack.ghost_name ≡ old.pack.ghost_name
    pub progress : new.progress.ghost_name ≡ old.progress.ghost_name

  pub same_itself : (writers : Writers O P E) → HaveSameWriters writers writers
  same_itself writers = record { out = refl; pack = refl; progress = refl }

  pub same_further : (old middle new : Writers O P E) → HaveSameWriters old middle → HaveSameWriters middle new → HaveSameWriters old new
  same_further old middle new first second =
      record { out = second.out ∙ first.out; pack = second.pack ∙ first.pack; progress = second.progress ∙ first.progress }
