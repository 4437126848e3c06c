-- One packet more of an answer for references, once the prefixes of its request are in order.
use Rattle.std.proofs.Common.{arith, ◌≡◌, length, List, ◌∷◌, ap, sym, ◌∙◌, subst}
use Rattle.git_pkt.specs.Packets.{Pkt}
use Rattle.git_msg.specs.Kept.{Kept}
use Rattle.git_msg.specs.Prefixes.{OrdersPrefixes}
use Rattle.git_server.specs.Repository.{Repository}
use Rattle.git_server.specs.Packs.{Manner, whole, broken}
use Rattle.git_server.specs.Machine.AnsweredRequest.{AreReferencesFrom, IsAnswerFrom, IsNext, most_from, references_from}
use Rattle.git_server.specs.declared.answer.Answer.{Answer}
use Rattle.git_server.specs.declared.answer.Answer.TheVariants.{References}
use Rattle.git_server.specs.declared.answer.Answered.TheVariants.{Part}
use Rattle.git_server.specs.declared.ls_refs.ReferencesPlace.{ReferencesPlace}
use Rattle.git_server.proofs.Skipped.{alike_answers}
use Rattle.git_msg.specs.Arguments.{Arg}

module _ (repo : Repository) (old new : Kept (List Arg)) (place after : ReferencesPlace) (packet : Pkt) (orders : OrdersPrefixes old new)
    (unsent : references_from new.asked repo place ≡ packet ∷ references_from new.asked repo after) where
  one_listed : references_from old.asked repo place ≡ packet ∷ references_from new.asked repo after
  one_listed = sym (alike_answers old new repo place orders) ∙ unsent

  listed_later : (manner : Manner) (later : List Pkt) → AreReferencesFrom manner new.asked repo after later
      → AreReferencesFrom manner old.asked repo place (packet ∷ later)
  listed_later whole later h = ap (λ (ps : List Pkt). packet ∷ ps) h ∙ sym one_listed
  listed_later broken later h = absurd h

  -- the packet is the next one of the answer
  abbrev IsBefore : {A : Type 0} → Answer A → Type 0
  IsBefore answer = IsNext (λ manner a later. IsAnswerFrom manner repo a later) (most_from repo) answer Part (References new after) packet

  pub listed : {A : Type 0} (answer : Answer A) → answer ≡ References old place → IsBefore answer
  listed {A} answer is = subst (λ (a : Answer A). IsBefore a) (sym is) (listed_later, omega (arith, ap length one_listed))
