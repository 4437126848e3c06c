use Rattle.std.proofs.Common.{refl, subst, sym, List}
use Rattle.git_msg.specs.Arguments.{Arg, MayHave}
use Rattle.git_msg.specs.Kept.{AreOf, Kept}
use Rattle.git_msg.specs.declared.flags.Flag.{Flag}
use Rattle.git_msg.specs.declared.words.Word.TheVariants.{Flag as of_flag}
use Rattle.git_msg.specs.declared.words.TextWord.{TextWord}
use Rattle.git_msg.specs.Prefixes.{IsOrdered}
use Rattle.git_msg.proofs.HeldArguments.{flag_found, prefixes_alike, texts_are}
use Rattle.git_msg.proofs.PrunedRequests.{all_stay, sound_pruned}
use Rattle.git_msg.proofs.kept.KeptArguments.put_in_order.Goals as goal

pub invariant_of-self : goal.invariant_of-self
invariant_of-self g c =
    sound_pruned c.self.inside.lists c.put_in_order.new.self c.put_in_order.ensures.others c.put_in_order.ensures.order.prunes _ _ _
    c.put_in_order.ensures.stored c.self.invariant

pub returns-clause-ordered : goal.returns-clause-ordered
returns-clause-ordered g c = subst IsOrdered (sym (texts_are c.put_in_order.new.self TextWord.RefPrefix)) c.put_in_order.ensures.order.ordered

pub returns-clause-same : goal.returns-clause-same
returns-clause-same g c =
    let q = c.self.inside.lists in
    let new = c.put_in_order.new.self in
    let others = c.put_in_order.ensures.others in
    rw (← c.self.view_is)
    (record {
      symrefs = flag_found q new Flag.Symrefs (others (of_flag Flag.Symrefs) refl);
      peel = flag_found q new Flag.Peel (others (of_flag Flag.Peel) refl);
      unborn = flag_found q new Flag.Unborn (others (of_flag Flag.Unborn) refl);
      alike = prefixes_alike q new c.put_in_order.ensures.order.alike;
      kept = refl;
      limit = refl;
      format = refl;
      stored = c.put_in_order.ensures.stored;
    })

pub returns-clause-own : goal.returns-clause-own
returns-clause-own g c command all =
    all_stay c.self.inside.lists c.put_in_order.new.self c.put_in_order.ensures.others c.put_in_order.ensures.order.prunes
    (MayHave command) (subst (λ (q : Kept (List Arg)). AreOf command q.asked) (sym c.self.view_is) all)
