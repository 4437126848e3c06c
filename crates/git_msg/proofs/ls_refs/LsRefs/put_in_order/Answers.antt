use Rattle.git_msg.proofs.ls_refs.LsRefs.put_in_order.Goals as goal

pub invariant_of-self : goal.invariant_of-self
invariant_of-self g c = c.put_in_order.ensures.own _ c.self.invariant
