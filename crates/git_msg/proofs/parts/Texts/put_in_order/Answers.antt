use Rattle.git_msg.proofs.PooledTexts.{ends_ordered}
use Rattle.git_msg.proofs.parts.Texts.put_in_order.Goals as goal

pub invariant_of-self : goal.invariant_of-self
invariant_of-self g c =
    let sound = c.order.ensures.sound in
    record { sound = ends_ordered c.args.self.now.bytes.items c.args.self.now.ends c.order.new.ends (rw c.deref.ensures.value at sound) c.args.self.now.sound }
