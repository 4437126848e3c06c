use Rattle.std.proofs.Common.{sym}
use Rattle.git_msg.proofs.HeldArguments.{texts_are}
use Rattle.git_msg.proofs.lists.ArgumentLists.texts.Goals as goal

pub returns : goal.returns
returns g c word = sym (texts_are c.args.self.now word)
