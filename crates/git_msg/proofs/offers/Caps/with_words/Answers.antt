use Rattle.git_msg.proofs.Noted.{more_words}
use Rattle.git_msg.proofs.offers.Caps.with_words.Goals as goal
use Rattle.std.proofs.Common.{rules}

pub words-preserved : goal.words-preserved
words-preserved c = search (rules, more_words)

pub returns-in-None-clause-exact : goal.returns-in-None-clause-exact
returns-in-None-clause-exact c = search rules
