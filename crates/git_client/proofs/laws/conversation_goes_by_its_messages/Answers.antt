use Rattle.git_client.proofs.ConversationRules.{conversation_is}
use Rattle.git_client.proofs.laws.conversation_goes_by_its_messages.Goals as goal

pub returns : goal.returns
returns c = conversation_is
