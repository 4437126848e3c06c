use Rattle.std.proofs.Common.{◌∙◌, ap, subst}
use Rattle.git_client.specs.Conversation.{HasNoted}
use Rattle.gitwire.specs.Offers.{is_noted}
use Rattle.gitwire.proofs.client.advertises.Goals as goal

pub returns : goal.returns
returns c = record {
  answer_is = c.key_noted.ensures ∙ ap (is_noted c.args.key) c.caps-caps.ensures.value;
  noted = record {
    noted = λ t h stands. subst (HasNoted t h.asked h.used) c.caps-caps.ensures.value (c.caps-caps.ensures.noted t h stands);
  };
}
