use Rattle.git_laws.proofs.ReceivingOffers.{offer_received, offer_noted, offer_whole}
use Rattle.git_laws.proofs.answer_laws.received_offer.Goals as goal

pub returns : goal.returns
returns c = record {
  arrived = λ t asked offer gs format are. offer_received t offer gs format are asked;
  whole = offer_whole;
  noted = offer_noted;
}
