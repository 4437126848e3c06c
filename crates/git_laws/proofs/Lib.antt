mod Receiving
mod ReceivingAnswers
mod ReceivingSessions
mod ReceivingOffers
mod ValuesRead
pub mod RequestsReceived
mod SpelledPackets
mod PacksAnnounced
mod PlaysAnnounced
mod FrontsReceived
mod ServerGave
mod AskedAfterOffer
mod NeitherWaits
