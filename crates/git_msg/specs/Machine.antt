-- The state and the calls of the parts that read, keep and write requests. No definition outside this folder cites them.
pub mod HeldRequest
pub mod HeldTexts
pub mod ArgumentLists
pub mod JudgedLine
pub mod RequestReader
pub mod RequestReaderSteps
pub mod PlacedLists
pub mod TextPools
pub mod RequestWriter
pub mod StreamStages
pub mod RequestStreams
pub mod RequestStreamSteps
pub mod Listings
