-- The state and the calls of the packet reader, the engines and the hold. No definition outside this folder cites them.
pub mod AnnouncesDigits
pub mod HeldPacket
pub mod ReaderState
pub mod PacketReader
pub mod Credit
pub mod PacketReaderSteps
pub mod BandReader
pub mod BandCalls
pub mod PassedOut
pub mod LentHold
pub mod Calls
pub mod Recorded
pub mod Sends
pub mod Stops
pub mod Retries
pub mod Engine
