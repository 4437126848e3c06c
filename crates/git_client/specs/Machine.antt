-- The state and the calls of the client and of the runs that feed it. No definition outside this folder cites them.
pub mod Turns
pub mod Client
pub mod Choosing
pub mod HandedOut
pub mod LineParts
pub mod Gathered
pub mod Runs
pub mod RunSteps
pub mod Running
pub mod ReceiverStates
pub mod WriterStates
pub mod Messages
pub mod Calls
pub mod AnyCalls
