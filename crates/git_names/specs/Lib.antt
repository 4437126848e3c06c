pub mod Digits
pub mod NameBytes
pub mod NameFaults
pub mod NextByte
pub mod ObjectFormat
pub mod ObjectName
pub mod RefName
pub mod Steps
