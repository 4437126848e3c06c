pub mod OneStream
pub mod TwoStreams
pub mod Unread
pub mod Numbers
pub mod RunLemmas
