pub mod Worked
pub mod WorkedConversations
pub mod WorkedRuns
pub mod WorkedSessions
pub mod WorkedTexts
