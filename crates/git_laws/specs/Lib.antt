pub mod AnnouncedAnswers
pub mod Plays
pub mod BothEnds
