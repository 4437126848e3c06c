pub mod LineContents
pub mod Drafting
pub mod TextChunks
pub mod Reading
pub mod Progressing
pub mod TextLaws
pub mod LastNames
