pub mod Reading
pub mod Words
pub mod TextParts
pub mod Feeding
pub mod ReadBack
pub mod OneLine
pub mod PartsRead
