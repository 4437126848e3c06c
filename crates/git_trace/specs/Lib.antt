pub mod Escapes
pub mod TraceLines
pub mod ShownLines
pub mod TraceTexts
pub mod Machine
