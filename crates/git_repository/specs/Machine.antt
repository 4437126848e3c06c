-- The state and the calls of the reader of a repository's text. No definition outside this folder cites them.
pub mod DraftLists
pub mod RepositoryProgress
pub mod RepositoryReader
pub mod RepositoryFaults
