pub mod HostedRepository
pub mod Questions
pub mod StoreMoves
pub mod StoreRuns
pub mod RepoReplies
pub mod Hosted
pub mod RepositoryRuns
