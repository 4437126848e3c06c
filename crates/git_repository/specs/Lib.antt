pub mod Packs
pub mod RepositoryLines
pub mod RepositoryText
pub mod Drafts
pub mod LinesAnnounced
pub mod Machine
