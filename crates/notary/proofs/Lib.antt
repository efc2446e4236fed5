pub mod Accepting
pub mod Chunks
pub mod Entries
pub mod Equal
