pub mod Absorbing
mod Chunks
pub mod Ending
pub mod Keyed
pub mod Rounds
pub mod Schedule
pub mod TakingIn
