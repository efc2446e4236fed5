pub mod Confirming
mod Deciding
mod Exactly
pub mod Keeping
mod Latest
pub mod Members
mod Passing
pub mod Pieces
mod Ranks
mod Records
mod Sharing
mod Taken
mod Worthy
