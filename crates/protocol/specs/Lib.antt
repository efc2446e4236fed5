-- The definitions that the crate's contracts cite, in reading order.
pub mod Words
pub mod Quorum
pub mod Book
pub mod Moves
pub mod Promise
pub mod Example
