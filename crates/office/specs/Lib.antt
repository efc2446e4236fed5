-- The definitions that the crate's contracts cite.
pub mod Fit
pub mod Slots
pub mod Likenesses
pub mod Judging
pub mod Taking
pub mod Tickets
pub mod Calls
pub mod Latest
pub mod Laws
pub mod Filed
pub mod Sending
pub mod Alike
pub mod Words
