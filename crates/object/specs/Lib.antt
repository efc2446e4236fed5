-- The definitions that the crate's contracts cite.
pub mod Rules
pub mod Kept
pub mod Accounts
pub mod Slots
pub mod Titles
pub mod Calls
pub mod TitlesLaws
pub mod SlotsLaws
