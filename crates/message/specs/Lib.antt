-- The definitions that the crate's contracts cite.
pub mod Limits
pub mod Records
pub mod Said
pub mod Forms
pub mod Sizes
pub mod Saying
pub mod Checks
pub mod Refusals
pub mod Laws
pub mod Words
