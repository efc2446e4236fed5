-- The definitions that the crate's contracts cite.
pub mod Requests
