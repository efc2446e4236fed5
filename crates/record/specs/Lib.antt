-- The definitions that the crate's contracts cite.
pub mod Kinds
pub mod Limits
pub mod Numbers
pub mod Layout
pub mod RoundTrip
pub mod Claims
pub mod Ranges
pub mod Laws
