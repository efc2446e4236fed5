-- The definitions that the crate's contracts cite.
pub mod Views
pub mod Delivering
pub mod Lives
