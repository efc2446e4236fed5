-- The definitions that the crate's contracts cite.
pub mod Fit
pub mod Tables
pub mod Ledgers
pub mod Settling
pub mod Answers
pub mod Rules
pub mod Call
pub mod Life
pub mod OneBook
pub mod LifeExample
pub mod Rows
pub mod Words
