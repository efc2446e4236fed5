pub mod Deciding
pub mod Joining
pub mod OfficeExample
