mod Best
mod Classes
mod Preference
pub mod Quorums
