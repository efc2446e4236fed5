-- The argument, in reading order.
pub mod Quorums
pub mod Signers
pub mod Lists
pub mod Shape
pub mod Travel
pub mod Grants
pub mod Kept
pub mod Answers
pub mod Rounds
pub mod Targets
pub mod Counting
pub mod Exists
pub mod OneBook
pub mod Lives
pub mod Example
