pub mod Groups
pub mod Law
pub mod Members
pub mod Order
pub mod Replies
