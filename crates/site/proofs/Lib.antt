mod Keeping
mod Matching
pub mod Refusing
pub mod Turning
pub mod ReadBack
pub mod Telling
pub mod Groups
pub mod Likeness
pub mod Settlements
pub mod Writes
pub mod Going
pub mod Asking
pub mod Showing
pub mod Doing
pub mod Rounding
pub mod Hearing
pub mod Calling
pub mod Living
pub mod Promised
pub mod LifeExample
pub mod RowsHold
