mod Lowest
mod Found
mod Marking
pub mod Groups
pub mod HeldParts
pub mod Requests
pub mod OneKind
pub mod FormsTold
mod Signers
mod Read
mod Verdicts
mod Tested
mod ByForm
pub mod Outcome
