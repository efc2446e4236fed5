mod Chain
pub mod Digits
pub mod Same
pub mod RoundTrip
pub mod Facts
