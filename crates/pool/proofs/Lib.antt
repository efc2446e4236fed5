pub mod Nths
pub mod Standing
pub mod Handing
pub mod Beginning
