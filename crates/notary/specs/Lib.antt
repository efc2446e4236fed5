pub mod Book
pub mod Keys
pub mod Laws
