pub mod Words
pub mod Compression
pub mod Digest
pub mod InParts
pub mod Mac
pub mod Sealing
