pub mod Codes
pub mod Kinds
pub mod Samples
pub mod SetPoints
pub mod Reading
pub mod Lawful
