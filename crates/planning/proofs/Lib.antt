pub mod Lowest
pub mod Sparing
