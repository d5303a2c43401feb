pub mod Sixteen
pub mod Listed
