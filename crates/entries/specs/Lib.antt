pub mod Bytes
pub mod Entries
pub mod Histories
pub mod Replacing
