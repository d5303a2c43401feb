pub mod Entries
pub mod Lists
pub mod Makes
pub mod Made
