pub mod Borrowing
pub mod Layers
pub mod Sent
