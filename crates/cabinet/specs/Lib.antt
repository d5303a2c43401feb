pub mod Epochs
pub mod Records
pub mod Steps
pub mod Soundness
