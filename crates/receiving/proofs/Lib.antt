pub mod Naming
pub mod Answering
pub mod Passing
