pub mod Acting
pub mod Calling
