pub mod Refusing
pub mod Finishing
pub mod Wording
pub mod Hands
