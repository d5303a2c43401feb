pub mod Configurations
pub mod Tests
