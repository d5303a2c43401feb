pub mod Messages
