pub mod Cases
pub mod Service
