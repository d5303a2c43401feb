pub mod Stations
pub mod Calls
