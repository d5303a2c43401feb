pub mod Digits
pub mod Journals
pub mod ListTrips
pub mod Masks
pub mod Places
pub mod Replacements
pub mod Trips
