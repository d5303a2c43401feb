pub mod Worked
pub mod Served
