pub mod Driving
pub mod Checks
