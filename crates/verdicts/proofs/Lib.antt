pub mod Stepping
pub mod Bridge
pub mod Stopping
pub mod Spoken
pub mod Soundly
pub mod Worked
