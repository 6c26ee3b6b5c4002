pub mod Sums
pub mod Gathered
pub mod Meaning
pub mod Shares
pub mod Messages
pub mod Drawing
