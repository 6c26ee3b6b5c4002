pub mod Claims
pub mod Sumcheck
pub mod Argument
pub mod Honest
pub mod Promise
pub mod Transcript
pub mod Examples
pub mod Instances
