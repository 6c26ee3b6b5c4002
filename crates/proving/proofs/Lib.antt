pub mod SpeakSteps
pub mod Splitting
pub mod Written
pub mod ProveSteps
pub mod Believed
