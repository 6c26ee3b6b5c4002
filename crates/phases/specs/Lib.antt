pub mod Standing
pub mod References
