pub mod OnlyMessages
pub mod Copies
pub mod Gates
pub mod Layer
pub mod Smooth
pub mod Sumcheck
pub mod Degree
pub mod Layers
pub mod Sound
pub mod Complete
pub mod Main
pub mod Examples
mod Instances
