pub mod Weights
pub mod Gathering
pub mod Cutting
pub mod PointParts
pub mod Adding
pub mod Wires
pub mod Summing
