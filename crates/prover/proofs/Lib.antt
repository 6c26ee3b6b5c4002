pub mod Telling
pub mod PartSteps
pub mod PartsPassed
pub mod ProverSteps
pub mod ProverSays
pub mod ProverHears
pub mod LayerBelow
pub mod OpeningSteps
