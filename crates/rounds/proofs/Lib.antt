pub mod AlongPlaces
pub mod CopyRound
pub mod FourSteps
pub mod Halves
pub mod RowSteps
pub mod RoundSums
pub mod RoundSteps
