pub mod Gathering
pub mod FrontSteps
pub mod WeightLists
