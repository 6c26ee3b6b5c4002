pub mod Phases
pub mod Rows
pub mod Fours
