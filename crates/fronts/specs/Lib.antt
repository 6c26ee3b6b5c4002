pub mod Gathers
pub mod Picks
