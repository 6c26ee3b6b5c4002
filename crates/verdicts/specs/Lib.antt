pub mod Machine
pub mod Shown
pub mod Theorems
pub mod Soundness
pub mod Examples
