pub mod Multilinear
pub mod Theorems
pub mod InPlace
