pub mod Numbers
pub mod Counting
pub mod Cubic
pub mod Theorems
