pub mod Circuit
pub mod Words
pub mod Parts
pub mod Reading
pub mod Split
pub mod Theorems
pub mod Values
pub mod Views
