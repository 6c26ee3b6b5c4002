pub mod Texts
pub mod Machine
pub mod Gaps
pub mod Answers
pub mod Theorems
pub mod Left
