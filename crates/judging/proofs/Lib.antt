pub mod Driven
pub mod Walking
pub mod Measuring
pub mod Judged
