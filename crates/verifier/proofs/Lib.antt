pub mod Limits
pub mod PointParts
pub mod Reading
