pub mod Meaning
pub mod Steps
pub mod Reading
pub mod Writing
pub mod RoundTrip
pub mod OneReading
pub mod LineByLine
