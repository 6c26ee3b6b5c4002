pub mod Proves
