pub mod Provers
