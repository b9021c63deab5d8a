pub mod Configuration
pub mod Code
pub mod Jumps
pub mod Ways
