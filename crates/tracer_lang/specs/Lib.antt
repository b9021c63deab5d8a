pub mod Tree
pub mod Limits
pub mod OneProof
pub mod Script
pub mod Meaning
pub mod Loops
pub mod Firing
