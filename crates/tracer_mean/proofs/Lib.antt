pub mod Halting
mod Storing
pub mod Turning
pub mod Entering
pub mod Functions
mod Loops
mod Recorded
