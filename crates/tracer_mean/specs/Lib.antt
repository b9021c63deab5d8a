pub mod Evaluated
pub mod Apart
