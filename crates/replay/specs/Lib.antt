pub mod Opening
pub mod Calls
pub mod Run
pub mod Breaks
pub mod Advance
