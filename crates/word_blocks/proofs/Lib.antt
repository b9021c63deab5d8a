pub mod Instructions
pub mod Bytes
pub mod CodeLaws
pub mod Ways
pub mod Blocks
pub mod Jumps
pub mod Ends
pub mod PuttingBack
pub mod Following
mod Rows
