pub mod Tokens
pub mod Runs
pub mod FirstPass
pub mod Nodes
