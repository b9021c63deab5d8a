pub mod LeastLemmas
pub mod Placed
pub mod Rows
pub mod Theorem
