pub mod Firing
pub mod Soonest
pub mod Chains
pub mod Walks
