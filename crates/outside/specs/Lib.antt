pub mod FaultPlan
pub mod Faults
pub mod FileList
pub mod Files
pub mod InMemory
pub mod World
pub mod Written
