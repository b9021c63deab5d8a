pub mod Opening
pub mod RecordedRun
pub mod Memory
pub mod Marked
pub mod Putting
pub mod Versions
pub mod OneProof
