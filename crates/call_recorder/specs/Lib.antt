pub mod Listing
pub mod Recut
pub mod Answered
pub mod Recorded
pub mod Kept
pub mod Lives
pub mod Replayed
