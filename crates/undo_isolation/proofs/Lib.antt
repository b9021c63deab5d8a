pub mod Ends
pub mod Starts
pub mod Meant
pub mod Words
pub mod Readied
pub mod Restored
