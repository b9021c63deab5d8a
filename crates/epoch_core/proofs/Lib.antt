pub mod Lists
mod Rows
pub mod Sound
pub mod Steps
