pub mod Posts
pub mod Schedule
pub mod Listed
