pub mod Views
pub mod Places
pub mod Kept
pub mod Changed
pub mod Mapped
pub mod Loaded
