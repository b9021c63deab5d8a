pub mod Encoding
pub mod Places
pub mod Labels
pub mod Lines
pub mod Output
pub mod Assembly
pub mod Passes
