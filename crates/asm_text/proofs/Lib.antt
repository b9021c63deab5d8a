pub mod Finds
pub mod Pieces
pub mod Labels
pub mod Decimals
pub mod LoadImmediates
mod Digits
