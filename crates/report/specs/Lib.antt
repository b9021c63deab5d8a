pub mod Report
pub mod Lines
pub mod Status
pub mod Writing
pub mod Pieces
pub mod RunEnd
pub mod Table
