pub mod Folds
mod Merging
mod Rests
mod Pieces
pub mod Plain
pub mod Meant
pub mod Parted
mod Due
mod Risen
mod Paired
