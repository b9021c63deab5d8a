pub mod MarkedPages
pub mod DirtyWalk
pub mod Linked
pub mod Fields
