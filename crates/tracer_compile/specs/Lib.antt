pub mod Roles
pub mod Blocks
pub mod Code
pub mod Scopes
pub mod Script
