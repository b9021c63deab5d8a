pub mod Parts
pub mod Numbers
pub mod Orders
pub mod Working
pub mod Views
