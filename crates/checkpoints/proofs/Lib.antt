pub mod Chains
pub mod Listings
pub mod Options
pub mod Missing
pub mod Lists
pub mod FirstPage
pub mod Sizes
pub mod Compared
pub mod Marked
pub mod Puts
pub mod Opened
pub mod SmallMemory
mod Rows
