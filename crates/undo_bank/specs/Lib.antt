pub mod Dense
pub mod Written
pub mod Areas
pub mod Fields
