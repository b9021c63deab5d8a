pub mod Source
pub mod Generated
pub mod Laws
