pub mod Silent
pub mod Body
pub mod Program
