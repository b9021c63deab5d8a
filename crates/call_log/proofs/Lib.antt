pub mod FieldLaws
pub mod Options
