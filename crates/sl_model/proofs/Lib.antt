mod Rows
pub mod Meanings
pub mod Values
pub mod PagesLaws
pub mod MarksLaws
pub mod Memory
pub mod Steps
pub mod Counted
pub mod Fitting
pub mod Mapping
pub mod WholePages
pub mod RunsLaws
pub mod UndoLaws
mod BankRows
