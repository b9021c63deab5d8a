pub mod FileListLemmas
pub mod Hearing
pub mod WorldRows
pub mod WrittenLemmas
