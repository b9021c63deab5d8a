pub mod PageSet
pub mod LoadableLaws
pub mod FlatLaws
pub mod Ends
mod PageLaws
pub mod CheckLaws
pub mod HeaderLoop
mod Offsets
mod SymbolLoops
mod Names
mod WrittenLengths
mod Stands
mod WrittenParts
mod WrittenHeader
mod WrittenSegments
mod WrittenSymbols
mod WrittenImage
mod SmallImage
pub mod LoadedLaws
pub mod Bytes
pub mod ElfLaws
