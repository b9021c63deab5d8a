pub mod Onward
mod AtEnd
pub mod InRun
pub mod OpeningPages
pub mod OpeningStack
pub mod LoadedSteps
pub mod Opens
pub mod OpeningBytes
mod OpeningRows
pub mod States
pub mod Answered
pub mod Marked
pub mod Calls
mod Copied
mod Asked
mod Came
