mod Between
mod Joined
mod Arrived
mod OneRun
mod Values
mod RunEnd
mod Rows
mod Stretch
mod SoFar
mod OneSegment
mod Fired
mod Closing
mod LastLogs
mod AtScript
pub mod Planned
