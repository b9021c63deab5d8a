mod Skips
mod Within
mod LongestRuns
