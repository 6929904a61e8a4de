mod Buildings
mod Choices
mod Complete
pub mod Decoding
pub mod Entries
mod Findings
mod Layings
mod Lexing
mod LongestRuns
mod Measures
pub mod Readings
mod Runs
mod Sound
mod Stages
pub mod Standing
