pub mod Steps
pub mod Writes
pub mod Sweeps
pub mod Operators
pub mod Marking
