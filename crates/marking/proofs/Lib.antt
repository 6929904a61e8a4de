pub mod Markings
pub mod Operators
pub mod Orders
pub mod Rightly
pub mod Slots
pub mod Sweeping
pub mod Turning
pub mod Writing
