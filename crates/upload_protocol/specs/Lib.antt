pub mod Drawings
pub mod Actions
pub mod Parts
pub mod Protocol
