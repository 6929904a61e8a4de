pub mod Refusals
pub mod Names
pub mod BoundedVec
pub mod Labels
pub mod Listing
pub mod Sets
