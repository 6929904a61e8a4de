pub mod Filling
pub mod Listed
pub mod Bitwise
pub mod Adding
