pub mod Trees
pub mod Heaps
pub mod Entering
pub mod Following
pub mod Ways
pub mod Rings
pub mod Showing
pub mod Formulas
