pub mod Links
pub mod Runs
pub mod Laws
pub mod Orders
