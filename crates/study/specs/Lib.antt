pub mod Study
pub mod Runs
pub mod Laws
pub mod Orders
pub mod Errors
