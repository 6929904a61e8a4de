pub mod Lines
pub mod Models
pub mod Texts
pub mod Airtimes
pub mod Listing
pub mod Steps
pub mod Laws
pub mod Printing
