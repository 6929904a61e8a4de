pub mod Digits
pub mod Zeros
pub mod Marks
pub mod Rows
pub mod Columns
