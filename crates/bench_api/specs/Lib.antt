pub mod Asking
pub mod Marks
pub mod Reading
pub mod Studying
