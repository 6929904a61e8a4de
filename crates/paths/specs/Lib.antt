pub mod Marked
pub mod Cores
pub mod Asking
