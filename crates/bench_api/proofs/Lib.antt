pub mod Rounds
pub mod Entry
pub mod Lines
pub mod Handing
pub mod Told
