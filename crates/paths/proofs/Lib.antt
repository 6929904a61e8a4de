pub mod Bridging
pub mod Answering
