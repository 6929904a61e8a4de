pub mod Lexicographic
pub mod LexicographicLaws
pub mod ByActions
