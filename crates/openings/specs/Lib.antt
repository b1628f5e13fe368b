pub mod Ladder
pub mod Samples
