pub mod Sequence
pub mod Held
