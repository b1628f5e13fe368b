pub mod Record
pub mod Pairs
