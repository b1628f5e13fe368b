pub mod Counts
pub mod Call
pub mod Opening
pub mod Vector
