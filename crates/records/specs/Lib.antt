pub mod Step
pub mod Lent
pub mod Answered
pub mod Reader
pub mod Reach
