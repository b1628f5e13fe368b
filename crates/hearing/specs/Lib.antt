pub mod Hearing
pub mod Heard
