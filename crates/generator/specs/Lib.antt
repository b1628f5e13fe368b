pub mod Generator
pub mod Held
