pub mod Book
pub mod Lookup
pub mod Operations
pub mod Screen
pub mod History
