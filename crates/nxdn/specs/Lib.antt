pub mod Operations
pub mod Lent
pub mod Shown
pub mod Interface
pub mod InTurn
