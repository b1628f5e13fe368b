pub mod Name
pub mod Entry
