pub mod Kind
pub mod Batch
pub mod Told
