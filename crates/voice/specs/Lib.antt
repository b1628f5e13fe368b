pub mod Frame
pub mod Slot
pub mod Told
