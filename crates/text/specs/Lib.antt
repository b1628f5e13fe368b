pub mod Parted
pub mod Decimal
pub mod Hex
pub mod Fields
pub mod Walked
pub mod Reader
pub mod Responded
