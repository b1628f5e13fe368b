pub mod Keys
pub mod Keystream
pub mod DesEngines
