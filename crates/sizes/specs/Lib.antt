pub mod Ciphers
pub mod Frame
