pub mod Field
pub mod Cipher
pub mod Prepared
