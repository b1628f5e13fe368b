pub mod Number
pub mod Call
pub mod Packet
