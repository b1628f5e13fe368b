pub mod Kinds
pub mod Packet
pub mod Opening
pub mod Message
pub mod Exchange
