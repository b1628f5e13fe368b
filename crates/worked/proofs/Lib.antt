pub mod DesBlocks
pub mod AesBlocks
