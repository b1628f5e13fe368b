pub mod NumberLaws
pub mod RowLaws
pub mod CallLaws
pub mod PacketLaws
