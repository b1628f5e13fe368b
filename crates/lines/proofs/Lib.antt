pub mod PairLaws
pub mod RecordLaws
pub mod LineLaws
pub mod PrintedLaws
pub mod CanonicalLaws
pub mod Examples
