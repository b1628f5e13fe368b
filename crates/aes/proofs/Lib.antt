pub mod FieldLaws
pub mod WordLaws
pub mod StateLaws
pub mod ColumnLaws
pub mod ScheduleLaws
pub mod PreparedLaws
