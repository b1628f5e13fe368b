pub mod NumberLaws
pub mod OutcomeLaws
pub mod OrderLaws
pub mod TableLaws
pub mod ResultLaws
