pub mod EntryLaws
pub mod RightLaws
pub mod PlaceLaws
pub mod NameLaws
pub mod WriteLaws
