pub mod HearingLaws
pub mod HeardLaws
pub mod KeepingLaws
