pub mod BatchLaws
pub mod KeepLaws
pub mod StepLaws
