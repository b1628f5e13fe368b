pub mod Cases
pub mod SizeLaws
