pub mod VectorLaws
mod Register
pub mod NotZero
pub mod OwnNext
pub mod Examples
