pub mod LadderLaws
pub mod BegunLaws
pub mod ReadyLaws
