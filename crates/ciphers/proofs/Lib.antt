pub mod KeyLaws
pub mod Chained
pub mod CarriedFeedback
pub mod EngineLaws
pub mod KeystreamLaws
pub mod OtherEngines
