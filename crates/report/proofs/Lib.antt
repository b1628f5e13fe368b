pub mod SumLaws
pub mod ReportLaws
pub mod Examples
