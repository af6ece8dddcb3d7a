pub mod ReadLemmas
pub mod PieceLemmas
pub mod TextLemmas
pub mod CountLemmas
pub mod InStepLemmas
pub mod ReportLemmas
pub mod WorkedExamples
