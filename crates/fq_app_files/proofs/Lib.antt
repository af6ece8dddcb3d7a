pub mod EndingLemmas
pub mod FiledLemmas
pub mod LeavingLemmas
pub mod StoreLemmas
mod RestLemmas
pub mod MakingLemmas
mod TextLemmas
mod ReportingLemmas
mod CountingLemmas
pub mod FailureLemmas
pub mod CompletingLemmas
pub mod OpeningLemmas
pub mod SaidLemmas
mod WorkedExamples
