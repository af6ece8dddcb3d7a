pub mod KeyLemmas
pub mod NodeLemmas
pub mod StateLemmas
mod WorkedExamples
