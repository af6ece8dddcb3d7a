pub mod WorkedExamples
pub mod PackingLemmas
pub mod BlockLemmas
