pub mod ResultLemmas
pub mod PlusLaws
pub mod WorkedExamples
