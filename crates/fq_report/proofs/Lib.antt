pub mod StepLemmas
pub mod WorkedExamples
