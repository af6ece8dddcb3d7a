pub mod RunLemmas
pub mod FrontLemmas
pub mod TwoTextLemmas
pub mod InterleavedLemmas
pub mod PartLemmas
pub mod WorkedExamples
