pub mod PlaceLemmas
pub mod WordLemmas
pub mod WorkedExamples
pub mod WindowLemmas
pub mod LowEndLemmas
pub mod KeptLemmas
