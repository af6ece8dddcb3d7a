mod WordLemmas
mod WorkedExamples
mod RunLemmas
mod RowLemmas
mod DecimalLemmas
mod OptionLemmas
mod CommandLineLemmas
