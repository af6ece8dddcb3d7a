mod AnswerLemmas
pub mod CallLemmas
mod ExampleLemmas
pub mod FileLemmas
