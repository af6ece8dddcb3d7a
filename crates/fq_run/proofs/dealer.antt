-- Lemmas on the thread that reads.
pub mod DealerLemmas
