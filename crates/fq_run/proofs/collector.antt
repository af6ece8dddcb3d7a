-- Lemmas on the thread that writes.
pub mod CollectLemmas
