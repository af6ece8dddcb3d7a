-- Lemmas on the lanes.
pub mod LaneLemmas
