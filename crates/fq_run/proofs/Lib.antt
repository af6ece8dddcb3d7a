pub mod DealLemmas
pub mod EachLemmas
pub mod StartLemmas
pub mod MatchLemmas
