pub mod Tallies
pub mod Laws
pub mod Results
