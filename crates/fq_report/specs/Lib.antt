pub mod Values
pub mod Facts
pub mod Reports
pub mod Parts
