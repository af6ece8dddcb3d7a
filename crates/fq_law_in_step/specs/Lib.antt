pub mod Pieces
pub mod InStep
pub mod Everything
pub mod Reports
pub mod ReportLists
pub mod FourLines
