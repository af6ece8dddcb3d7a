pub mod Shares
pub mod Each
pub mod lanes
pub mod dealer
pub mod crew
pub mod collector
pub mod Doing
pub mod Waiting
pub mod Confirming
pub mod Threads
-- Definitions of `fq_run_core` that callers of a run name.
pub use Rattle.fq_run_core.specs.Choices
pub use Rattle.fq_run_core.specs.Devices
pub use Rattle.fq_run_core.specs.Endings
pub use Rattle.fq_run_core.specs.Fates
pub use Rattle.fq_run_core.specs.Outcomes
pub use Rattle.fq_run_core.specs.declared.outcome.Outcome
pub use Rattle.fq_run_core.specs.declared.settings.BadSetting
