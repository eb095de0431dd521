-- The laws of the loader, by subject.
pub mod Places
pub mod Runs
pub mod Files
pub mod Entering
pub mod EntryRuns
pub mod Filled
pub mod Early
pub mod Whole
pub mod Tabled
pub mod ZeroBytes
pub mod Judging
