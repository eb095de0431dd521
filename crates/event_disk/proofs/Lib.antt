-- The laws of the eight calls, by subject.
pub mod Entering
pub mod WithinLimits
pub mod FormatOutcome
pub mod ReplaceOutcome
