-- The laws of merging to the end.
pub mod MadeMerges
pub mod Settling
pub mod PlanSteps
