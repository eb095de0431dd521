-- The laws of the calls that only look, by subject.
pub mod LookedUp
pub mod LookChecks
pub mod LookJudged
pub mod ReadJudged
pub mod FreeSum
