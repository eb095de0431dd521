-- What is proved of the crate's definitions.
pub mod ConditionNumbers
