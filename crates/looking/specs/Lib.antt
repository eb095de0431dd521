-- Definitions only: what the calls that only look ask for and promise.
pub mod Opened
pub mod FileIds
