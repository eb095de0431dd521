-- Definitions only: what the functions ask for and promise.
pub mod DiskCode
pub mod Runs
