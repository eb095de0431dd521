-- Definitions only: the disk, the calls and their outcomes, the plain book, and the claim about every list of
-- calls.
pub mod Disk
pub mod Call
pub mod Conditions
pub mod Outcomes
pub mod Arguments
pub mod Table
pub mod BookLetters
pub mod Book
pub mod WholeList
pub mod Printing
pub mod Changes
pub mod Formatting
pub mod Claimed
pub mod Cases
