-- The laws of the calls' code, by subject.
pub mod Refusing
pub mod TakenOut
pub mod Removals
pub mod Placing
pub mod AddChecks
pub mod AddJudged
pub mod ContentLetter
pub mod ReplaceJudged
pub mod Exchanged
pub mod FreshPieces
