-- The laws of the exported calls, by subject.
pub mod CodesApart
mod Within
mod Promising
pub mod CodesOfBook
pub mod ExportedList
pub mod CodeWords
pub mod CodeClaims
pub mod CodeOfWhich
