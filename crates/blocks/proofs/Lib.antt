-- The laws of blocks and pages, by subject.
pub mod DiskStoring
pub mod DiskCopies
pub mod DiskPieces
pub mod PiecesLeft
pub mod DiskWriting
pub mod DiskReading
pub mod RunSteps
pub mod DiskFits
pub mod DiskLetter
