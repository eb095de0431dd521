-- Laws of arrays and of the free pieces, and the proofs of the functions.
pub mod FirstTaken
pub mod FoundPieces
pub mod DueHeights
pub mod PairPlaces
pub mod BuddyPlaces
pub mod PieceTaken
pub mod LaidMore
pub mod PiecesLaid
pub mod GapRuns
pub mod HeldGaps
pub mod GapSteps
