-- Laws of choices, and the proofs of the functions.
pub mod IdPlaces
pub mod CountedCopies
pub mod ChoosingSteps
pub mod WhichJudged
