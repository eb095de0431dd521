-- Laws of tables, and the proofs of the functions.
pub mod SoundStock
pub mod MappedPlaces
pub mod MapFirst
pub mod EachKept
pub mod FileLists
pub mod FreeLists
pub mod Released
pub mod LookUps
pub mod MergedTable
pub mod NextPair
pub mod ReadyPairs
pub mod TableSteps
