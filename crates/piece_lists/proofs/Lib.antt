-- Laws of arrays and of insertion by an order, and the proofs of the functions.
pub mod SeenPlaces
pub mod Arrays
pub mod BreakSteps
pub mod EachItem
pub mod Insertion
pub mod PutAmong
pub mod ItemsMoved
pub mod FoundPlaces
