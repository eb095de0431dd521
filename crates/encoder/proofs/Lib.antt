-- The laws of storing and loading, by subject.
pub mod StoreWritten
pub mod StoreLists
pub mod StoreEntry
pub mod StoreTable
