-- Definitions only: what storing and loading promise.
pub mod Store
