-- Definitions only: what the nine calls promise beside their outcomes, and what opening a catalogue promises.
pub mod Limit
pub mod Opening
