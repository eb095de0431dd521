-- Definitions only: the bytes of a catalogue, over a version, and the layout that is read from them.
pub mod Version
pub mod Encoding
pub mod Reading
pub mod Roomy
pub mod Cases
pub mod WrittenFields
pub mod UnsoundRows
pub mod SoundRows
