-- Laws of the room that a text needs and of its lines, and the proofs of the functions.
pub mod Rows
pub mod TextRoom
pub mod FileLines
pub mod SoundTables
