-- Definitions only: what the code of the calls that change a table asks for and promises.
pub mod Changing
pub mod TakingOut
pub mod Adding
pub mod Replacing
pub mod Fresh
