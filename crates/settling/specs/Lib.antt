-- What merging to the end asks for and promises. Definitions only.
pub mod Settling
pub mod Planning
