-- What the crate's contracts cite. Definitions only.
pub mod Limits
pub mod Heights
pub mod Sections
pub mod Nesting
