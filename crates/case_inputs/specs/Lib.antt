-- What the crate's contracts cite. Definitions only.
pub mod Refusals
