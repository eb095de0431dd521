-- The laws of the text for an input.
pub mod InputText
pub mod ReadText
