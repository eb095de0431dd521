-- Lists of few pieces, their orders, and places in a list. Definitions only.
pub mod Few
pub mod Orders
pub mod Places
