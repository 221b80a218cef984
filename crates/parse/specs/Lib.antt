-- The table that a text's tree is noted in, and what the parsers promise.
pub mod Rows
pub mod Promises
