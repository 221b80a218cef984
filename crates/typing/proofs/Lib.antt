-- The laws behind the writer, in the order in which they build on each other.
pub mod Trees
pub mod Below
pub mod Writer
pub mod Whole
pub mod Answered
