-- Tags and what they open, and the tag that a report's record is.
pub mod Tags
pub mod Record
pub mod Taken
