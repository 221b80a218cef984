-- The entry that a rule's record is, and the number that it gets.
pub mod Entry
pub mod Taken
