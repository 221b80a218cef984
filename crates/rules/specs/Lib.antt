-- What a rule is answered, and the entries that it holds.
pub mod Rule
pub mod Entries
