-- What is done to all words of a buffer alike.
pub mod Gates
