-- What stands at a cursor, told by the bytes from there.
pub mod Words
pub mod Begins
