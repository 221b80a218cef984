-- The own entries of a part of a text; what is promised of putting them; of each step of the writer; and tables that a buffer is filled with.
pub mod Forms
pub mod Promises
pub mod Writing
pub mod Filled
