-- Rules typed as paths. Read in this order.
pub mod Syntax
pub mod Spelling
pub mod Selection
pub mod Translation
pub mod Table
pub mod Answer
