-- The terms that every layer shares.
pub mod Limits
pub mod Answer
pub mod Kinds
pub mod Frame
