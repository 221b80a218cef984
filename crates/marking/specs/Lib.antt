-- The marking's promise, and what its passes are. Read Evaluation first; the others are the passes' own.
pub mod Evaluation
pub mod Pass
pub mod Given
pub mod Steps
