-- One result for each promise.
pub mod Only
