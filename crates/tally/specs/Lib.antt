-- The tally's specification.
pub mod Tally
