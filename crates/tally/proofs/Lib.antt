-- The tally's laws.
pub mod Laws
