-- What one walk of a rule gives.
pub mod Walk
pub mod Visitors
