-- What start, open and close promise. Read in this order.
pub mod Step
pub mod Calls
