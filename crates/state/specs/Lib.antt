-- The state's bytes, and what start, an opening and a closing promise of them. Read in this order.
pub mod Layout
pub mod State
pub mod Stores
pub mod Promises
pub mod Front
