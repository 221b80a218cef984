-- The laws of rules typed as paths. Read in this order.
pub mod Holds
pub mod While
pub mod Agrees
pub mod Pairs
pub mod Rule
pub mod BackOnly
pub mod Table
pub mod Unambiguous
pub mod Machine
pub mod Ahead
pub mod Complete
pub mod Sound
pub mod Place
pub mod Places
pub mod Descent
pub mod Count
pub mod Answer
