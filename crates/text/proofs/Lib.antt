-- The laws behind the text, in the order in which they build on each other.
pub mod DecimalLaws
pub mod TextLaws
pub mod Told
pub mod PutLaws
pub mod Room
pub mod Cases
