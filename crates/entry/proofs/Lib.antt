-- The laws behind taking a record as an entry.
pub mod TakenLaws
pub mod Only
