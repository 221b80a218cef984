-- The laws behind taking a record as a tag, in the order in which they build on each other.
pub mod TagLaws
pub mod RecordLaws
pub mod Only
