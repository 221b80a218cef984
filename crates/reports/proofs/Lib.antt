-- The laws behind the report reader, in the order in which they build on each other.
pub mod ReportLaws
pub mod ElementLaws
pub mod Only
