-- The laws of what the readers accept and refuse. Read in this order.
pub mod Chain
pub mod Frame
pub mod Decides
pub mod WhenRule
pub mod RuleRecord
pub mod Entries
pub mod Table
pub mod Rules
pub mod TagRows
pub mod Fits
pub mod Trees
pub mod WhenReport
pub mod Refusals
pub mod ReportBytes
pub mod Begins
pub mod Elements
pub mod Sizes
