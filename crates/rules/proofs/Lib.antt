-- The laws behind the rule reader, in the order in which they build on each other.
pub mod RuleLaws
pub mod EntryLaws
pub mod Only
