-- The laws of the shared terms, in the order in which they build on each other.
pub mod AnswerLaws
pub mod FaultLaws
pub mod KindLaws
pub mod Rows
pub mod FrameLaws
pub mod Reading
pub mod Only
