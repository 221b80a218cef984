-- The laws of a walk. Read in this order.
pub mod WalkLaws
pub mod Only
