-- The readers' specification. Read in this order.
pub mod Reply
