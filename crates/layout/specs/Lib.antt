-- What laying a report out promises. Read in this order.
pub mod Links
pub mod Layout
