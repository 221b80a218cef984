-- What the program prints for an input. Read in this order.
pub mod Input
pub mod Output
