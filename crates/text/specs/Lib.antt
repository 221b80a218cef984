-- What the program prints. Read in this order.
pub mod Decimal
pub mod Text
pub mod Lines
pub mod Rendered
pub mod Writing
