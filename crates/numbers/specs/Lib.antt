-- Numbers as bytes and bits, values in lists, and the first number that passes a test.
pub mod Lists
pub mod Bytes
pub mod Bits
pub mod First
