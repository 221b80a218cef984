-- What is general about tests, lists and numbers.
pub mod First
pub mod Tells
pub mod Lists
pub mod ByteLaws
pub mod TwoBytes
pub mod BitLaws
pub mod WithBit
pub mod Masks
pub mod Only
