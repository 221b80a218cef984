-- The laws of the state's bytes. Read in this order.
pub mod RunLaws
pub mod GoodLaws
pub mod StateLaws
pub mod NumberLaws
pub mod WrittenLaws
pub mod Only
pub mod Parts
