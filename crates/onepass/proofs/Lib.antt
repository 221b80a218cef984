-- The laws of the one-pass engine. Read in this order.
pub mod CallLaws
pub mod Only
pub mod Agrees
