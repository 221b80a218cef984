-- What a full read leaves.
pub mod Full
