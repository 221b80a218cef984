-- Proofs of the printout: the input's two halves, then the text of what is decided of them.
pub mod SplitLaws
pub mod PrintoutLaws
pub mod Enough
