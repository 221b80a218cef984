-- Laws that the functions' proofs cite, and those for the layers above. Read in this order.
pub mod LinkLaws
pub mod LayoutLaws
pub mod Only
