-- Laws that the functions' proofs cite, and those for the layers above. Read in this order.
pub mod PassLaws
pub mod StepLaws
pub mod AheadLaws
pub mod KindLaws
pub mod AnswerLaws
pub mod Only
pub mod Means
