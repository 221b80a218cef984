-- What the evaluator's columns come to. For the rest see marking.
pub mod Enough
