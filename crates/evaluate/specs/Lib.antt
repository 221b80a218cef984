-- How many places the evaluator's columns have. Its promise is `Evaluated`, of marking's specs/Evaluation.antt.
pub mod Columns
