-- What is promised of a printout that is given to C.
pub mod Given
