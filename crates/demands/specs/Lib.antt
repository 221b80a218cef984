-- What must be believed, and the documents' cases as bytes.
pub mod Demands
pub mod Samples
