-- What the state's numbers are asked and become, without its bytes.
pub mod Fields
