-- Laws of the printout for C: one for each return; then one result only, and each refusal exactly when.
pub mod Given
pub mod Only
