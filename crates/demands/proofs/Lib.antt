-- What the calls say together, and the statements of the page, each proved from laws below.
pub mod Follows
pub mod Readers
pub mod Marks
pub mod Steps
pub mod Same
pub mod Verdicts
pub mod Written
pub mod Prints
pub mod Page
pub mod Samples
