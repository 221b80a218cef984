-- What a report is answered, and the elements that it holds.
pub mod Report
pub mod Elements
