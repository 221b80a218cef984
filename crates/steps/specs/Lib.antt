-- What is put at one element: nothing here has to be believed, since the marking's own promise cites none of it.
pub mod Steps
