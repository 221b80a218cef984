-- What is promised of a typed rule; and what the writer's functions ask and promise.
pub mod Typed
pub mod Writing
