-- The state of a run in the working space, and what a step does to it.
pub mod Frames
pub mod Steps
