-- Runs on the core of document 01, and runs on the core with a lazy pointer; the empty text; whole texts at the limits.
pub mod Runs
pub mod LazyRuns
pub mod Without
pub mod Limits
