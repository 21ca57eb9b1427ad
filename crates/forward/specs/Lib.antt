-- The problem that the kernel solves, and the visits that solve it.
pub mod Forward
pub mod Visits
