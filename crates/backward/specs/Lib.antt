-- The problem that the kernel solves, and the rounds that solve it.
pub mod Backward
pub mod Rounds
