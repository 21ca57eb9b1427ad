pub mod Reach
pub mod Sweep
pub mod Calls
