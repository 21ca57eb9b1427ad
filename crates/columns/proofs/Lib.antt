pub mod Writes
pub mod Values
pub mod Raises
pub mod Within
pub mod Limits
