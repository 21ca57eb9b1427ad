-- What is known of the callees of a function, and of the functions that have D, d and their levels.
pub mod Range
pub mod Ordered
