-- Where the columns stand and what each has; the numbers that the points are given from them; an accepted task with D and d of its functions.
pub mod Columns
pub mod Values
pub mod Displaced
