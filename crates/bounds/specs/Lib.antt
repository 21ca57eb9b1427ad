-- Where the columns of what the sheet allows stand, and what it means that they do.
pub mod Bounds
