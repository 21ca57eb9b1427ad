-- What the first line of a text is, and the patterns by which it is read.
pub mod Lines
pub mod Patterns
