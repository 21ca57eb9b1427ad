pub mod Points
pub mod Theory
pub mod Answers
pub mod Rows
pub mod Called
