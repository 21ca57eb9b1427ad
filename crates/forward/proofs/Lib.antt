pub mod Steps
pub mod Theory
