-- What run does with a text that is judged.
pub mod Performs
