-- The answers of the reader as functions of the definitions in model.
pub mod Answers
