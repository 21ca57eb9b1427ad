-- What one event does.
pub mod Turns
