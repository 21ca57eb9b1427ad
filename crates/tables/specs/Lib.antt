-- Where the tables stand, the task that they hold, and when they hold one.
pub mod Layout
pub mod Tables
pub mod Valid
pub mod Unique
