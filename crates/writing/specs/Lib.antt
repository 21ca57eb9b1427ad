-- The bytes of a task that a service writes.
pub mod Printing
