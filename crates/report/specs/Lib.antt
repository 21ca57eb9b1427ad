-- The lines of a report, counted, and what a line is printed from.
pub mod Report
