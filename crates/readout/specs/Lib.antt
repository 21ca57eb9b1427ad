-- The sheet that stands in the columns, and what a reader of them relies on.
pub mod Sheet
pub mod Readable
pub mod Unique
pub mod View
