-- What the printer leaves in the output buffer.
pub mod Print
pub mod Wrote
pub mod Sink
pub mod Sinks
