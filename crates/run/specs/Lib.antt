-- What a run over an event list is given, and what it returns and leaves.
pub mod Events
