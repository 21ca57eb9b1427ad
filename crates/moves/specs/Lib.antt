-- What the events that move blocks are given and do.
pub mod Moves
