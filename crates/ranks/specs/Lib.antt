-- The highest ranks of those met so far.
pub mod Ranks
