-- The rank of a record, and the list of the dearest points by their ranks.
pub mod Ranking
