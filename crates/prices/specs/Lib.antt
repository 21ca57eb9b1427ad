-- What the price of a move is, and how large it can be.
pub mod Prices
