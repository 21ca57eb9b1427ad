-- Callees: the callees of a function from its last point on. Minimax: d by the lowest level. Displaces: one function more.
pub mod Callees
pub mod Minimax
pub mod Displaces
