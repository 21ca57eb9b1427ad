-- The sum of two prices, each of a move of its own.
use Prim.Native.Nat.{◌+◌}
use Rattle.prices.proofs.moves_price.Goals as goal

pub returns : goal.returns
returns c = λ i. c.of_move.ensures.0 i + c.of_move-2.ensures.0 i
