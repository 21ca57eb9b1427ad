-- The price of moves as the code has it, and how large it can be.
use Rattle.std.specs.Prelude.{if◌then◌else◌, ℕ, ◌+◌, ◌*◌, ◌≤◌, eqb}
use Rattle.model.specs.Limits.{most_stack, most_start, most_each}
use Rattle.model.specs.Sheet.{move_price}
use Rattle.prices.specs.declared.Price.{Price}

abbrev pub price_of : Price → ℕ → ℕ
price_of x n = move_price x.start x.each n

-- what a move costs before its first block
unfoldable pub start_of : Price → ℕ → ℕ
start_of x n = if eqb n 0 then 0 else x.start

-- what row 23 leaves, as far as a sum of prices needs it
pub record Small (x : Price) : Type 0 where
  pub start : x.start ≤ most_start
  pub each : x.each ≤ most_each

-- the price of a move of a whole cache, at most
abbrev pub most_price : ℕ
most_price = most_start + most_each * most_stack
