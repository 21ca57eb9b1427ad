-- The function that a point calls, as one number.
use Rattle.std.specs.Prelude.{ℕ}
use Rattle.std.proofs.Math.Option.{Option, none, some}
use Rattle.model.specs.Limits.{most_funcs}

-- most_funcs stands for none
abbrev pub numbered : Option ℕ → ℕ
numbered none = most_funcs
numbered (some g) = g
