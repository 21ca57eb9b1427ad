-- Which functions are called, and which have a mark.
use Rattle.std.specs.Prelude.{ℕ, Bool, false, List, get_or}
use Rattle.model.specs.Walk.{called, is}
use Rattle.tables.specs.Tables.{point_at}

-- point i of the tables w calls function f; function f has a mark
abbrev pub calls_at : List ℕ → ℕ → ℕ → Bool
calls_at w f i = is f (called (point_at w i))

abbrev pub mark_of : List Bool → ℕ → Bool
mark_of marks f = get_or marks f false
