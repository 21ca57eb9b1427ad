-- Readable has one proof at most, so that a struct can carry it.
use Rattle.std.specs.Prelude.{ℕ, List}
use Rattle.std.specs.Coded.{le_prop}
use Rattle.std.proofs.Math.Dec.{T_prop}
use Rattle.std.proofs.Math.Nat.{ℕ_set}
use Rattle.tables.specs.declared.Header.{Header}
use Rattle.tables.specs.Unique.{stacked_prop}
use Rattle.prices.specs.declared.Price.{Price}
use Rattle.readout.specs.Readable.{Readable}

pub readable_prop : (price : Price) (w : List ℕ) (h : Header) → IsProp (Readable price w h)
readable_prop price w h = Prim.hlevel (le_prop, ℕ_set, T_prop, stacked_prop)
