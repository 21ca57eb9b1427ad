-- An accepted task whose functions from f on have D, d and their levels.
use Rattle.std.specs.Prelude.{ℕ, List}
use Rattle.model.specs.Figures.{shortest}
use Rattle.tables.specs.declared.Header.{Header}
use Rattle.tables.specs.Tables.{task_of}
use Rattle.columns.specs.Displaced.{Displacing}
use Rattle.levels.specs.Levels.{Levelled}

pub record Ordered (w : List ℕ) (h : Header) (f : ℕ) : Type 0 where
  pub displacing : Displacing w h f
  pub levels : Levelled (shortest (task_of w h)) f h.funcs w
