-- The dearest points of a task (document 02, request 2): the program points with the highest cache-related preemption delay. They are the first ten of the
-- report's records in another order, a line each.
use Rattle.std.specs.Prelude.{ℕ, Bool, List, [], ◌∷◌, take, ltb}
use Rattle.model.specs.Limits.{most_dearest}
use Rattle.model.specs.Basic.{joined, smaller_first, larger_first, sorted}
use Rattle.model.specs.Text.{bytes}
use Rattle.model.specs.Task.{Task}
use Rattle.model.specs.Sheet.{Sheet, priced_sheet, Record, records_of, line_text}

-- the order of the report: by function, then by point
abbrev pub placed_before : Record → Record → Bool
placed_before x y = smaller_first x.fn y.fn (ltb x.at y.at)

-- the order of equal costs: by falling save, then that of the report (document 02, request 10)
abbrev pub saved_before : Record → Record → Bool
saved_before x y = larger_first x.figures.save y.figures.save (placed_before x y)

-- the order of the list: by falling cost, then that of equal costs
unfoldable pub dearer : Record → Record → Bool
dearer x y = larger_first x.figures.cost y.figures.cost (saved_before x y)

-- the first ten in that order, or all if there are fewer
unfoldable pub dearest : List Record → List Record
dearest l = take most_dearest (sorted dearer l)

unfoldable pub dear_text : Record → List ℕ
dear_text x = line_text (bytes "(dear") (x.fn ∷ x.at ∷ x.figures.cost ∷ [])

unfoldable pub dearest_with : Task → Sheet → List ℕ
dearest_with t s = joined dear_text (dearest (records_of t s))

abbrev pub dearest_text : (ℕ → ℕ) → Task → List ℕ
dearest_text price t = dearest_with t (priced_sheet price t)
