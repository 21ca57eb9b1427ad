-- Where each part of the working space begins, and each table and column in it: the tables, the columns of figures, the bounds of a run and its callers.
-- The code has each as a constant of Layout, Columns, Bounds and Frames.
use Rattle.std.specs.Prelude.{ℕ, ◌+◌, ◌*◌}
use Rattle.model.specs.Limits.{most_funcs, most_in_all}

-- ---- the tables: the kinds of the points begin at 0

-- of each point, counted over all functions: its first and its second argument
abbrev pub first_table : ℕ
first_table = most_in_all

abbrev pub second_table : ℕ
second_table = first_table + most_in_all

-- of each function: its frame, the number of its first point, how many points it has
abbrev pub frame_table : ℕ
frame_table = second_table + most_in_all

abbrev pub base_table : ℕ
base_table = frame_table + most_funcs

abbrev pub size_table : ℕ
size_table = base_table + most_funcs

-- the numbers that all tables take
abbrev pub tables_length : ℕ
tables_length = size_table + most_funcs

-- ---- the columns of figures

-- of each point: high, dead, need, q and fill
abbrev pub high_column : ℕ
high_column = tables_length

abbrev pub dead_column : ℕ
dead_column = high_column + most_in_all

abbrev pub need_column : ℕ
need_column = dead_column + most_in_all

abbrev pub next_column : ℕ
next_column = need_column + most_in_all

abbrev pub fill_column : ℕ
fill_column = next_column + most_in_all

-- of each function: D, d, E and the chain
abbrev pub longest_column : ℕ
longest_column = fill_column + most_in_all

abbrev pub shortest_column : ℕ
shortest_column = longest_column + most_funcs

abbrev pub entry_column : ℕ
entry_column = shortest_column + most_funcs

abbrev pub chain_column : ℕ
chain_column = entry_column + most_funcs

-- the level of a function: its rank by d among the functions from it on
abbrev pub level_column : ℕ
level_column = chain_column + most_funcs

-- the numbers that the tables and all columns take
abbrev pub columns_end : ℕ
columns_end = level_column + most_funcs

-- ---- the bounds: what the sheet allows in a run

-- of each point: the cost of a preemption and the fill of an ensure
abbrev pub cost_bounds : ℕ
cost_bounds = columns_end

abbrev pub fill_bounds : ℕ
fill_bounds = cost_bounds + most_in_all

-- of each function: the spill of a call
abbrev pub spill_bounds : ℕ
spill_bounds = fill_bounds + most_in_all

-- the numbers that the tables and all columns take, these too
abbrev pub bounds_end : ℕ
bounds_end = spill_bounds + most_funcs

-- ---- the callers of a run: two numbers for each, its function and its point

abbrev pub frames_at : ℕ
frames_at = bounds_end

abbrev pub frames_end : ℕ
frames_end = frames_at + 2 * most_funcs
