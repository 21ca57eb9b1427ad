-- The rows of the table that a read task, the buffers and an event may meet, and their order.
use Rattle.std.specs.Prelude.{if◌then◌else◌, ℕ, suc, ◌-◌, ◌/◌, ◌%◌, Bool, true, false, not, ◌&&◌, ◌||◌, List, length, leb, ltb, eqb}
use Rattle.std.proofs.Math.Option.{Option, none, some}
use Rattle.model.specs.declared.Point.{Point}
use Rattle.model.specs.declared.Point.TheVariants.{Load, Store, Call, Ensure, Goto, Either, Return}
use Rattle.model.specs.declared.Refusal.{Refusal}
use Rattle.model.specs.declared.Row.TheVariants.{WorkTooSmall, PriceRange, TextTooLong, Callee, Pairing, Target, LastPoint, Unreachable, Uncalled}
use Rattle.model.specs.declared.Row.TheVariants.{Uninitialised, OutputTooSmall, EventList, AnswersTooSmall, CacheSize, MemoryTooSmall}
use Rattle.model.specs.declared.Row.TheVariants.{AfterFinish, Kind, Choice}
use Rattle.model.specs.Limits.{most_bytes, most_event_numbers, most_start, most_each}
use Rattle.model.specs.Rows.{refuse}
use Rattle.model.specs.Basic.{unless, ◌or_else◌, first_of, any, up_to, count_from}
use Rattle.model.specs.Task.{Func, Task, Judged, refused, task, size, count, func, point, stackless, func_line, point_line, read_text}
use Rattle.model.specs.Walk.{loaded, called, ensured, calls, is_call, is_ensure}
use Rattle.model.specs.Figures.{reached, uninitialised, longest}

-- 7: a call goes to a later function that exists
abbrev pub callee_fits : Task → ℕ → Option ℕ → Bool
callee_fits t f none = true
callee_fits t f (some g) = ltb f g && ltb g (count t)

-- 8: an ensure directly after each call and nowhere else, and it repeats the frame
abbrev pub ensure_fits : Func → ℕ → Option ℕ → Bool
ensure_fits x p none = true
ensure_fits x p (some k) = leb 1 p && is_call x (p - 1) && eqb k x.frame

abbrev pub paired : Func → ℕ → Bool
paired x p = (not (is_call x p) || is_ensure x (suc p)) && ensure_fits x p (ensured (point x p))

-- 9: a target is a point of the function and no ensure
abbrev pub target_fits : Func → ℕ → Bool
target_fits x q = ltb q (size x) && not (is_ensure x q)

abbrev pub targets_fit : Func → Point → Bool
targets_fit x (Load o) = true
targets_fit x (Store o) = true
targets_fit x (Call f) = true
targets_fit x (Ensure k) = true
targets_fit x (Goto p) = target_fits x p
targets_fit x (Either p q) = target_fits x p && target_fits x q
targets_fit x Return = true

-- 10: the last point does not lead past the end
abbrev pub may_end : Point → Bool
may_end (Load o) = false
may_end (Store o) = false
may_end (Call f) = false
may_end (Ensure k) = false
may_end (Goto p) = true
may_end (Either p q) = true
may_end Return = true

abbrev pub end_fits : Func → ℕ → Bool
end_fits x p = ltb (suc p) (size x) || may_end (point x p)

-- 7 to 10 at point p of function f
unfoldable pub link_row : Task → ℕ → ℕ → Option Refusal
link_row t f p =
    unless (callee_fits t f (called (point (func t f) p))) (refuse Callee (point_line t f p))
    or_else unless (paired (func t f) p) (refuse Pairing (point_line t f p))
    or_else unless (targets_fit (func t f) (point (func t f) p)) (refuse Target (point_line t f p))
    or_else unless (end_fits (func t f) p) (refuse LastPoint (point_line t f p))

-- 11, 13: a point that no walk reaches; a load that some walk reaches with no store of its offset
unfoldable pub reach_row : Task → ℕ → ℕ → Option Refusal
reach_row t f p = unless (reached (func t f) p) (refuse Unreachable (point_line t f p))

abbrev pub stored_before : Func → ℕ → Option ℕ → Bool
stored_before x p none = true
stored_before x p (some o) = not (uninitialised x o p)

unfoldable pub load_row : Task → ℕ → ℕ → Option Refusal
load_row t f p =
    unless (stored_before (func t f) p (loaded (point (func t f) p))) (refuse Uninitialised (point_line t f p))

-- 12: a function that is never called
abbrev pub is_called : Task → ℕ → Bool
is_called t f = any (λ h. any (calls (func t h) f) (up_to (size (func t h)))) (up_to (count t))

unfoldable pub call_row : Task → ℕ → Option Refusal
call_row t f = unless (is_called t f) (refuse Uncalled (func_line t f))

-- the first point, by line, that a row refuses
unfoldable pub first_point : Task → (ℕ → ℕ → Option Refusal) → Option Refusal
first_point t row = first_of (λ f. first_of (row f) (up_to (size (func t f)))) (up_to (count t))

-- 7 to 10 by line, then by number; 11, 12, 13, each by line
abbrev pub link_rows : Task → Option Refusal
link_rows t = first_point t (link_row t)

abbrev pub reach_rows : Task → Option Refusal
reach_rows t = first_point t (reach_row t)

abbrev pub call_rows : Task → Option Refusal
call_rows t = first_of (call_row t) (count_from 1 (count t - 1))

abbrev pub load_rows : Task → Option Refusal
load_rows t = first_point t (load_row t)

abbrev pub walk_rows : Task → Option Refusal
walk_rows t = reach_rows t or_else call_rows t or_else load_rows t

-- 7 to 13 of a read task
unfoldable pub task_rows : Task → Option Refusal
task_rows t = link_rows t or_else walk_rows t

-- the task of a text, unless one of these rows refuses it
abbrev pub or_task : Option Refusal → Task → Judged
or_task none t = task t
or_task (some r) t = refused r

abbrev pub with_rows : (Task → Option Refusal) → Judged → Judged
with_rows rows (refused r) = refused r
with_rows rows (task t) = or_task (rows t) t

-- 1 to 13: what a text is, whatever service it is for
unfoldable pub judged : List ℕ → Judged
judged text =
    if ltb most_bytes (length text) then refused (refuse TextTooLong 0) else with_rows task_rows (read_text text)

-- 15, for a service that asks for so many numbers and a working space of this length
unfoldable pub work_row : ℕ → ℕ → Option Refusal
work_row asked work = unless (leb asked work) (refuse WorkTooSmall asked)

-- 23: the start of a move, or the price of each of its blocks, is outside its range
unfoldable pub price_row : ℕ → ℕ → Option Refusal
price_row start each = unless (leb start most_start && leb 1 each && leb each most_each) (refuse PriceRange 0)

-- the rows before those of the text, for a service that gives prices
abbrev pub priced_rows : ℕ → ℕ → ℕ → ℕ → Option Refusal
priced_rows asked work start each = work_row asked work or_else price_row start each

-- the whole order of a service: first, the rows that come before those of the text; own, those that come after
unfoldable pub judge : Option Refusal → (Task → Option Refusal) → List ℕ → Judged
judge none own text = with_rows own (judged text)
judge (some r) own text = refused r

-- check has no rows of its own
abbrev pub no_rows : Task → Option Refusal
no_rows t = none

-- these rows of a service, and later ones
abbrev pub rows_before : (Task → Option Refusal) → (Task → Option Refusal) → Task → Option Refusal
rows_before rows later t = rows t or_else later t

-- 14, for a service that writes these bytes of a task into an output of this length
unfoldable pub output_rows : (Task → List ℕ) → ℕ → Task → Option Refusal
output_rows print output t = unless (leb (length (print t)) output) (refuse OutputTooSmall (length (print t)))

-- 16 to 19, for buffers of these lengths; 17 names how many events there are. A task without a stack takes any cache, and its D(0) is 0
unfoldable pub run_rows : ℕ → ℕ → ℕ → ℕ → Task → Option Refusal
run_rows events answers cache memory t =
    unless (eqb (events % 2) 0 && leb events most_event_numbers) (refuse EventList 0)
    or_else unless (leb (events / 2) answers) (refuse AnswersTooSmall (events / 2))
    or_else unless (stackless t || eqb cache t.stack) (refuse CacheSize t.stack)
    or_else unless (leb (longest t 0) memory) (refuse MemoryTooSmall (longest t 0))

-- 22, 20, 21 at event i of this kind and value, tried in this order; the point is that of the running frame, if there is one
abbrev pub is_either : Point → Bool
is_either (Load o) = false
is_either (Store o) = false
is_either (Call f) = false
is_either (Ensure k) = false
is_either (Goto p) = false
is_either (Either p q) = true
is_either Return = false

unfoldable pub event_rows : ℕ → ℕ → ℕ → Option Point → Option Refusal
event_rows i kind value none = some (refuse AfterFinish i)
event_rows i kind value (some x) =
    unless (leb kind 1) (refuse Kind i)
    or_else unless (eqb kind 1 || not (is_either x) || leb value 1) (refuse Choice i)
