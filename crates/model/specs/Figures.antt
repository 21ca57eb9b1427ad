-- The figures of a task that come from its walks and its calls, in blocks; Sheet puts cost together from them. The walks run inside one
-- function; displacements go from callees to callers, the entry occupancy and the chain from callers to callees. Calls lead to later
-- functions, which bounds the depth of both.
use Rattle.std.specs.Prelude.{if◌then◌else◌, ℕ, zero, suc, pred, ◌+◌, ◌-◌, ◌*◌, min, max, Bool, ◌&&◌, List, [], ◌∷◌, ltb, eqb}
use Rattle.std.proofs.Math.Option.{Option, none, some}
use Rattle.model.specs.Basic.{joined, select, largest, smallest, up_to, above_all, lowest}
use Rattle.model.specs.Task.{Func, Task, size, count, func, point}
use Rattle.model.specs.Walk.{leads, called, loads, stores, touches, calls, is_ensure, returns, never, some_walk, arrival}

-- some walk from point 0 reaches p; it reaches p with no store of o before
unfoldable pub reached : Func → ℕ → Bool
reached x p = some_walk x never (eqb p) 0

unfoldable pub uninitialised : Func → ℕ → ℕ → Bool
uninitialised x o p = some_walk x (stores x o) (eqb p) 0

-- offset o is live at p: some walk from p loads it with no store of it before
unfoldable pub live : Func → ℕ → ℕ → Bool
live x o p = some_walk x (stores x o) (loads x o) p

-- dead: the lowest live offset. Below it the frame holds nothing that will be loaded
unfoldable pub dead : Func → ℕ → ℕ
dead x p = lowest (λ o. live x o p) x.frame

-- need: how far up the frame is touched before any ensure
unfoldable pub need : Func → ℕ → ℕ
need x p = above_all (λ o. some_walk x (is_ensure x) (touches x o) p) x.frame

-- the functions that x calls
abbrev pub the_called : Option ℕ → List ℕ
the_called none = []
the_called (some f) = f ∷ []

unfoldable pub callees : Func → List ℕ
callees x = joined (λ p. the_called (called p)) x.points

-- the displacement of the call at point p: d of its callee, 0 where p calls nothing
abbrev pub displacement_of : (ℕ → ℕ) → Option ℕ → ℕ
displacement_of d none = 0
displacement_of d (some g) = d g

abbrev pub displacement_at : (ℕ → ℕ) → Func → ℕ → ℕ
displacement_at d x p = displacement_of d (called (point x p))

abbrev pub calls_above : (ℕ → ℕ) → Func → ℕ → ℕ → Bool
calls_above d x v p = ltb v (displacement_at d x p)

-- the smallest, over walks from point 0 to a point of the kind goal, of the largest d called on the walk (a minimax over paths): the smallest v for
-- which some such walk calls nothing above v
unfoldable pub minimax : (ℕ → ℕ) → Func → (ℕ → Bool) → ℕ
minimax d x goal = lowest (λ v. some_walk x (calls_above d x v) goal 0) (largest d (callees x))

-- d of x from d of its callees: the frame and the minimax over walks to a return; where no walk comes to a return, the frame and the smallest d called
unfoldable pub shortest_by : (ℕ → ℕ) → Func → ℕ
shortest_by d x =
    x.frame + (if some_walk x never (returns x) 0 then minimax d x (returns x) else smallest d (callees x))

-- D and d: the longest and the shortest displacement, how far calling f pushes the cached blocks of its callers; to a depth of n calls
unfoldable pub longest_to : Task → ℕ → ℕ → ℕ
longest_to t zero f = 0
longest_to t (suc n) f = (func t f).frame + largest (longest_to t n) (callees (func t f))

unfoldable pub shortest_to : Task → ℕ → ℕ → ℕ
shortest_to t zero f = 0
shortest_to t (suc n) f = shortest_by (shortest_to t n) (func t f)

unfoldable pub longest : Task → ℕ → ℕ
longest t f = longest_to t (count t) f

unfoldable pub shortest : Task → ℕ → ℕ
shortest t f = shortest_to t (count t) f

-- fill: the worst-case fill of the ensure after a call of g
abbrev pub fill_after : Task → ℕ → Option ℕ → ℕ
fill_after t k none = 0
fill_after t k (some g) = k - (t.stack - longest t g)

unfoldable pub fill : Task → ℕ → ℕ → ℕ
fill t f p =
    if is_ensure (func t f) p then fill_after t (func t f).frame (called (point (func t f) (p - 1))) else 0

-- the figures that d is a part of take d from anywhere, so that two rules for it can be compared. First the occupancy after point p, at most, where it
-- is at most h before
abbrev pub cut_by : (ℕ → ℕ) → Task → ℕ → Option ℕ → ℕ
cut_by d t h none = h
cut_by d t h (some g) = min h (t.stack - d g)

unfoldable pub after_with : (ℕ → ℕ) → Task → ℕ → ℕ → ℕ → ℕ
after_with d t f p h =
    if is_ensure (func t f) p then max h (func t f).frame else cut_by d t h (called (point (func t f) p))

-- high: the maximum occupancy at p over all walks from point 0, e being the maximum occupancy where f is called
unfoldable pub high_from_with : (ℕ → ℕ) → Task → ℕ → ℕ → ℕ → ℕ
high_from_with d t f e p =
    pred
    (arrival
    (leads (func t f))
    (after_with d t f)
    (min t.stack (e + (func t f).frame))
    (size (func t f))
    (2 * size (func t f))
    p)

-- the points of x that call f
unfoldable pub call_points : Func → ℕ → List ℕ
call_points x f = select (calls x f) (up_to (size x))

-- the largest, over the points that call f, of what the function and the point give
unfoldable pub over_calls : Task → ℕ → (ℕ → ℕ → ℕ) → ℕ
over_calls t f figure = largest (λ h. largest (figure h) (call_points (func t h) f)) (up_to (count t))

-- E: the maximum occupancy where f is called; 0 for function 0. To a depth of n callers, and whole
unfoldable pub entry_to : (ℕ → ℕ) → Task → ℕ → ℕ → ℕ
entry_to d t zero f = 0
entry_to d t (suc n) f = over_calls t f (λ h p. high_from_with d t h (entry_to d t n h) p)

unfoldable pub entry_with : (ℕ → ℕ) → Task → ℕ → ℕ
entry_with d t f = entry_to d t f f

unfoldable pub high_with : (ℕ → ℕ) → Task → ℕ → ℕ → ℕ
high_with d t f p = high_from_with d t f (entry_with d t f) p

-- spill: the worst-case spill of entering f
unfoldable pub spill_with : (ℕ → ℕ) → Task → ℕ → ℕ
spill_with d t f = entry_with d t f + (func t f).frame - t.stack

-- the same with the task's own d
abbrev pub after : Task → ℕ → ℕ → ℕ → ℕ
after t = after_with (shortest t) t

abbrev pub high_from : Task → ℕ → ℕ → ℕ → ℕ
high_from t = high_from_with (shortest t) t

abbrev pub entry : Task → ℕ → ℕ
entry t = entry_with (shortest t) t

abbrev pub high : Task → ℕ → ℕ → ℕ
high t = high_with (shortest t) t

abbrev pub spill : Task → ℕ → ℕ
spill t = spill_with (shortest t) t

-- kept: of a caller's frame, what is certainly still cached at the ensure p after its call
abbrev pub kept : Task → ℕ → ℕ → ℕ
kept t f p = (func t f).frame - fill t f p

-- chain: the delayed fills of the callers, what their first ensures may have to fill above their fill, along the dearest chain of calls.
-- Each is priced (in document 01 a price of n blocks is n)
unfoldable pub chain_to : (ℕ → ℕ) → Task → ℕ → ℕ → ℕ
chain_to price t zero f = 0
chain_to price t (suc n) f = over_calls t f (λ h p. chain_to price t n h + price (kept t h (suc p)))

unfoldable pub chain : (ℕ → ℕ) → Task → ℕ → ℕ
chain price t f = chain_to price t f f

-- q: the largest such part over the first ensures on walks from p, p included
unfoldable pub first_ensure : Func → ℕ → ℕ → Bool
first_ensure x e p = some_walk x (is_ensure x) (λ q. eqb e q && is_ensure x q) p

unfoldable pub kept_next : Task → ℕ → ℕ → ℕ
kept_next t f p = largest (kept t f) (select (λ e. first_ensure (func t f) e p) (up_to (size (func t f))))
