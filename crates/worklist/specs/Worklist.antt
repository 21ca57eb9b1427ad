-- The points of one function that are still to visit: the state of each point, and the worklist as bytes.
use Rattle.std.specs.Prelude.{if◌then◌else◌, ℕ, ◌+◌, ◌-◌, ◌≤◌, ◌<◌, ◌≡◌, List, eqb, length, map, set, Option, Some, None}
use Rattle.model.specs.Limits.{most_points}
use Rattle.tables.specs.Tables.{item, sum}
use Rattle.worklist.specs.declared.Visit.{Visit}
use Rattle.worklist.specs.declared.Visit.TheVariants.{Unseen, Seen, Waiting}

-- the state of a point: no walk has come to it; one has; one has, and the point is in the worklist
abbrev pub unseen : ℕ
unseen = 0

abbrev pub seen : ℕ
seen = 1

abbrev pub waiting : ℕ
waiting = 2

-- the number that a state stands for, and a table of states as numbers
abbrev pub code : Visit → ℕ
code Unseen = unseen
code Seen = seen
code Waiting = waiting

abbrev pub codes : List Visit → List ℕ
codes = map code

-- the state of each point, and the worklist, which is the first count entries of points
pub record Worklist : Type 0 where
  pub state : List ℕ
  pub points : List ℕ
  pub count : ℕ

abbrev pub worklist_of : List Visit → List ℕ → ℕ → Worklist
worklist_of t l c = record { state = codes t; points = l; count = c }

-- point q is put at the end of the worklist
abbrev pub added : ℕ → Worklist → Worklist
added q x = record { state = set x.state q waiting; points = set x.points x.count q; count = x.count + 1 }

-- the last point of the worklist, and the worklist once it is taken
abbrev pub last : Worklist → ℕ
last x = item x.points (x.count - 1)

abbrev pub taken : Worklist → Worklist
taken x = record { state = set x.state (last x) seen; points = x.points; count = x.count - 1 }

-- what a caller may cite: never more than most_points, and none twice
pub record Distinct (x : Worklist) : Type 0 where
  pub few : x.count ≤ most_points
  pub apart : (i j : ℕ) → i < j → j < x.count → item x.points i ≡ item x.points j → ⊥

-- 1 where the state is t
unfoldable pub tally : ℕ → ℕ → ℕ
tally t s = if eqb s t then 1 else 0

-- the worklist of a function of n points, each with one of the three states: it lies in most_points bytes and holds each point that waits, and no other
pub record Pending (n : ℕ) (x : Worklist) : Type 0 where
  pub small : n ≤ most_points
  pub room : length x.points ≡ most_points
  pub state_long : n ≤ length x.state
  pub states : (p : ℕ) → p < n → item x.state p ≤ waiting
  pub counted : x.count ≡ sum (λ p. tally waiting (item x.state p)) n
  pub within : (i : ℕ) → i < x.count → item x.points i < n
  pub waits : (i : ℕ) → i < x.count → item x.state (item x.points i) ≡ waiting
  pub distinct : Distinct x

-- what put requires of point q: it is a point of the function, and it is not in the worklist
pub record Absent (q : ℕ) (x : Worklist) : Type 0 where
  pub n : ℕ
  pub below : q < n
  pub pending : Pending n x
  pub absent : item x.state q ≡ waiting → ⊥

-- what take requires: the worklist is that of some function
pub record Sound (x : Worklist) : Type 0 where
  pub n : ℕ
  pub pending : Pending n x

-- point p is the last of the worklist
pub record Ends (p : ℕ) (x : Worklist) : Type 0 where
  pub n : ℕ
  pub pending : Pending n x
  pub some : 0 < x.count
  pub ends : p ≡ last x

-- what take leaves of x: there was no point, or its last one is taken
abbrev pub Took : Worklist → Worklist → Option ℕ → Type 0
Took x y None = (x.count ≡ 0) × (y ≡ x)
Took x y (Some p) = Ends p x × (y ≡ taken x) × Distinct y
