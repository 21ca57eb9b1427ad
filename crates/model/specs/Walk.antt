-- Walks inside one function. What is said of all walks is data here; beside it stands the function that computes it. That the two
-- agree, for walks of every length, is proved in the crate theory.
use Rattle.std.specs.Prelude.{if◌then◌else◌, ℕ, zero, suc, ◌≤◌, ◌<◌, max, Bool, true, false, not, ◌&&◌, ◌||◌, T, eqb}
use mathlib.Core.List.{List, [], ◌∷◌, Memᴰ}
use Rattle.std.proofs.Math.Option.{Option, none, some}
use Rattle.model.specs.declared.Point.{Point}
use Rattle.model.specs.declared.Point.TheVariants.{Load, Store, Call, Ensure, Goto, Either, Return}
use Rattle.model.specs.Basic.{any, select, largest, up_to}
use Rattle.model.specs.Task.{Func, size, point}

-- leads: the successors of point p, which is x, in the control-flow graph of its function. A call is stepped over
abbrev pub leads_from : ℕ → Point → List ℕ
leads_from p (Load o) = suc p ∷ []
leads_from p (Store o) = suc p ∷ []
leads_from p (Call f) = suc p ∷ []
leads_from p (Ensure k) = suc p ∷ []
leads_from p (Goto q) = q ∷ []
leads_from p (Either q r) = q ∷ r ∷ []
leads_from p Return = []

unfoldable pub leads : Func → ℕ → List ℕ
leads x p = leads_from p (point x p)

-- what a point is
abbrev pub loaded : Point → Option ℕ
loaded (Load o) = some o
loaded (Store o) = none
loaded (Call f) = none
loaded (Ensure k) = none
loaded (Goto p) = none
loaded (Either p q) = none
loaded Return = none

abbrev pub stored : Point → Option ℕ
stored (Load o) = none
stored (Store o) = some o
stored (Call f) = none
stored (Ensure k) = none
stored (Goto p) = none
stored (Either p q) = none
stored Return = none

abbrev pub called : Point → Option ℕ
called (Load o) = none
called (Store o) = none
called (Call f) = some f
called (Ensure k) = none
called (Goto p) = none
called (Either p q) = none
called Return = none

abbrev pub ensured : Point → Option ℕ
ensured (Load o) = none
ensured (Store o) = none
ensured (Call f) = none
ensured (Ensure k) = some k
ensured (Goto p) = none
ensured (Either p q) = none
ensured Return = none

abbrev pub is_return : Point → Bool
is_return (Load o) = false
is_return (Store o) = false
is_return (Call f) = false
is_return (Ensure k) = false
is_return (Goto p) = false
is_return (Either p q) = false
is_return Return = true

abbrev pub present : Option ℕ → Bool
present none = false
present (some n) = true

abbrev pub is : ℕ → Option ℕ → Bool
is m none = false
is m (some n) = eqb m n

abbrev pub loads : Func → ℕ → ℕ → Bool
loads x o p = is o (loaded (point x p))

abbrev pub stores : Func → ℕ → ℕ → Bool
stores x o p = is o (stored (point x p))

abbrev pub touches : Func → ℕ → ℕ → Bool
touches x o p = loads x o p || stores x o p

abbrev pub calls : Func → ℕ → ℕ → Bool
calls x f p = is f (called (point x p))

abbrev pub is_call : Func → ℕ → Bool
is_call x p = present (called (point x p))

abbrev pub is_ensure : Func → ℕ → Bool
is_ensure x p = present (ensured (point x p))

abbrev pub returns : Func → ℕ → Bool
returns x p = is_return (point x p)

abbrev pub never : ℕ → Bool
never p = false

-- a walk: a path from p to q in that graph, of any length, that passes no point of the kind stop before q
pub data Walk (next : ℕ → List ℕ) (stop : ℕ → Bool) : ℕ → ℕ → Type 0 where
  here : {p : ℕ} → Walk next stop p p
  step : {p q r : ℕ} → T (not (stop p)) → Memᴰ q (next p) → Walk next stop q r → Walk next stop p r

-- some such walk from p ends at a point of the kind goal
abbrev pub Met : (ℕ → List ℕ) → (ℕ → Bool) → (ℕ → Bool) → ℕ → Type 0
Met next stop goal p = (q : ℕ) × Walk next stop p q × T (goal q)

-- the same, computed over walks of fewer than n steps
unfoldable pub meets : (ℕ → List ℕ) → (ℕ → Bool) → (ℕ → Bool) → ℕ → ℕ → Bool
meets next stop goal zero p = false
meets next stop goal (suc n) p = goal p || not (stop p) && any (λ q. meets next stop goal n q) (next p)

-- in function x: as many points as it has bound the walks that matter
abbrev pub some_walk : Func → (ℕ → Bool) → (ℕ → Bool) → ℕ → Bool
some_walk x stop goal p = meets (leads x) stop goal (size x) p

-- some walk from point 0 comes to p with the value h: it starts with the value first, and after point q the value v is after q v
pub data Carries (next : ℕ → List ℕ) (after : ℕ → ℕ → ℕ) (first : ℕ) : ℕ → ℕ → Type 0 where
  enter : Carries next after first 0 first
  step : {p q h : ℕ} → Carries next after first p h → Memᴰ q (next p) → Carries next after first q (after p h)

-- the points below n that lead to p
unfoldable pub sources : (ℕ → List ℕ) → ℕ → ℕ → List ℕ
sources next n p = select (λ q. any (λ r. eqb r p) (next q)) (up_to n)

-- 0 stands for no walk, and one more than a value for that value
abbrev pub carried : (ℕ → ℕ) → ℕ → ℕ
carried g zero = 0
carried g (suc h) = suc (g h)

-- the largest value with which a walk of fewer than n steps comes to p, in this form
unfoldable pub arrival : (ℕ → List ℕ) → (ℕ → ℕ → ℕ) → ℕ → ℕ → ℕ → ℕ → ℕ
arrival next after first points zero p = 0
arrival next after first points (suc n) p =
    max
    (if eqb p 0 then suc first else 0)
    (largest (λ q. carried (after q) (arrival next after first points n q)) (sources next points p))

-- m is the largest number of the kind P, or 0 where there is none; m is the smallest number of the kind P below n, or n where there is none
pub record Largest (P : ℕ → Type 0) (m : ℕ) : Type 0 where
  pub bounds : (n : ℕ) → P n → n ≤ m
  pub attained : 0 < m → P m

pub record Smallest (P : ℕ → Type 0) (n m : ℕ) : Type 0 where
  pub within : m ≤ n
  pub bounds : (i : ℕ) → i < n → P i → m ≤ i
  pub attained : m < n → P m

-- m is the smallest number of the kind P
pub record Least (P : ℕ → Type 0) (m : ℕ) : Type 0 where
  pub bounds : (n : ℕ) → P n → m ≤ n
  pub attained : P m
