-- The figures inside one function are what is said of all walks: each computed test holds exactly where a walk of its kind exists,
-- and each computed number is the largest or the smallest of its kind.
use Prim.Native.Nat.{ℕ, suc, ◌+◌, ◌≤◌, ◌<◌, min}
use mathlib.Core.Bool.{Bool, ◌&&◌}
use mathlib.Core.List.{List, Memᴰ}
use mathlib.Core.Logic.Iff
use mathlib.Core.Logic.{◌↔◌}
use mathlib.Core.Option.{Option, none, some}
use mathlib.Core.Path.{◌≡◌}
use lib.Dec.{T, eqb, eqb→eq, eqb_refl}
use Rattle.model.specs.Basic.{select, up_to, lowest}
use Rattle.model.specs.Task.{Func, Task, size, func, point}
use Rattle.model.specs.Walk.{Walk, Met, Carries, Largest, Smallest, leads, called, loads, stores, touches, is_ensure, never, some_walk}
use Rattle.model.specs.Figures.{reached, uninitialised, live, dead, need, shortest, cut_by, after_with, after, high_from_with, high_from, entry, high_with, high}
use Rattle.model.specs.Figures.{kept, first_ensure, kept_next}
use Rattle.theory.proofs.Lists.{and-holds, mem-select, mem-up_to, above-largest, lowest-smallest, largest-largest}
use Rattle.theory.proofs.Walks.{meets-sound, meets-complete, walk-met}
use Rattle.theory.proofs.Arrival.{Steady, steady-same, steady-min, steady-max, steady-if, arrival-reached}

-- every point of the function leads to points of the function
abbrev pub Closed : Func → Type 0
Closed x = (p q : ℕ) → p < size x → Memᴰ q (leads x p) → q < size x

-- every offset that a point of the function loads or stores is below the frame
abbrev pub InFrame : Func → Type 0
InFrame x = (o q : ℕ) → q < size x → T (touches x o q) → o < x.frame

module _ (x : Func) (inside : Closed x) where
  -- a walk from a point of the function ends at a point of the function
  pub walk_inside : {stop : ℕ → Bool} {p q : ℕ} → Walk (leads x) stop p q → p < size x → q < size x
  walk_inside Walk.here l = l
  walk_inside (Walk.step {p = p} {q = q} s m w) l = walk_inside w (inside p q l m)

  -- the computed test for a walk holds exactly where there is one
  pub some_walk-met : (stop goal : ℕ → Bool) (p : ℕ) → p < size x → T (some_walk x stop goal p) ↔ Met (leads x) stop goal p
  some_walk-met stop goal p l =
      (meets-sound (leads x) stop goal (size x) p, meets-complete (leads x) stop goal (size x) inside l)

  -- the lowest number below n for which there is one
  pub lowest-met : (stop goal : ℕ → ℕ → Bool) (p : ℕ) → p < size x → (n : ℕ)
      → Smallest (λ v. Met (leads x) (stop v) (goal v) p) n (lowest (λ v. some_walk x (stop v) (goal v) p) n)
  lowest-met stop goal p l n =
      let r = lowest-smallest (λ v. some_walk x (stop v) (goal v) p) n in
      record {
        within = r.within;
        bounds = λ v h m. r.bounds v h ((some_walk-met (stop v) (goal v) p l).1 m);
        attained = λ h. (some_walk-met (stop _) (goal _) p l).0 (r.attained h);
      }

  -- the test for a walk to one point
  pub some_walk-walk : (stop : ℕ → Bool) (p q : ℕ) → p < size x → T (some_walk x stop (eqb q) p) ↔ Walk (leads x) stop p q
  some_walk-walk stop p q l = Iff.trans (some_walk-met stop (eqb q) p l) (Iff.symm walk-met)

  -- reached: some walk from point 0 comes to p
  pub reached-walk : 0 < size x → (p : ℕ) → T (reached x p) ↔ Walk (leads x) never 0 p
  unfolding reached
  reached-walk l p = some_walk-walk never 0 p l

  -- uninitialised: some walk from point 0 comes to p with no store of o before
  pub uninitialised-walk : 0 < size x → (o p : ℕ) → T (uninitialised x o p) ↔ Walk (leads x) (stores x o) 0 p
  unfolding uninitialised
  uninitialised-walk l o p = some_walk-walk (stores x o) 0 p l

  -- live: some walk from p loads o with no store of it before
  pub live-met : (o p : ℕ) → p < size x → T (live x o p) ↔ Met (leads x) (stores x o) (loads x o) p
  unfolding live
  live-met o p l = some_walk-met (stores x o) (loads x o) p l

  -- dead: the lowest live offset, or the frame where none is live
  pub dead-is : (p : ℕ) → p < size x
      → Smallest (λ o. Met (leads x) (stores x o) (loads x o) p) x.frame (dead x p)
  unfolding dead live
  dead-is p l = lowest-met (stores x) (loads x) p l x.frame

  -- need: one more than the highest offset that some walk from p touches before any ensure
  pub need-is : InFrame x → (p : ℕ) → p < size x
      → Largest (λ m. (o : ℕ) × (m ≡ suc o) × Met (leads x) (is_ensure x) (touches x o) p) (need x p)
  unfolding need
  need-is fits p l =
      let met : (o : ℕ) → T (some_walk x (is_ensure x) (touches x o) p) ↔ Met (leads x) (is_ensure x) (touches x o) p =
      λ o. some_walk-met (is_ensure x) (touches x o) p l in
      let r = above-largest (λ o. some_walk x (is_ensure x) (touches x o) p) x.frame in
      record {
        bounds = λ m h.
            let low = fits h.0 h.2.0 (walk_inside h.2.1 l) h.2.2 in r.bounds m (h.0, h.1, low, (met h.0).1 h.2);
        attained = λ h. let k = r.attained h in (k.0, k.1, (met k.0).0 k.3);
      }

  -- e is a first ensure on a walk from p
  pub first_ensure-walk : (e p : ℕ) → p < size x → T (first_ensure x e p) ↔ (Walk (leads x) (is_ensure x) p e × T (is_ensure x e))
  unfolding first_ensure
  first_ensure-walk e p l =
      let met = some_walk-met (is_ensure x) (λ q. eqb e q && is_ensure x q) p l in (
        λ h. let w = met.0 h in
            let k = (and-holds (eqb e w.0) (is_ensure x w.0)).0 w.2 in
            let i = eqb→eq e w.0 k.0 in (rw i w.1, rw i k.1),
        λ h. met.1 (e, h.0, (and-holds (eqb e e) (is_ensure x e)).1 (eqb_refl e, h.1)),
      )

module _ (t : Task) (f : ℕ) where
  steady-cut : (c : Option ℕ) → Steady (λ h. cut_by (shortest t) t h c)
  steady-cut none = steady-same
  steady-cut (some g) = steady-min _

  -- a threshold of the occupancy after a point depends on the same threshold of the occupancy before it only
  pub steady-after : (p : ℕ) → Steady (after t f p)
  unfolding after_with
  steady-after p = steady-if (is_ensure (func t f) p) (steady-max (func t f).frame) (steady-cut (called (point (func t f) p)))

  module _ (inside : Closed (func t f)) where
    mem-firsts : (p : ℕ) → p < size (func t f) → (e : ℕ)
        → Memᴰ e (select (λ e. first_ensure (func t f) e p) (up_to (size (func t f))))
        ↔ (Walk (leads (func t f)) (is_ensure (func t f)) p e × T (is_ensure (func t f) e))
    mem-firsts p l e =
        let chosen = mem-select (λ e. first_ensure (func t f) e p) (up_to (size (func t f))) {a = e} in
        let first = first_ensure-walk (func t f) inside e p l in (
          λ m. first.0 (chosen.0 m).1,
          λ h. chosen.1 ((mem-up_to (size (func t f))).1 (walk_inside (func t f) inside h.0 l), first.1 h),
        )

    -- kept_next: the largest part kept over the first ensures on walks from p
    pub kept_next-is : (p : ℕ) → p < size (func t f)
        → Largest
        (λ m. (e : ℕ) × Walk (leads (func t f)) (is_ensure (func t f)) p e × T (is_ensure (func t f) e) × (m ≡ kept t f e))
        (kept_next t f p)
    unfolding kept_next
    kept_next-is p l =
        let r = largest-largest (kept t f) (select (λ e. first_ensure (func t f) e p) (up_to (size (func t f)))) in
        record {
          bounds = λ m h. r.bounds m (h.0, (mem-firsts p l h.0).1 (h.1, h.2), h.3);
          attained = λ h. let k = r.attained h in let w = (mem-firsts p l k.0).0 k.1 in (k.0, w.0, w.1, k.2);
        }

-- where a walk comes from a point to which some value is brought, some value is brought too
pub walk-carries : {next : ℕ → List ℕ} {after : ℕ → ℕ → ℕ} {first : ℕ} {stop : ℕ → Bool} {p q h : ℕ} → Walk next stop p q
    → Carries next after first p h → (k : ℕ) × Carries next after first q k
walk-carries {h} Walk.here c = (h, c)
walk-carries (Walk.step s m w) c = walk-carries w (Carries.step c m)

-- high: the largest occupancy that a walk from point 0 brings to p, for an occupancy e where the function is called
pub high_is : (t : Task) (f e : ℕ) → Closed (func t f) → 0 < size (func t f) → {p : ℕ} → Walk (leads (func t f)) never 0 p
    → ((h : ℕ) → Carries (leads (func t f)) (after t f) (min t.stack (e + (func t f).frame)) p h → h ≤ high_from t f e p)
    × Carries (leads (func t f)) (after t f) (min t.stack (e + (func t f).frame)) p (high_from t f e p)
unfolding high_from_with
high_is t f e inside l w =
    arrival-reached (leads (func t f)) (after t f) (min t.stack (e + (func t f).frame)) (size (func t f)) (steady-after t f)
    inside l (walk-carries w Carries.enter).1

-- the same for the largest occupancy where the function is called
pub high-entry-is : (t : Task) (f : ℕ) → Closed (func t f) → 0 < size (func t f) → {p : ℕ} → Walk (leads (func t f)) never 0 p
    → ((h : ℕ) → Carries (leads (func t f)) (after t f) (min t.stack (entry t f + (func t f).frame)) p h → h ≤ high t f p)
    × Carries (leads (func t f)) (after t f) (min t.stack (entry t f + (func t f).frame)) p (high t f p)
unfolding high_with
high-entry-is t f = high_is t f (entry t f)
