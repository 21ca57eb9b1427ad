-- How the figures of a point bound those of the points to which it leads, and what they are at a load, a store and an ensure.
use Prim.Native.Nat.{ℕ, suc, ◌+◌, ◌≤◌, ◌<◌, min}
use mathlib.Core.Bool.{Bool, not, ◌||◌}
use mathlib.Core.List.{List, Memᴰ}
use mathlib.Core.Logic.{⊎_elim}
use mathlib.Core.Path.{◌≡◌, refl}
use native.Mathlib.Decide.{dec_lt}
use native.Mathlib.Omega.{arith}
use lib.Dec.{T, T_not}
use Rattle.model.specs.declared.Point.{Point}
use Rattle.model.specs.declared.Point.TheVariants.{Load, Store, Call, Ensure, Goto, Either, Return}
use Rattle.model.specs.Task.{Func, Task, size, func, point}
use Rattle.model.specs.Walk.{Walk, Carries, Largest, leads, loaded, stored, ensured, present, is, loads, stores, touches, is_ensure, some_walk}
use Rattle.model.specs.Figures.{reached, live, dead, need, after, entry, high, kept, kept_next}
use Rattle.theory.proofs.Lists.{above-largest, lowest-smallest}
use Rattle.theory.proofs.Walks.{met-here, met-step, met-cases, meets-sound, walk-trans}
use Rattle.theory.proofs.Figures.{Closed, InFrame, some_walk-met, live-met, need-is, kept_next-is, reached-walk, high-entry-is}

-- of two largest numbers, that of the wider kind is no smaller
pub largest-up : {P Q : ℕ → Type 0} {m n : ℕ} → Largest P m → Largest Q n → ((k : ℕ) → P k → Q k) → m ≤ n
largest-up {m} a b f = elim (dec_lt 0 m) [ yes h ↦ b.bounds m (f m (a.attained h)) | no h ↦ omega arith ]

-- a walk that stops at its first point ends there
pub walk-stopped : {next : ℕ → List ℕ} {stop : ℕ → Bool} {p q : ℕ} → T (stop p) → Walk next stop p q → q ≡ p
walk-stopped h Walk.here = refl
walk-stopped {stop} h (Walk.step {p = p} s m w) = absurd (T_not (stop p) s h)

touches-no-ensure : (o : ℕ) (y : Point) → T (present (ensured y)) → T (is o (loaded y) || is o (stored y)) → ⊥
touches-no-ensure o (Load a) h k = h
touches-no-ensure o (Store a) h k = h
touches-no-ensure o (Call g) h k = h
touches-no-ensure o (Ensure n) h k = k
touches-no-ensure o (Goto q) h k = h
touches-no-ensure o (Either q r) h k = h
touches-no-ensure o Return h k = h

module _ (x : Func) (p : ℕ) where
  -- dead is at most the frame
  pub dead_frame : dead x p ≤ x.frame
  unfolding dead
  dead_frame = (lowest-smallest (λ o. live x o p) x.frame).within

  -- dead is at most each live offset
  pub dead_live : (o : ℕ) → o < x.frame → T (live x o p) → dead x p ≤ o
  unfolding dead
  dead_live = (lowest-smallest (λ o. live x o p) x.frame).bounds

  need-from : 0 < need x p → (o : ℕ) × (need x p ≡ suc o) × (o < x.frame) × T (some_walk x (is_ensure x) (touches x o) p)
  unfolding need
  need-from = (above-largest (λ o. some_walk x (is_ensure x) (touches x o) p) x.frame).attained

  -- need is at most the frame
  pub need_frame : need x p ≤ x.frame
  need_frame = elim (dec_lt 0 (need x p)) [ yes h ↦ let k = need-from h in omega arith | no h ↦ omega arith ]

  -- need is 0 at an ensure
  pub need_ensure : T (is_ensure x p) → need x p ≡ 0
  need_ensure s = elim (dec_lt 0 (need x p)) [
    | yes h ↦ let k = need-from h in
        let w = meets-sound (leads x) (is_ensure x) (touches x k.0) (size x) p k.3 in
        absurd (⊎_elim (touches-no-ensure k.0 (point x p) s) (λ v. T_not (is_ensure x p) v.0 s)
        (met-cases (leads x) (is_ensure x) (touches x k.0) w))
    | no h ↦ omega arith
  ]

module _ (x : Func) (inside : Closed x) (p : ℕ) (here : p < size x) where
  -- an offset is live at a load of it
  pub live-load : (o : ℕ) → T (loads x o p) → T (live x o p)
  live-load o h = (live-met x inside o p here).1 (met-here (leads x) (stores x o) (loads x o) h)

  -- need is above the offset of a load or a store
  pub need_touch : (o : ℕ) → o < x.frame → T (touches x o p) → suc o ≤ need x p
  unfolding need
  need_touch o l h =
      (above-largest (λ o. some_walk x (is_ensure x) (touches x o) p) x.frame).bounds (suc o)
      (o, refl, l, (some_walk-met x inside (is_ensure x) (touches x o) p here).1 (met-here (leads x) (is_ensure x) (touches x o) h))

  module _ (q : ℕ) (lead : Memᴰ q (leads x p)) where
    -- what is live after a point that does not store it is live before it
    pub live-along : (o : ℕ) → T (not (stores x o p)) → T (live x o q) → T (live x o p)
    live-along o s h =
        (live-met x inside o p here).1
        (met-step (leads x) (stores x o) (loads x o) s lead ((live-met x inside o q (inside p q here lead)).0 h))

    -- need does not rise along a lead from a point that is no ensure
    pub need_along : InFrame x → T (not (is_ensure x p)) → need x q ≤ need x p
    need_along fits s =
        largest-up (need-is x inside fits q (inside p q here lead)) (need-is x inside fits p here)
        (λ k h. (h.0, h.1, met-step (leads x) (is_ensure x) (touches x h.0) s lead h.2))

module _ (t : Task) (f : ℕ) (inside : Closed (func t f)) (p : ℕ) (here : p < size (func t f)) where
  -- kept_next is the part kept at an ensure
  pub kept_next-ensure : T (is_ensure (func t f) p) → kept_next t f p ≡ kept t f p
  kept_next-ensure s =
      let r = kept_next-is t f inside p here in
      let low = r.bounds (kept t f p) (p, Walk.here, s, refl) in
      elim (dec_lt 0 (kept_next t f p)) [
        | yes h ↦ let k = r.attained h in rw (walk-stopped s k.1) at k.3
        | no h ↦ omega arith
      ]

  module _ (q : ℕ) (lead : Memᴰ q (leads (func t f) p)) where
    -- kept_next does not rise along a lead from a point that is no ensure
    pub keptNext-along : T (not (is_ensure (func t f) p)) → kept_next t f q ≤ kept_next t f p
    keptNext-along s =
        largest-up (kept_next-is t f inside q (inside p q here lead)) (kept_next-is t f inside p here)
        (λ k h. (h.0, Walk.step s lead h.1, h.2, h.3))

    -- the occupancy after a reached point is at most that at the points to which it leads
    pub high_along : T (reached (func t f) p) → after t f p (high t f p) ≤ high t f q
    high_along h =
        let some-point : 0 < size (func t f) = omega arith in
        let w = (reached-walk (func t f) inside some-point p).0 h in
        (high-entry-is t f inside some-point (walk-trans w (Walk.step tt lead Walk.here))).0 (after t f p (high t f p))
        (Carries.step (high-entry-is t f inside some-point w).1 lead)

-- the occupancy at point 0 is at least that after entering
pub high-enter : (t : Task) (f : ℕ) → Closed (func t f) → 0 < size (func t f)
    → min t.stack (entry t f + (func t f).frame) ≤ high t f 0
high-enter t f inside some-point = (high-entry-is t f inside some-point Walk.here).0 _ Carries.enter
