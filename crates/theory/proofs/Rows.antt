-- What rows 11 and 13 say of the walks of a task that has been read and that rows 7 to 10 do not refuse: so it is of every text that either of
-- them refuses, and of every accepted one.
use Prim.Native.Nat.{ℕ, ◌<◌}
use mathlib.Core.Bool.{not}
use mathlib.Core.List.{List}
use mathlib.Core.Logic.{◌↔◌}
use mathlib.Core.Option.{none, some}
use mathlib.Core.Path.{◌≡◌, refl}
use native.Mathlib.Omega.{arith}
use lib.Dec.{T, T_not, not_T}
use Rattle.model.specs.declared.Point.{Point}
use Rattle.model.specs.declared.Point.TheVariants.{Load, Store, Call, Ensure, Goto, Either, Return}
use Rattle.model.specs.declared.Refusal.{Refusal}
use Rattle.model.specs.declared.Row.TheVariants.{Unreachable, Uninitialised}
use Rattle.model.specs.Rows.{refuse}
use Rattle.model.specs.Task.{Task, task, size, count, func, point, point_line, read_text}
use Rattle.model.specs.Walk.{Walk, leads, never, stores, loaded}
use Rattle.model.specs.Figures.{reached, uninitialised}
use Rattle.model.specs.Refusal.{stored_before, reach_row, load_row, link_rows, reach_rows, load_rows}
use Rattle.model.specs.WellFormed.{Shaped, Linked}
use Rattle.theory.proofs.Firsts.{unless-none, unless-some, points-some}
use Rattle.theory.proofs.Reading.{not-not, read-shaped}
use Rattle.theory.proofs.Accepted.{links-none}
use Rattle.theory.proofs.Links.{closed}
use Rattle.theory.proofs.Figures.{reached-walk, uninitialised-walk}

-- some walk from point 0 reaches point p of f; some walk reaches it with no store of o before
abbrev pub Reached : Task → ℕ → ℕ → Type 0
Reached t f p = Walk (leads (func t f)) never 0 p

abbrev pub ReachedUnstored : Task → ℕ → ℕ → ℕ → Type 0
ReachedUnstored t f o p = Walk (leads (func t f)) (stores (func t f) o) 0 p

-- at each point of the task, and of the first point that each row refuses
pub record RowsMean (t : Task) : Type 0 where
  pub reach : (f p : ℕ) → f < count t → p < size (func t f) → (reach_row t f p ≡ none) ↔ Reached t f p
  pub load : (f p : ℕ) → f < count t → p < size (func t f)
      → (load_row t f p ≡ none) ↔ ((o : ℕ) → point (func t f) p ≡ Load o → ReachedUnstored t f o p → ⊥)
  pub unreachable : (r : Refusal) → reach_rows t ≡ some r
      → (f p : ℕ) × (f < count t) × (p < size (func t f)) × (r ≡ refuse Unreachable (point_line t f p)) × (Reached t f p → ⊥)
  pub uninitialised : (r : Refusal) → load_rows t ≡ some r
      → (f p o : ℕ) × (f < count t) × (p < size (func t f)) × (r ≡ refuse Uninitialised (point_line t f p)) × (point (func t f) p ≡ Load o)
      × ReachedUnstored t f o p

no-load : {A : Type 0} {x : Point} {o : ℕ} → loaded x ≡ none → x ≡ Load o → A
no-load n e = let z : ◌≡◌ {A = ℕ} 0 1 = cc in absurd (omega arith)

-- what row 13 asks of the point y
stored-means : (t : Task) → Shaped t → Linked t → (f p : ℕ) → f < count t → (y : Point)
    → T (stored_before (func t f) p (loaded y)) ↔ ((o : ℕ) → y ≡ Load o → ReachedUnstored t f o p → ⊥)
stored-means t s l f p h (Load a) =
    let walk = uninitialised-walk (func t f) (λ i j. closed l f i j h) (s.nonempty f h) a p in (
      λ i o e w. let k : a ≡ o = cc in T_not (uninitialised (func t f) a p) i (walk.1 (rw k w)),
      λ i. not_T (uninitialised (func t f) a p) (λ j. i a refl (walk.0 j)),
    )
stored-means t s l f p h (Store a) = (λ i o e w. no-load refl e, λ i. tt)
stored-means t s l f p h (Call g) = (λ i o e w. no-load refl e, λ i. tt)
stored-means t s l f p h (Ensure k) = (λ i o e w. no-load refl e, λ i. tt)
stored-means t s l f p h (Goto q) = (λ i o e w. no-load refl e, λ i. tt)
stored-means t s l f p h (Either q r) = (λ i o e w. no-load refl e, λ i. tt)
stored-means t s l f p h Return = (λ i o e w. no-load refl e, λ i. tt)

rows-mean-of : (t : Task) → Shaped t → Linked t → RowsMean t
unfolding reach_row load_row
rows-mean-of t s l = record {
  reach = λ f p h k. (λ e. (walk f p h).0 ((unless-none (reached (func t f) p) _).0 e), λ v. (unless-none (reached (func t f) p) _).1 ((walk f p h).1 v));
  load = λ f p h k. (
    λ e. (stored f p h).0 ((unless-none (stored_before (func t f) p (loaded (point (func t f) p))) _).0 e),
    λ v. (unless-none (stored_before (func t f) p (loaded (point (func t f) p))) _).1 ((stored f p h).1 v),
  );
  unreachable = λ r e.
      let i = points-some t (reach_row t) r e in
      let u = unless-some (reached (func t i.0) i.1) _ r i.4 in
      (i.0, i.1, i.2, i.3, u.1, λ v. T_not (reached (func t i.0) i.1) u.0 ((walk i.0 i.1 i.2).1 v));
  uninitialised = λ r e.
      let i = points-some t (load_row t) r e in
      let u = unless-some (stored_before (func t i.0) i.1 (loaded (point (func t i.0) i.1))) _ r i.4 in
      let o = unstored i.0 i.1 i.2 (point (func t i.0) i.1) u.0 in
      (i.0, i.1, o.0, i.2, i.3, u.1, o.1, o.2);
}
  where
    walk : (f p : ℕ) → f < count t → T (reached (func t f) p) ↔ Reached t f p
    walk f p h = reached-walk (func t f) (λ i j. closed l f i j h) (s.nonempty f h) p

    stored : (f p : ℕ) → f < count t
        → T (stored_before (func t f) p (loaded (point (func t f) p))) ↔ ((o : ℕ) → point (func t f) p ≡ Load o → ReachedUnstored t f o p → ⊥)
    stored f p h = stored-means t s l f p h (point (func t f) p)

    unstored : (f p : ℕ) → f < count t → (y : Point) → T (not (stored_before (func t f) p (loaded y))) → (o : ℕ) × (y ≡ Load o) × ReachedUnstored t f o p
    unstored f p h (Load a) n =
        (a, refl, (uninitialised-walk (func t f) (λ i j. closed l f i j h) (s.nonempty f h) a p).0 (not-not (uninitialised (func t f) a p) n))
    unstored f p h (Store a) n = absurd n
    unstored f p h (Call g) n = absurd n
    unstored f p h (Ensure k) n = absurd n
    unstored f p h (Goto q) n = absurd n
    unstored f p h (Either q r) n = absurd n
    unstored f p h Return n = absurd n

-- of a text that has been read and that rows 7 to 10 do not refuse
pub rows-mean : (text : List ℕ) (t : Task) → read_text text ≡ task t → link_rows t ≡ none → RowsMean t
rows-mean text t e n = rows-mean-of t (read-shaped text t e) ((links-none t).0 n)
