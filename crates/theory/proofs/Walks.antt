-- The computed test `meets` agrees with the walks that it stands for: as many rounds as there are points are enough for walks of
-- every length, because a table that only rises stands still after that many rounds.
use Prim.Native.Nat.{ℕ, zero, suc, ◌+◌, ◌*◌, ◌≤◌, ◌<◌}
use mathlib.Core.Bool.{Bool, true, false, not, ◌&&◌}
use mathlib.Core.List.{List, Memᴰ}
use mathlib.Core.Logic.{◌↔◌, ◌⊎◌, inl, inr, ⊎_elim}
use native.Mathlib.Decide.{dec_lt, ℕ_discrete}
use native.Mathlib.Omega.{arith}
use lib.Dec.{T, T_not, not_T, eqb, eqb→eq, eqb_refl}
use Rattle.model.specs.Basic.{any}
use Rattle.model.specs.Walk.{Walk, Met, meets}
use Rattle.theory.proofs.Lists.{or-holds, and-holds, any-holds}

-- round n of the table raises none of its first k numbers
abbrev pub Still : (ℕ → ℕ → ℕ) → ℕ → ℕ → Type 0
Still table k n = (p : ℕ) → p < k → table (suc n) p ≤ table n p

total : (ℕ → ℕ) → ℕ → ℕ
total row zero = 0
total row (suc k) = row k + total row k

module _
    (N B : ℕ)
    (table : ℕ → ℕ → ℕ)
    (low : (n p : ℕ) → p < N → table n p ≤ B)
    (rises : (n p : ℕ) → p < N → table n p ≤ table (suc n) p)
    (stays : (n : ℕ) → Still table N n → Still table N (suc n)) where
  total-low : (n k : ℕ) → k ≤ N → total (table n) k ≤ k * B
  unfolding total
  total-low n zero h = omega arith
  total-low n (suc k) h = omega (arith, low n k h, total-low n k (omega arith))

  total-rises : (n k : ℕ) → k ≤ N → total (table n) k ≤ total (table (suc n)) k
  unfolding total
  total-rises n zero h = omega arith
  total-rises n (suc k) h = omega (arith, rises n k h, total-rises n k (omega arith))

  one-round : (n k : ℕ) → k ≤ N → Still table k n ⊎ (total (table n) k < total (table (suc n)) k)
  unfolding total
  one-round n zero h = inl (λ p l. absurd (omega arith))
  one-round n (suc k) h =
      ⊎_elim
      (λ (s : Still table k n). elim (dec_lt (table n k) (table (suc n) k)) [
        | yes g ↦ inr (omega (arith, total-rises n k (omega arith)))
        | no g ↦ inl (λ p l. elim (ℕ_discrete p k) [ yes e ↦ rw e (omega arith) | no e ↦ s p (omega arith) ])
      ])
      (λ g. inr (omega (arith, rises n k h)))
      (one-round n k (omega arith))

  all-rounds : (n : ℕ) → Still table N n ⊎ (n < total (table (suc n)) N)
  all-rounds zero = ⊎_elim inl (λ g. inr (omega arith)) (one-round 0 N (omega arith))
  all-rounds (suc n) =
      ⊎_elim (λ s. inl (stays n s)) (λ h. ⊎_elim inl (λ g. inr (omega arith)) (one-round (suc n) N (omega arith))) (all-rounds n)

  -- a table of N numbers up to B that only rises, and stays once a round raises nothing, stands still after N * B rounds
  pub rounds-still : (n : ℕ) → N * B ≤ n → Still table N n
  rounds-still n h = ⊎_elim (λ s. s) (λ g. absurd (omega (arith, total-low (suc n) N (omega arith)))) (all-rounds n)

bit : Bool → ℕ
bit true = 1
bit false = 0

bit-low : (a : Bool) → bit a ≤ 1
unfolding bit
bit-low true = omega arith
bit-low false = omega arith

bit_up : (a b : Bool) → (T a → T b) → bit a ≤ bit b
unfolding bit
bit_up true true f = omega arith
bit_up true false f = absurd (f tt)
bit_up false b f = omega arith

bit-down : (a b : Bool) → bit a ≤ bit b → T a → T b
unfolding bit
bit-down true true h x = tt
bit-down true false h x = absurd (omega arith)
bit-down false b h x = absurd x

module _ (next : ℕ → List ℕ) (stop goal : ℕ → Bool) where
  -- a point of the kind goal meets one
  pub met-here : {p : ℕ} → T (goal p) → Met next stop goal p
  met-here {p} g = (p, Walk.here, g)

  -- a point that does not stop the walk meets what a point meets to which it leads
  pub met-step : {p q : ℕ} → T (not (stop p)) → Memᴰ q (next p) → Met next stop goal q → Met next stop goal p
  met-step s m w = (w.0, Walk.step s m w.1, w.2)

  -- a point that meets one is one, or leads to a point that meets one
  pub met-cases : {p : ℕ} → Met next stop goal p
      → T (goal p) ⊎ (T (not (stop p)) × ((q : ℕ) × Memᴰ q (next p) × Met next stop goal q))
  met-cases w = along w.1 w.2
    where
      along : {p r : ℕ} → Walk next stop p r → T (goal r)
          → T (goal p) ⊎ (T (not (stop p)) × ((q : ℕ) × Memᴰ q (next p) × Met next stop goal q))
      along Walk.here g = inl g
      along {r} (Walk.step {q = q} s m v) g = inr (s, (q, m, (r, v, g)))

  -- what is so at each point of the kind goal, and is handed back over each lead, is so where one is met
  pub by-met : (P : ℕ → Type 0) → ((p : ℕ) → T (goal p) → P p)
      → ((p q : ℕ) → T (not (stop p)) → Memᴰ q (next p) → P q → P p) → {p : ℕ} → Met next stop goal p → P p
  by-met P base back w = along w.1 w.2
    where
      along : {p q : ℕ} → Walk next stop p q → T (goal q) → P p
      along {p} Walk.here g = base p g
      along {p} (Walk.step {q = q} s m v) g = back p q s m (along v g)

  -- one round of the test
  pub meets-round : (n p : ℕ)
      → T (meets next stop goal (suc n) p)
      ↔ (T (goal p) ⊎ (T (not (stop p)) × ((q : ℕ) × Memᴰ q (next p) × T (meets next stop goal n q))))
  unfolding meets
  meets-round n p =
      let more = any-holds (λ q. meets next stop goal n q) (next p) in
      let both = and-holds (not (stop p)) (any (λ q. meets next stop goal n q) (next p)) in
      let either = or-holds (goal p) (not (stop p) && any (λ q. meets next stop goal n q) (next p)) in (
        λ h. ⊎_elim inl (λ k. inr ((both.0 k).0, more.0 (both.0 k).1)) (either.0 h),
        λ h. either.1 (⊎_elim inl (λ k. inr (both.1 (k.0, more.1 k.1))) h),
      )

  -- what the test says is so
  pub meets-sound : (n p : ℕ) → T (meets next stop goal n p) → Met next stop goal p
  unfolding meets
  meets-sound zero p h = absurd h
  meets-sound (suc n) p h =
      ⊎_elim met-here (λ k. met-step k.0 k.1.1 (meets-sound n k.1.0 k.1.2)) ((meets-round n p).0 h)

  kept : (n k p : ℕ) → ((q : ℕ) → Memᴰ q (next p) → T (meets next stop goal n q) → T (meets next stop goal k q))
      → T (meets next stop goal (suc n) p) → T (meets next stop goal (suc k) p)
  kept n k p f h =
      (meets-round k p).1
      (⊎_elim inl (λ w. inr (w.0, (w.1.0, w.1.1, f w.1.0 w.1.1 w.1.2))) ((meets-round n p).0 h))

  meets-more : (n p : ℕ) → T (meets next stop goal n p) → T (meets next stop goal (suc n) p)
  unfolding meets
  meets-more zero p h = absurd h
  meets-more (suc n) p h = kept n (suc n) p (λ q m. meets-more n q) h

  module _ (N : ℕ) (inside : (p q : ℕ) → p < N → Memᴰ q (next p) → q < N) where
    row : ℕ → ℕ → ℕ
    row n p = bit (meets next stop goal n p)

    enough : (p : ℕ) → p < N → T (meets next stop goal (suc N) p) → T (meets next stop goal N p)
    unfolding row
    enough p l =
        bit-down _ _
        (rounds-still N 1 row (λ n q h. bit-low _) (λ n q h. bit_up _ _ (meets-more n q))
        (λ n s q h. bit_up _ _ (kept (suc n) n q (λ r m. bit-down _ _ (s r (inside q r h m))))) N (omega arith) p l)

    -- as many rounds as there are points find a walk of any length
    pub meets-complete : {p : ℕ} → p < N → Met next stop goal p → T (meets next stop goal N p)
    meets-complete l w =
        by-met (λ p. p < N → T (meets next stop goal N p)) (λ p g l. enough p l ((meets-round N p).1 (inl g)))
        (λ p q s m f l. enough p l ((meets-round N p).1 (inr (s, (q, m, f (inside p q l m)))))) w l

module _ {next : ℕ → List ℕ} {stop : ℕ → Bool} where
  -- two walks, one after the other
  pub walk-trans : {p q r : ℕ} → Walk next stop p q → Walk next stop q r → Walk next stop p r
  walk-trans Walk.here v = v
  walk-trans (Walk.step s m w) v = Walk.step s m (walk-trans w v)

  -- a walk that passes no point of one kind passes no point of a narrower kind
  pub walk-wider : {halt : ℕ → Bool} {p q : ℕ} → ((r : ℕ) → T (halt r) → T (stop r)) → Walk next stop p q → Walk next halt p q
  walk-wider h Walk.here = Walk.here
  walk-wider {halt} h (Walk.step {p = p} s m v) = Walk.step (not_T (halt p) (λ k. T_not (stop p) s (h p k))) m (walk-wider h v)

  -- a walk to q meets q
  pub walk-met : {p q : ℕ} → Walk next stop p q ↔ Met next stop (λ r. eqb q r) p
  walk-met {p} {q} = (λ w. (q, w, eqb_refl q), λ m. rw (eqb→eq q m.0 m.2) m.1)
