-- Two orders that both go by falling cost list the same costs, in the same sequence, whatever else they ask (document 02, request 10).
use Prim.Native.Nat.{ℕ, ◌≤◌, ◌<◌}
use mathlib.Core.Bool.{Bool, not}
use mathlib.Core.List.Memᴰ
use mathlib.Core.List.{List, [], ◌∷◌, map, Memᴰ}
use mathlib.Core.Logic.{inl, ⊎_elim}
use mathlib.Core.Path.{◌≡◌, refl, sym, ap, ◌∙◌}
use native.Mathlib.Decide.{dec_lt}
use native.Mathlib.Omega.{arith}
use lib.Dec.{T, T_not, ltb, ltb→lt, nltb→le}
use lib.ListN.{take}
use Rattle.model.specs.Limits.{most_dearest}
use Rattle.model.specs.Basic.{larger_first, inserted, sorted}
use Rattle.model.specs.Sheet.{Record}
use Rattle.model.specs.Dearest.{placed_before, saved_before, dearer, dearest}
use Rattle.theory.specs.Order.{Pairs, dearer_before}
use Rattle.theory.proofs.Lists.{by-test, mem-map}
use Rattle.theory.proofs.Sorting.{first_holds, pairs-inserted, map-sorted}

-- ---- numbers by falling size

abbrev larger : ℕ → ℕ → Bool
larger a b = ltb b a

-- a number that none is above is put in first
first-inserted : (c : ℕ) (l : List ℕ) → ((z : ℕ) → Memᴰ z l → z ≤ c) → inserted larger c l ≡ c ∷ l
unfolding inserted
first-inserted c [] a = refl
first-inserted c (d ∷ l) a =
    by-test (λ (k : List ℕ). k ≡ c ∷ d ∷ l) (ltb d c) (λ h. refl)
    (λ h.
    let e : d ≡ c = omega (arith, nltb→le d c h, a d (Memᴰ.head refl)) in
    ap (λ k. d ∷ k) (first-inserted c l (λ z m. a z (Memᴰ.tail m))) ∙ (λ i. e i ∷ sym e i ∷ l))

-- one that is not above the first is put in behind it
next-inserted : (c d : ℕ) (l : List ℕ) → c ≤ d → inserted larger c (d ∷ l) ≡ d ∷ inserted larger c l
unfolding inserted
next-inserted c d l h =
    by-test (λ (k : List ℕ). k ≡ d ∷ inserted larger c l) (ltb d c) (λ k. absurd (omega (arith, ltb→lt d c k))) (λ k. refl)

-- ---- orders that go by a number first

-- no element comes before one with a larger number
pub record ByFirst {A : Type 0} (before : A → A → Bool) (cost : A → ℕ) : Type 0 where
  pub before_falls : (x y : A) → T (before x y) → cost y ≤ cost x
  pub other-falls : (x y : A) → T (not (before x y)) → cost x ≤ cost y

pub by_first : {A : Type 0} (cost : A → ℕ) (rest : A → A → Bool) → ByFirst (λ x y. larger_first (cost x) (cost y) (rest x y)) cost
by_first cost rest = record {
  before_falls = λ x y h. ⊎_elim (λ (k : cost y < cost x). omega arith) (λ k. omega (arith, k.0)) ((first_holds (cost y) (cost x) (rest x y)).0 h);
  other-falls = λ x y h. elim (dec_lt (cost y) (cost x)) [
    | yes k ↦ absurd (T_not (larger_first (cost x) (cost y) (rest x y)) h ((first_holds (cost y) (cost x) (rest x y)).1 (inl k)))
    | no k ↦ omega arith
  ];
}

module _ {A : Type 0} {before : A → A → Bool} {cost : A → ℕ} (o : ByFirst before cost) where
  -- no number in the list is above an earlier one
  abbrev Falling : List A → Type 0
  Falling l = Pairs (λ x y. cost y ≤ cost x) l

  -- where an element is put in, so is its number; among equal numbers the place does not show
  costs-inserted : (x : A) (l : List A) → Falling l → map cost (inserted before x l) ≡ inserted larger (cost x) (map cost l)
  unfolding inserted
  costs-inserted x [] p = refl
  costs-inserted x (y ∷ l) p =
      by-test (λ (k : List A). map cost k ≡ inserted larger (cost x) (map cost (y ∷ l))) (before x y)
      (λ h. sym (first-inserted (cost x) (map cost (y ∷ l)) (λ z m. all-below h (mem-map cost (y ∷ l) m))))
      (λ h. ap (λ k. cost y ∷ k) (costs-inserted x l p.1) ∙ sym (next-inserted (cost x) (cost y) (map cost l) (o.other-falls x y h)))
    where
      all-below : T (before x y) → {z : ℕ} → (w : A) × Memᴰ w (y ∷ l) × (z ≡ cost w) → z ≤ cost x
      all-below h r =
          let c = o.before_falls x y h in
          ⊎_elim (λ (e : r.0 ≡ y). omega (arith, c, ap cost e, r.2)) (λ k. omega (arith, c, p.0 r.0 k, r.2)) (Memᴰ.cases_cons r.1)

  -- the numbers of the first n are the first n of the numbers
  pub costs-first : (n : ℕ) (l : List A) → map cost (take n (sorted before l)) ≡ take n (sorted larger (map cost l))
  costs-first n l =
      map-sorted cost before larger (λ x. Unit {0}) Falling
      (λ x k u p. (
        costs-inserted x k p,
        pairs-inserted (λ x y. cost y ≤ cost x) before (λ x y z a b. omega arith) x k (λ y m h. o.before_falls x y h) (λ y m h. o.other-falls x y h) p,
      ))
      tt n l (λ x m. tt)

-- ---- two such orders

pub costs-same : {A : Type 0} {one other : A → A → Bool} {cost : A → ℕ} → ByFirst one cost → ByFirst other cost → (n : ℕ) (l : List A)
    → map cost (take n (sorted one l)) ≡ map cost (take n (sorted other l))
costs-same a b n l = costs-first a n l ∙ sym (costs-first b n l)

-- the list of the dearest points has the costs that the order of request 2 gives it, in their sequence
pub costs-stay : (l : List Record) → map (λ x. x.figures.cost) (dearest l) ≡ map (λ x. x.figures.cost) (take most_dearest (sorted dearer_before l))
unfolding dearest dearer
costs-stay l =
    let here : ByFirst dearer (λ x. x.figures.cost) = by_first (λ x. x.figures.cost) saved_before in
    let there : ByFirst dearer_before (λ x. x.figures.cost) = by_first (λ x. x.figures.cost) placed_before in
    costs-same here there most_dearest l
