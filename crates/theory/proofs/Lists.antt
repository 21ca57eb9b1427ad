-- Laws of the functions of the model's Basic: what is a member of a list that they make, that the largest and the smallest number that they find is one,
-- and lists joined one after the other. The walks and the arrivals are proved from these.
use Rattle.std.specs.Prelude.{if◌then◌else◌}
use Prim.Native.Nat.{ℕ, zero, suc, ◌+◌, ◌-◌, ◌*◌, ◌≤◌, ◌<◌, min, max}
use mathlib.Core.Bool.{Bool, true, false, not, ◌&&◌, ◌||◌}
use mathlib.Core.List.Memᴰ
use mathlib.Core.List.{List, [], ◌∷◌, Memᴰ}
use mathlib.Core.List.{◌++◌, map, map-append, append_assoc, append-nil}
use mathlib.Core.Logic.{◌↔◌, ◌⊎◌, inl, inr, ⊎_elim}
use mathlib.Core.Path.{◌≡◌, refl, sym, ap, ◌∙◌}
use native.Mathlib.Decide.{dec_le, dec_lt, ℕ_discrete}
use native.Mathlib.Nat.{zero-add, add-zero}
use native.Mathlib.Numerals.{add-one}
use native.Mathlib.Omega.{arith}
use lib.Dec.{T, T_not, eqb, eqb→eq}
use lib.ListN.{length, get_or, length-append}
use Rattle.model.specs.Basic.{any, select, joined, sum_of, largest, smallest, count_from, up_to, above_all, lowest_from, lowest}
use Rattle.model.specs.Walk.{Largest, Smallest}

-- what holds of both ways of a test holds of the chosen one
pub by-test : {X : Type 0} (P : X → Type 0) (t : Bool) {x y : X} → (T t → P x) → (T (not t) → P y) → P (if t then x else y)
by-test P true f g = f tt
by-test P false f g = g tt

-- tests that hold together are the same
pub same_test : (a b : Bool) → (T a → T b) → (T b → T a) → a ≡ b
same_test true true f g = refl
same_test true false f g = absurd (f tt)
same_test false true f g = absurd (g tt)
same_test false false f g = refl

-- what holds of two numbers holds of the larger one
pub by-max : (P : ℕ → Type 0) (a b : ℕ) → P a → P b → P (max a b)
by-max P a b x y =
    elim (dec_le a b) [
      | yes h ↦ let e : max a b ≡ b = omega arith in rw e y
      | no h ↦ let e : max a b ≡ a = omega arith in rw e x
    ]

-- what holds of two numbers holds of the smaller one
pub by-min : (P : ℕ → Type 0) (a b : ℕ) → P a → P b → P (min a b)
by-min P a b x y =
    elim (dec_le a b) [
      | yes h ↦ let e : min a b ≡ a = omega arith in rw e x
      | no h ↦ let e : min a b ≡ b = omega arith in rw e y
    ]

-- a test that asks for one of two
pub or-holds : (a b : Bool) → T (a || b) ↔ (T a ⊎ T b)
or-holds true b = (λ h. inl tt, λ h. tt)
or-holds false b = (inr, ⊎_elim absurd (λ h. h))

-- two numbers that have to be equal only where a third is not 0
pub or-equal : (n a b : ℕ) → T (eqb n 0 || eqb a b) → 0 < n → a ≡ b
or-equal n a b h l = ⊎_elim (λ z. absurd (omega (arith, eqb→eq n 0 z))) (eqb→eq a b) ((or-holds (eqb n 0) (eqb a b)).0 h)

-- a test that asks for both of two
pub and-holds : (a b : Bool) → T (a && b) ↔ (T a × T b)
and-holds true b = (λ h. (tt, h), λ h. h.1)
and-holds false b = (absurd, λ h. h.0)

module _ {A : Type 0} where
  -- some element passes the test
  pub any-holds : (t : A → Bool) (l : List A) → T (any t l) ↔ ((a : A) × Memᴰ a l × T (t a))
  unfolding any
  any-holds t [] = (absurd, λ m. absurd (Memᴰ.not-nil m.1))
  any-holds t (a ∷ l) = (
    λ h. ⊎_elim (λ x. (a, Memᴰ.head refl, x))
        (λ x. let m = (any-holds t l).0 x in (m.0, Memᴰ.tail m.1, m.2)) ((or-holds (t a) (any t l)).0 h),
    λ m. (or-holds (t a) (any t l)).1
        (⊎_elim (λ e. inl (rw e at m.2)) (λ k. inr ((any-holds t l).1 (m.0, k, m.2))) (Memᴰ.cases_cons m.1)),
  )

  -- the members of the selected list
  pub mem-select : (t : A → Bool) (l : List A) {a : A} → Memᴰ a (select t l) ↔ (Memᴰ a l × T (t a))
  unfolding select
  mem-select t [] = (λ m. absurd (Memᴰ.not-nil m), λ m. absurd (Memᴰ.not-nil m.0))
  mem-select t (b ∷ l) {a} =
      by-test (λ k. Memᴰ a k ↔ (Memᴰ a (b ∷ l) × T (t a))) (t b)
      (λ h. (
        λ m. ⊎_elim (λ e. (Memᴰ.head e, rw e h))
            (λ k. let r = (mem-select t l).0 k in (Memᴰ.tail r.0, r.1)) (Memᴰ.cases_cons m),
        λ m. ⊎_elim (λ e. Memᴰ.head e) (λ k. Memᴰ.tail ((mem-select t l).1 (k, m.1))) (Memᴰ.cases_cons m.0),
      ))
      (λ h. (
        λ k. let r = (mem-select t l).0 k in (Memᴰ.tail r.0, r.1),
        λ m. ⊎_elim (λ e. absurd (T_not (t b) h (rw e at m.1))) (λ k. (mem-select t l).1 (k, m.1)) (Memᴰ.cases_cons m.0),
      ))

  -- tests that agree on the members select the same
  pub select-cong : {t u : A → Bool} (l : List A) → ((a : A) → Memᴰ a l → t a ≡ u a) → select t l ≡ select u l
  unfolding select
  select-cong [] e = refl
  select-cong (a ∷ l) e = rw (e a (Memᴰ.head refl), select-cong l (λ b m. e b (Memᴰ.tail m)))

  -- no more than there are; a test that passes less selects no more, and less where some element passes only the other
  pub select-most : (t : A → Bool) (l : List A) → length (select t l) ≤ length l
  unfolding select
  select-most t [] = omega arith
  select-most t (a ∷ l) =
      by-test (λ k. length k ≤ suc (length l)) (t a) {x = a ∷ select t l} {y = select t l} (λ h. omega (arith, select-most t l))
      (λ h. omega (arith, select-most t l))

  module _ (t u : A → Bool) (less : (a : A) → T (t a) → T (u a)) where
    pub select-fewer : (l : List A) → length (select t l) ≤ length (select u l)
    unfolding select
    select-fewer [] = omega arith
    select-fewer (a ∷ l) =
        by-test (λ k. length k ≤ length (select u (a ∷ l))) (t a) {x = a ∷ select t l} {y = select t l}
        (λ h. by-test (λ k. length (a ∷ select t l) ≤ length k) (u a) {x = a ∷ select u l} {y = select u l}
        (λ i. omega (arith, select-fewer l)) (λ i. absurd (T_not (u a) i (less a h))))
        (λ h. by-test (λ k. length (select t l) ≤ length k) (u a) {x = a ∷ select u l} {y = select u l}
        (λ i. omega (arith, select-fewer l)) (λ i. select-fewer l))

    pub select-less : {a : A} (l : List A) → Memᴰ a l → T (u a) → T (not (t a)) → length (select t l) < length (select u l)
    unfolding select
    select-less [] m y n = absurd (Memᴰ.not-nil m)
    select-less {a} (b ∷ l) m y n =
        by-test (λ k. length k < length (select u (b ∷ l))) (t b) {x = b ∷ select t l} {y = select t l}
        (λ h. by-test (λ k. length (b ∷ select t l) < length k) (u b) {x = b ∷ select u l} {y = select u l}
        (λ i. omega (arith, select-less l (behind h (Memᴰ.cases_cons m)) y n)) (λ i. absurd (T_not (u b) i (less b h))))
        (λ h. by-test (λ k. length (select t l) < length k) (u b) {x = b ∷ select u l} {y = select u l}
        (λ i. omega (arith, select-fewer l)) (λ i. select-less l (later i (Memᴰ.cases_cons m)) y n))
      where
        behind : T (t b) → (a ≡ b) ⊎ Memᴰ a l → Memᴰ a l
        behind h = ⊎_elim (λ e. absurd (T_not (t a) n (rw e h))) (λ k. k)

        later : T (not (u b)) → (a ≡ b) ⊎ Memᴰ a l → Memᴰ a l
        later i = ⊎_elim (λ e. absurd (T_not (u b) i (rw e at y))) (λ k. k)

  -- the members of the joined lists
  pub mem-joined : {B : Type 0} (f : A → List B) (l : List A) {b : B}
      → Memᴰ b (joined f l) ↔ ((a : A) × Memᴰ a l × Memᴰ b (f a))
  unfolding joined
  mem-joined f [] = (λ m. absurd (Memᴰ.not-nil m), λ m. absurd (Memᴰ.not-nil m.1))
  mem-joined f (a ∷ l) = (
    λ h. ⊎_elim (λ x. (a, Memᴰ.head refl, x))
        (λ x. let m = (mem-joined f l).0 x in (m.0, Memᴰ.tail m.1, m.2)) (Memᴰ.append_cases (f a) h),
    λ m. ⊎_elim (λ e. Memᴰ.append_left (joined f l) (rw e at m.2))
        (λ k. Memᴰ.append_right (f a) ((mem-joined f l).1 (m.0, k, m.2))) (Memᴰ.cases_cons m.1),
  )

-- the members of i, i + 1, .., n of them
pub mem-count_from : (i n : ℕ) {j : ℕ} → Memᴰ j (count_from i n) ↔ ((i ≤ j) × (j < i + n))
unfolding count_from
mem-count_from i zero = (λ m. absurd (Memᴰ.not-nil m), λ m. absurd (omega arith))
mem-count_from i (suc n) {j} = (
  λ m. ⊎_elim (λ (e : j ≡ i). omega arith) (λ k. let r = (mem-count_from (suc i) n).0 k in omega arith) (Memᴰ.cases_cons m),
  λ m. elim (ℕ_discrete j i) [ yes e ↦ Memᴰ.head e | no e ↦ Memᴰ.tail ((mem-count_from (suc i) n).1 (omega arith)) ],
)

-- the members of the numbers below n
pub mem-up_to : (n : ℕ) {i : ℕ} → Memᴰ i (up_to n) ↔ (i < n)
mem-up_to n = (λ m. let r = (mem-count_from 0 n).0 m in omega arith, λ h. (mem-count_from 0 n).1 (omega arith))

module _ {A : Type 0} (f : A → ℕ) where
  -- what holds of 0 and of every element's number holds of the largest one
  pub by-largest : (P : ℕ → Type 0) (l : List A) → P 0 → ((a : A) → Memᴰ a l → P (f a)) → P (largest f l)
  unfolding largest
  by-largest P [] z g = z
  by-largest P (a ∷ l) z g =
      by-max P (f a) (largest f l) (g a (Memᴰ.head refl)) (by-largest P l z (λ b m. g b (Memᴰ.tail m)))

  -- no element's number is above the largest one
  pub largest-bounds : {a : A} {l : List A} → Memᴰ a l → f a ≤ largest f l
  unfolding largest
  largest-bounds (Memᴰ.head e) = let k = ap f e in omega arith
  largest-bounds (Memᴰ.tail m) = let k = largest-bounds m in omega arith

  -- the largest number of a list
  pub largest-largest : (l : List A) → Largest (λ m. (a : A) × Memᴰ a l × (m ≡ f a)) (largest f l)
  largest-largest l = record {
    bounds = λ n h. let k = largest-bounds h.1 in omega arith;
    attained =
        by-largest (λ m. 0 < m → (a : A) × Memᴰ a l × (m ≡ f a)) l (λ h. absurd (omega arith)) (λ a m h. (a, m, refl));
  }

  -- no element's number is below the smallest one
  pub smallest-bounds : {a : A} {l : List A} → Memᴰ a l → smallest f l ≤ f a
  unfolding smallest
  smallest-bounds {l = []} m = absurd (Memᴰ.not-nil m)
  smallest-bounds {l = b ∷ []} m = let k = ap f (Memᴰ.eq_of_singleton m) in omega arith
  smallest-bounds {l = b ∷ c ∷ l} m =
      ⊎_elim (λ e. let k = ap f e in omega arith) (λ n. let k = smallest-bounds {l = c ∷ l} n in omega arith) (Memᴰ.cases_cons m)

  smallest-among : (a : A) (l : List A) → (b : A) × Memᴰ b (a ∷ l) × (smallest f (a ∷ l) ≡ f b)
  unfolding smallest
  smallest-among a [] = (a, Memᴰ.head refl, refl)
  smallest-among a (c ∷ l) =
      by-min (λ m. (b : A) × Memᴰ b (a ∷ c ∷ l) × (m ≡ f b)) (f a) (smallest f (c ∷ l))
      (a, Memᴰ.head refl, refl)
      (let r = smallest-among c l in (r.0, Memᴰ.tail r.1, r.2))

  -- the smallest number of a list that has an element is an element's
  pub smallest-attained : {a : A} {l : List A} → Memᴰ a l → (b : A) × Memᴰ b l × (smallest f l ≡ f b)
  smallest-attained {l = []} m = absurd (Memᴰ.not-nil m)
  smallest-attained {l = c ∷ l} m = smallest-among c l

-- numbers that are no smaller have no smaller largest one, and no smaller smallest one
module _ {A : Type 0} {f g : A → ℕ} where
  pub largest-mono : (l : List A) → ((a : A) → Memᴰ a l → f a ≤ g a) → largest f l ≤ largest g l
  largest-mono l e = by-largest f (λ m. m ≤ largest g l) l (omega arith) (λ a m. omega (arith, e a m, largest-bounds g m))

  pub smallest-mono : (l : List A) → ((a : A) → Memᴰ a l → f a ≤ g a) → smallest f l ≤ smallest g l
  unfolding smallest
  smallest-mono [] e = omega arith
  smallest-mono (a ∷ []) e = e a (Memᴰ.head refl)
  smallest-mono (a ∷ b ∷ l) e = omega (arith, e a (Memᴰ.head refl), smallest-mono (b ∷ l) (λ c m. e c (Memᴰ.tail m)))

module _ (t : ℕ → Bool) where
  -- one more than the largest number below n that passes the test
  pub above-largest : (n : ℕ) → Largest (λ m. (o : ℕ) × (m ≡ suc o) × (o < n) × T (t o)) (above_all t n)
  unfolding above_all
  above-largest zero = record { bounds = λ m h. absurd (omega arith); attained = λ h. absurd (omega arith) }
  above-largest (suc n) =
      by-test (λ k. Largest (λ m. (o : ℕ) × (m ≡ suc o) × (o < suc n) × T (t o)) k) (t n)
      (λ h. record { bounds = λ m k. omega arith; attained = λ k. (n, refl, omega arith, h) })
      (λ h. record {
        bounds = λ m k. elim (ℕ_discrete k.0 n) [
          | yes e ↦ absurd (T_not (t n) h (rw e at k.3))
          | no e ↦ (above-largest n).bounds m (k.0, k.1, omega arith, k.3)
        ];
        attained = λ k. let r = (above-largest n).attained k in (r.0, r.1, omega arith, r.3);
      })

  lowest-within : (i n : ℕ) → (i ≤ lowest_from t i n) × (lowest_from t i n ≤ i + n)
  unfolding lowest_from
  lowest-within i zero = omega arith
  lowest-within i (suc n) =
      by-test (λ k. (i ≤ k) × (k ≤ i + suc n)) (t i) (λ h. omega arith)
      (λ h. let r = lowest-within (suc i) n in omega arith)

  lowest-bounds : (i n j : ℕ) → i ≤ j → j < i + n → T (t j) → lowest_from t i n ≤ j
  unfolding lowest_from
  lowest-bounds i zero j h k x = omega arith
  lowest-bounds i (suc n) j h k x =
      by-test (λ m. m ≤ j) (t i) (λ y. h)
      (λ y. elim (ℕ_discrete j i) [
        | yes e ↦ absurd (T_not (t i) y (rw e at x))
        | no e ↦ lowest-bounds (suc i) n j (omega arith) (omega arith) x
      ])

  lowest-attained : (i n : ℕ) → lowest_from t i n < i + n → T (t (lowest_from t i n))
  unfolding lowest_from
  lowest-attained i zero = λ h. absurd (omega arith)
  lowest-attained i (suc n) =
      by-test (λ m. m < i + suc n → T (t m)) (t i) (λ x h. x) (λ x h. lowest-attained (suc i) n (omega arith))

  -- the smallest number below n that passes the test
  pub lowest-smallest : (n : ℕ) → Smallest (λ o. T (t o)) n (lowest t n)
  lowest-smallest n = record {
    within = let r = lowest-within 0 n in omega arith;
    bounds = λ i h x. lowest-bounds 0 n i (omega arith) (omega arith) x;
    attained = λ h. lowest-attained 0 n (omega arith);
  }

-- two largest numbers of one kind are the same
pub largest-unique : {P : ℕ → Type 0} {m n : ℕ} → Largest P m → Largest P n → m ≡ n
largest-unique {P} {m} {n} a b = omega (arith, under a b, under b a)
  where
    under : {x y : ℕ} → Largest P x → Largest P y → x ≤ y
    under {x} {y} c d = elim (dec_lt 0 x) [ yes h ↦ d.bounds x (c.attained h) | no h ↦ omega arith ]

-- two smallest numbers of one kind are the same
pub smallest-unique : {P : ℕ → Type 0} {n a b : ℕ} → Smallest P n a → Smallest P n b → a ≡ b
smallest-unique {P} {n} {a} {b} x y = omega (arith, under x y, under y x)
  where
    under : {c d : ℕ} → Smallest P n c → Smallest P n d → c ≤ d
    under {c} {d} u v = elim (dec_lt d n) [ yes h ↦ u.bounds d h (v.attained h) | no h ↦ let k = u.within in omega arith ]

-- ---- lists mapped, and joined one after the other

module _ {A B : Type 0} where
  -- the members of a mapped list
  pub mem-map : (g : A → B) (l : List A) {b : B} → Memᴰ b (map g l) → (a : A) × Memᴰ a l × (b ≡ g a)
  mem-map g [] m = absurd (Memᴰ.not-nil m)
  mem-map g (a ∷ l) m =
      ⊎_elim (λ e. (a, Memᴰ.head refl, e)) (λ k. let r = mem-map g l k in (r.0, Memᴰ.tail r.1, r.2)) (Memᴰ.cases_cons m)

  pub map-joined : {C : Type 0} (k : B → C) (g : A → List B) (l : List A) → map k (joined g l) ≡ joined (λ a. map k (g a)) l
  unfolding joined
  map-joined k g [] = refl
  map-joined k g (a ∷ l) = map-append k (g a) (joined g l) ∙ ap (λ r. map k (g a) ++ r) (map-joined k g l)

  pub joined-append : (g : A → List B) (k l : List A) → joined g (k ++ l) ≡ joined g k ++ joined g l
  unfolding joined
  joined-append g [] l = refl
  joined-append g (a ∷ k) l = ap (λ (r : List B). g a ++ r) (joined-append g k l) ∙ sym (append_assoc (g a) (joined g k) (joined g l))

  pub joined_snoc : (g : A → List B) (l : List A) (x : A) → joined g (l ++ (x ∷ [])) ≡ joined g l ++ g x
  unfolding joined
  joined_snoc g l x = joined-append g l (x ∷ []) ∙ ap (λ (r : List B). joined g l ++ r) (append-nil (g x))

  -- one function after another
  pub joined-map : {C : Type 0} (g : B → List C) (k : A → B) (m : A → List C) (l : List A) → ((a : A) → Memᴰ a l → g (k a) ≡ m a)
      → joined g (map k l) ≡ joined m l
  unfolding joined
  joined-map g k m [] e = refl
  joined-map g k m (a ∷ l) e = λ i. e a (Memᴰ.head refl) i ++ joined-map g k m l (λ b j. e b (Memᴰ.tail j)) i

-- the numbers below n + 1 are those below n, and n
count_from-last : (i n : ℕ) → count_from i (suc n) ≡ count_from i n ++ ((i + n) ∷ [])
unfolding count_from
count_from-last i zero = ap (λ (k : ℕ). k ∷ []) (omega arith)
count_from-last i (suc n) =
    ap (λ (l : List ℕ). i ∷ l) (count_from-last (suc i) n)
    ∙ ap (λ (k : ℕ). i ∷ (count_from (suc i) n ++ (k ∷ []))) (omega arith)

pub up_to-next : (n : ℕ) → up_to (n + 1) ≡ up_to n ++ (n ∷ [])
up_to-next n = rw (add-one n) (count_from-last 0 n ∙ ap (λ (k : ℕ). up_to n ++ (k ∷ [])) (zero-add n))

pub length-count_from : (i n : ℕ) → length (count_from i n) ≡ n
unfolding count_from
length-count_from i zero = refl
length-count_from i (suc n) = ap suc (length-count_from (suc i) n)

pub length-up_to : (n : ℕ) → length (up_to n) ≡ n
length-up_to n = length-count_from 0 n

-- functions that agree on the members
pub map_same : {A B : Type 0} (g h : A → B) (l : List A) → ((a : A) → Memᴰ a l → g a ≡ h a) → map g l ≡ map h l
map_same g h [] e = refl
map_same g h (a ∷ l) e = λ i. e a (Memᴰ.head refl) i ∷ map_same g h l (λ b m. e b (Memᴰ.tail m)) i

pub joined_same : {A B : Type 0} (g h : A → List B) (l : List A) → ((a : A) → Memᴰ a l → g a ≡ h a) → joined g l ≡ joined h l
unfolding joined
joined_same g h [] e = refl
joined_same g h (a ∷ l) e = λ i. e a (Memᴰ.head refl) i ++ joined_same g h l (λ b m. e b (Memᴰ.tail m)) i

pub joined-next : {B : Type 0} (g : ℕ → List B) (n : ℕ) → joined g (up_to (n + 1)) ≡ joined g (up_to n) ++ g n
joined-next g n = ap (joined g) (up_to-next n) ∙ joined_snoc g (up_to n) n

-- ---- sums

pub sum-append : {A : Type 0} (f : A → ℕ) (k l : List A) → sum_of f (k ++ l) ≡ sum_of f k + sum_of f l
unfolding sum_of
sum-append f [] l = omega arith
sum-append f (a ∷ k) l = omega (arith, sum-append f k l)

pub sum-snoc : {A : Type 0} (f : A → ℕ) (l : List A) (x : A) → sum_of f (l ++ (x ∷ [])) ≡ sum_of f l + f x
unfolding sum_of
sum-snoc f l x = sum-append f l (x ∷ []) ∙ omega arith

-- of numbers that are at most m
pub sum-most : {A : Type 0} (f : A → ℕ) (m : ℕ) (l : List A) → ((a : A) → Memᴰ a l → f a ≤ m) → sum_of f l ≤ m * length l
unfolding sum_of
sum-most f m [] e = omega arith
sum-most f m (a ∷ l) e = omega (arith, e a (Memᴰ.head refl), sum-most f m l (λ b k. e b (Memᴰ.tail k)))

-- numbers that are no smaller have no smaller sum
pub sum_mono : {A : Type 0} {f g : A → ℕ} (l : List A) → ((a : A) → Memᴰ a l → f a ≤ g a) → sum_of f l ≤ sum_of g l
unfolding sum_of
sum_mono [] e = omega arith
sum_mono (a ∷ l) e = omega (arith, e a (Memᴰ.head refl), sum_mono l (λ b k. e b (Memᴰ.tail k)))

module _ {A B : Type 0} where
  pub sum-map : (f : B → ℕ) (g : A → B) (l : List A) → sum_of f (map g l) ≡ sum_of (λ a. f (g a)) l
  unfolding sum_of
  sum-map f g [] = refl
  sum-map f g (a ∷ l) = ap (λ (n : ℕ). f (g a) + n) (sum-map f g l)

  -- over lists joined one after the other, and their length
  pub sum-joined : (f : B → ℕ) (g : A → List B) (l : List A) → sum_of f (joined g l) ≡ sum_of (λ a. sum_of f (g a)) l
  unfolding sum_of joined
  sum-joined f g [] = refl
  sum-joined f g (a ∷ l) = sum-append f (g a) (joined g l) ∙ ap (λ (n : ℕ). sum_of f (g a) + n) (sum-joined f g l)

  pub length-joined : (g : A → List B) (l : List A) → length (joined g l) ≡ sum_of (λ a. length (g a)) l
  unfolding sum_of joined
  length-joined g [] = refl
  length-joined g (a ∷ l) = length-append (g a) (joined g l) ∙ ap (λ (n : ℕ). length (g a) + n) (length-joined g l)

-- over the numbers below n + 1
pub sum-next : (f : ℕ → ℕ) (n : ℕ) → sum_of f (up_to (n + 1)) ≡ sum_of f (up_to n) + f n
sum-next f n = ap (sum_of f) (up_to-next n) ∙ sum-snoc f (up_to n) n

sum-further : (f : ℕ → ℕ) (k n : ℕ) → sum_of f (up_to k) ≤ sum_of f (up_to (k + n))
sum-further f k zero = rw (add-zero k) (omega arith)
sum-further f k (suc n) =
    let e : k + suc n ≡ k + n + 1 = omega arith in
    rw e (omega (arith, sum-further f k n, sum-next f (k + n)))

-- a summand lies within the sum
pub sum_room : (f : ℕ → ℕ) (k n : ℕ) → k < n → sum_of f (up_to k) + f k ≤ sum_of f (up_to n)
sum_room f k n h =
    let e : k + 1 + (n - (k + 1)) ≡ n = omega arith in
    omega (arith, sum-next f k, rw e at (sum-further f (k + 1) (n - (k + 1))))

-- over the places of a list
sum-later : (f : ℕ → ℕ) (i n : ℕ) → sum_of f (count_from (suc i) n) ≡ sum_of (λ j. f (suc j)) (count_from i n)
unfolding sum_of count_from
sum-later f i zero = refl
sum-later f i (suc n) = ap (λ (m : ℕ). f (suc i) + m) (sum-later f (suc i) n)

pub sum-places : {A : Type 0} (f : A → ℕ) (l : List A) (d : A) → sum_of (λ i. f (get_or l i d)) (up_to (length l)) ≡ sum_of f l
unfolding sum_of count_from
sum-places f [] d = refl
sum-places f (a ∷ l) d = ap (λ (m : ℕ). f a + m) (sum-later (λ i. f (get_or (a ∷ l) i d)) 0 (length l) ∙ sum-places f l d)
