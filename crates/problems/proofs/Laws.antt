-- A bit that is not in a set, and a buffer that a loop fills.
use Prim.Native.Nat.{ℕ, ◌+◌, ◌≤◌, ◌<◌}
use native.Mathlib.Omega.{arith}
use mathlib.Core.Path.{◌≡◌}
use mathlib.Core.Bool.{Bool, not}
use mathlib.Core.List.{List}
use mathlib.Core.Logic.{◌↔◌}
use lib.Dec.{T, T_not, not_T}
use lib.ListN.{length, set, take}
use Rattle.std.proofs.lemmas.List.{get_or-take, length-take-le}
use Rattle.bits.specs.Bits.{set_bits, bit, Marks}
use Rattle.bits.proofs.Laws.{bit_le, marked}
use Rattle.tables.specs.Tables.{item}
use Rattle.tables.proofs.Laws.{set-each}
use Rattle.tables.proofs.Valid.{kept_same, kept-later, kept_on, kept_set}
use Rattle.problems.specs.Problems.{Filled}

-- a bit that is not in a set
pub unmarked : {t : ℕ → Bool} {m : ℕ} → Marks t m → (j : ℕ) → j < set_bits → (bit m j ≡ 0) ↔ T (not (t j))
unmarked {t} {m} k j h = (
  λ e. not_T (t j) (λ b. omega (arith, (marked k j h).1 b)),
  λ e. let n : bit m j ≡ 1 → ⊥ = λ b. T_not (t j) e ((marked k j h).0 b) in omega (arith, bit_le m j),
)

-- a buffer of which nothing is filled, and one more entry
pub filled_none : {P : ℕ → ℕ → Type 0} (l : List ℕ) → Filled P 0 l l
filled_none l = record { each = λ p h. absurd (omega arith); kept = kept_same 0 l }

pub filled_more : (P : ℕ → ℕ → Type 0) (l : List ℕ) {l₀ : List ℕ} (p v : ℕ) → p < length l → P p v → Filled P p l₀ l
    → Filled P (p + 1) l₀ (set l p v)
filled_more P l p v h i f =
    record {
      each = set-each (λ q u. q < p + 1 → P q u) l h (λ _. i) (λ q e k. f.each q (omega arith));
      kept = kept_on (kept-later 1 f.kept) (kept_set l p v (omega arith));
    }

pub filled-as : {P Q : ℕ → ℕ → Type 0} {n : ℕ} {l l' : List ℕ} → ((p v : ℕ) → p < n → P p v → Q p v) → Filled P n l l' → Filled Q n l l'
filled-as {l' = l'} f a = record { each = λ p h. f p (item l' p) h (a.each p h); kept = a.kept }

-- what is read off the first n sets
pub filled-front : (R : ℕ → ℕ → Type 0) (sets : List ℕ) {n : ℕ} {l l' : List ℕ} → n ≤ length sets
    → Filled (λ p v. R (item (take n sets) p) v) (length (take n sets)) l l' → Filled (λ p v. R (item sets p) v) n l l'
filled-front R sets {n} {l} {l'} h f =
    let e : length (take n sets) ≡ n = length-take-le n sets h in
    let k = rw e at f in
    record { each = λ p i. rw (← get_or-take n sets p 0 i) (k.each p i); kept = k.kept }
