-- Which blocks of the cache and which addresses of the memory change when numbers move between them. Two addresses less than the cache's size
-- apart have different blocks; from there on no proof mentions a remainder.
use Prim.Native.Nat.{ℕ, zero, suc, ◌+◌, ◌/◌, ◌%◌, ◌≤◌, ◌<◌}
use mathlib.Core.List.{List}
use mathlib.Core.Path.{◌≡◌, refl, ◌∙◌}
use native.Mathlib.Decide.{dec_le, ℕ_discrete}
use native.Mathlib.Nat.{mul-le-mul_right, suc-mul, div-add-mod', mod-lt}
use native.Mathlib.Omega.{arith}
use lib.ListN.{length, get_or, length-set}
use lib.Seq.{get_or-set_same, get_or-set_other}
use Rattle.model.specs.Core.{spilled, filled}

-- two addresses that lie less than s apart have different blocks in a cache of s blocks
pub apart : (s x y : ℕ) → x < y → y < x + s → x % s ≡ y % s → ⊥
apart s x y h k e =
    elim (dec_le (y / s) (x / s)) [
      | yes d ↦ omega (arith, mul-le-mul_right s d, div-add-mod' x s, div-add-mod' y s)
      | no d ↦ let m : suc (x / s) ≤ y / s = omega arith in
          omega (arith, mul-le-mul_right s m, suc-mul (x / s) s, div-add-mod' x s, div-add-mod' y s)
    ]

module _ (cache memory : List ℕ) (a : ℕ) where
  pub length-spilled : (k : ℕ) → length (spilled cache memory a k) ≡ length memory
  unfolding spilled
  length-spilled zero = refl
  length-spilled (suc k) = simp length-set (length-spilled k)

  pub length-filled : (k : ℕ) → length (filled memory cache a k) ≡ length cache
  unfolding filled
  length-filled zero = refl
  length-filled (suc k) = simp length-set (length-filled k)

  -- an address among those spilled has its block's number
  pub spilled-in : (k x : ℕ) → a ≤ x → x < a + k → x < length memory
      → get_or (spilled cache memory a k) x 0 ≡ get_or cache (x % length cache) 0
  unfolding spilled
  spilled-in zero x h l m = absurd (omega arith)
  spilled-in (suc k) x h l m =
      elim (ℕ_discrete x (a + k)) [
        | yes e ↦ rw e (get_or-set_same (spilled cache memory a k) (a + k) _ 0 (omega (arith, length-spilled k)))
        | no e ↦ get_or-set_other (spilled cache memory a k) (a + k) x _ 0 e ∙ spilled-in k x h (omega arith) m
      ]

  -- any other keeps its number
  pub spilled-out : (k x : ℕ) → (a ≤ x → a + k ≤ x) → get_or (spilled cache memory a k) x 0 ≡ get_or memory x 0
  unfolding spilled
  spilled-out zero x h = refl
  spilled-out (suc k) x h =
      get_or-set_other (spilled cache memory a k) (a + k) x _ 0 (λ e. omega (arith, h (omega arith)))
      ∙ spilled-out k x (λ l. omega (arith, h l))

  -- the block of an address among those filled has the number of the address
  pub filled_in : (k x : ℕ) → k ≤ length cache → a ≤ x → x < a + k
      → get_or (filled memory cache a k) (x % length cache) 0 ≡ get_or memory x 0
  unfolding filled
  filled_in zero x s h l = absurd (omega arith)
  filled_in (suc k) x s h l =
      elim (ℕ_discrete x (a + k)) [
        | yes e ↦ rw e (get_or-set_same (filled memory cache a k) ((a + k) % length cache) _ 0
            (omega (arith, length-filled k, mod-lt (a + k) {m = length cache} (omega arith))))
        | no e ↦
            get_or-set_other (filled memory cache a k) ((a + k) % length cache) (x % length cache) _ 0
            (apart (length cache) x (a + k) (omega arith) (omega arith))
            ∙ filled_in k x (omega arith) h (omega arith)
      ]

  -- an address below them keeps its block's number, where all lie within the cache's size
  pub filled-out : (k x : ℕ) → x < a → a + k ≤ x + length cache
      → get_or (filled memory cache a k) (x % length cache) 0 ≡ get_or cache (x % length cache) 0
  unfolding filled
  filled-out zero x h l = refl
  filled-out (suc k) x h l =
      get_or-set_other (filled memory cache a k) ((a + k) % length cache) (x % length cache) _ 0
      (apart (length cache) x (a + k) (omega arith) (omega arith))
      ∙ filled-out k x h (omega arith)
