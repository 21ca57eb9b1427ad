-- The function that a point calls, and the numbers that the points are given, by the branches of the code.
use Prim.Native.Nat.{ℕ, ◌+◌, ◌-◌, ◌≤◌, ◌<◌}
use native.Mathlib.Omega.{arith}
use native.Mathlib.Decide.{dec_lt}
use mathlib.Core.List.{List}
use mathlib.Core.Option.{Option, none, some}
use mathlib.Core.Path.{◌≡◌}
use borrow.Author.Tests.{lt-ltb, le-ltb}
use Rattle.model.specs.Limits.{most_funcs}
use Rattle.tables.specs.declared.Header.{Header}
use Rattle.tables.specs.declared.Span.{Span}
use Rattle.tables.specs.Tables.{item}
use Rattle.columns.specs.Columns.{shortest_column, level_column}
use Rattle.columns.specs.Values.{among_funcs, func_called_at, at_callee, kept_at, cut_at, level_at}

-- a function whose number is below most_funcs is the callee, and no other
pub among-few : {o : Option ℕ} {g : ℕ} → o ≡ some g → g < most_funcs → among_funcs o ≡ some g
among-few {g = g} e h = rw (e, lt-ltb g most_funcs h)

pub among-some : (o : Option ℕ) {g : ℕ} → among_funcs o ≡ some g → o ≡ some g
among-some none e = e
among-some (some n) e =
    elim (dec_lt n most_funcs) [ yes h ↦ rw (lt-ltb n most_funcs h) at e | no h ↦ absurd (let k = rw (le-ltb n most_funcs (omega arith)) at e in cc) ]

pub among-none : (o : Option ℕ) → among_funcs o ≡ none → (n : ℕ) → o ≡ some n → most_funcs ≤ n
among-none none e n i = absurd (cc)
among-none (some m) e n i =
    elim (dec_lt m most_funcs) [
      | yes h ↦ absurd (let k = rw (lt-ltb m most_funcs h) at e in cc)
      | no h ↦ let j : m ≡ n = cc in omega arith
    ]

-- how large they are
module _ (w : List ℕ) (h : Header) (s : Span) (p : ℕ) where
  pub cut-stack : cut_at w h s p ≤ h.stack
  unfolding cut_at
  cut-stack = at (func_called_at w s p)
    where
      at : (o : Option ℕ) → at_callee (λ g. h.stack - item w (shortest_column + g)) o ≤ h.stack
      at none = omega arith
      at (some g) = omega arith

pub kept_low : (w : List ℕ) (s : Span) (p : ℕ) {r : ℕ} → r ≡ kept_at w s p → r ≤ s.frame
unfolding kept_at
kept_low w s p e = omega arith

-- the level of a callee
module _ (w : List ℕ) (s : Span) (p : ℕ) where
  pub level-call : {g : ℕ} → func_called_at w s p ≡ some g → item w (level_column + g) ≡ level_at w s p
  unfolding level_at
  level-call i = rw i

  pub level-none : func_called_at w s p ≡ none → 0 ≡ level_at w s p
  unfolding level_at
  level-none i = rw i
