-- How large D and d can be.
use Prim.Native.Nat.{ℕ, zero, suc, ◌+◌, ◌*◌, ◌≤◌}
use native.Mathlib.Omega.{arith}
use native.Mathlib.Decide.{dec_lt}
use mathlib.Core.List.{List, [], ◌∷◌}
use mathlib.Core.Path.{◌≡◌, ap}
use lib.ListN.{get_or-eq_default}
use Rattle.model.specs.Basic.{smallest}
use Rattle.model.specs.Limits.{most_stack, most_funcs}
use Rattle.model.specs.Task.{Func, Task, count, func, empty}
use Rattle.model.specs.Walk.{returns, never, some_walk}
use Rattle.model.specs.Figures.{callees, longest_to, longest, shortest_by, shortest_to, shortest}
use Rattle.model.specs.WellFormed.{Shaped}
use Rattle.theory.proofs.Lists.{by-test, by-largest}
use Rattle.theory.proofs.Displacement.{minimax-within}

pub smallest-low : {A : Type 0} (f : A → ℕ) (l : List A) (n : ℕ) → ((a : A) → f a ≤ n) → smallest f l ≤ n
unfolding smallest
smallest-low f [] n e = omega arith
smallest-low f (a ∷ []) n e = e a
smallest-low f (a ∷ b ∷ l) n e = omega (arith, e a)

module _ {t : Task} (s : Shaped t) where
  -- frames, past the last function too
  pub frame-low : (f : ℕ) → (func t f).frame ≤ t.stack
  frame-low f =
      elim (dec_lt f (count t)) [
        | yes h ↦ s.frames f h
        | no h ↦ let e : func t f ≡ empty = get_or-eq_default t.funcs empty (omega arith) in omega (arith, ap (λ (x : Func). x.frame) e)
      ]

  longest-to : (n f : ℕ) → longest_to t n f ≤ most_stack * n
  unfolding longest_to
  longest-to zero f = omega arith
  longest-to (suc n) f =
      let l = by-largest _ (λ m. m ≤ most_stack * n) (callees (func t f)) (omega arith) (λ g k. longest-to n g) in
      omega (arith, frame-low f, s.stack_high, l)

  -- D and d
  pub longest-low : (f : ℕ) → longest t f ≤ most_stack * most_funcs
  unfolding longest
  longest-low f = omega (arith, longest-to (count t) f, s.few)

  shortest-to : (n f : ℕ) → shortest_to t n f ≤ most_stack * n
  unfolding shortest_to shortest_by
  shortest-to zero f = omega arith
  shortest-to (suc n) f =
      let x = func t f in
      let d = shortest_to t n in
      let l = by-largest d (λ m. m ≤ most_stack * n) (callees x) (omega arith) (λ g _. shortest-to n g) in
      by-test (λ m. x.frame + m ≤ most_stack * suc n) (some_walk x never (returns x) 0)
      (λ h. omega (arith, frame-low f, s.stack_high, minimax-within d x (returns x), l))
      (λ h. omega (arith, frame-low f, s.stack_high, smallest-low d (callees x) (most_stack * n) (shortest-to n)))

  pub shortest-low : (f : ℕ) → shortest t f ≤ most_stack * most_funcs
  unfolding shortest
  shortest-low f = omega (arith, shortest-to (count t) f, s.few)
