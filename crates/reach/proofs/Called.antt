-- Laws of refusal 12: the calls of a task, the marks that they leave, and the first function without a mark.
use Prim.Native.Nat.{ℕ, ◌+◌, ◌-◌, ◌<◌}
use native.Mathlib.Omega.{arith}
use native.Mathlib.Decide.{ℕ_discrete}
use native.Mathlib.Numerals.{add-one}
use mathlib.Core.Path.{◌≡◌, refl, ap, sym, ◌∙◌}
use mathlib.Core.Bool.{Bool, true, false, not, ◌||◌, or-false, or-true}
use mathlib.Core.List.{List}
use mathlib.Core.Option.{Option}
use lib.ListN.{length, set}
use lib.Seq.{get_or-set_same, get_or-set_other}
use borrow.Author.Tests.{not-true, not-false, eq-eqb, ne_eqb}
use Rattle.model.specs.declared.Point.{Point}
use Rattle.model.specs.declared.Point.TheVariants.{Call}
use Rattle.model.specs.declared.Row.TheVariants.{Uncalled}
use Rattle.std.proofs.Common.{Ok, Err}
use Rattle.model.specs.Basic.{first_of, any, count_from, up_to}
use Rattle.model.specs.Refusal.{is_called, call_row, call_rows}
use Rattle.model.specs.Rows.{refuse, row_verdict}
use Rattle.model.specs.Task.{Func, size, func}
use Rattle.model.specs.Walk.{called, is, calls}
use Rattle.theory.proofs.Search.{Rest, any-add, any_last, any_same, any-shift}
use Rattle.tables.specs.declared.Header.{Header}
use Rattle.tables.specs.Tables.{point_at, base_at, size_at, func_of, task_of, opening_line, Stacked, none, more}
use Rattle.tables.specs.Valid.{Holds}
use Rattle.tables.proofs.Laws.{length-points, point-there, func-is, count-is, line-is}
use Rattle.reach.specs.Calls.{calls_at, mark_of}

-- one pass over all points of a task finds what a pass over its functions does
stacked-calls : {w : List ℕ} {n m : ℕ} → Stacked w n m → (f : ℕ)
    → any (λ h. any (λ p. calls_at w f (base_at w h + p)) (up_to (size_at w h))) (up_to n) ≡ any (calls_at w f) (up_to m)
unfolding any count_from
stacked-calls none f = refl
stacked-calls {w} (more {n} {m} k e) f =
    any_last (λ h. any (λ p. calls_at w f (base_at w h + p)) (up_to (size_at w h))) n
    ∙ ((λ i. stacked-calls k f i || last i) ∙ sym (any-add (calls_at w f) 0 m (size_at w n)))
  where
    last : any (λ p. calls_at w f (base_at w n + p)) (up_to (size_at w n)) ≡ any (calls_at w f) (count_from (0 + m) (size_at w n))
    last =
        any-shift (calls_at w f) (base_at w n) 0 (size_at w n)
        ∙ ap (λ (b : ℕ). any (calls_at w f) (count_from b (size_at w n))) (omega arith)

calls-of : (w : List ℕ) (f h : ℕ) → any (calls (func_of w h) f) (up_to (size (func_of w h))) ≡ any (λ p. calls_at w f (base_at w h + p)) (up_to (size_at w h))
calls-of w f h =
    rw (length-points w (base_at w h) (size_at w h))
    (any_same
    (calls (func_of w h) f)
    (λ p. calls_at w f (base_at w h + p))
    0
    (size_at w h)
    (λ p a b. ap (λ (x : Point). is f (called x)) (point-there w (base_at w h) (size_at w h) p (omega arith))))

pub called_is : {w : List ℕ} {h : Header} → Holds w h → (f : ℕ) → is_called (task_of w h) f ≡ any (calls_at w f) (up_to h.points)
called_is {w} {h} k f =
    ap (λ (c : ℕ). any (λ g. by (func (task_of w h) g)) (up_to c)) (count-is w h)
    ∙ (any_same _ _ 0 h.funcs (λ g a b. ap by (func-is w h g (omega arith)) ∙ calls-of w f g) ∙ stacked-calls k.stacked f)
  where
    by : Func → Bool
    by x = any (calls x f) (up_to (size x))

-- the mark of function f, after the function that x calls is marked
module _ (l : List Bool) (f : ℕ) {x : Point} {g : ℕ} (d : x ≡ Call g) where
  pub mark_set : g < length l → mark_of (set l g true) f ≡ (mark_of l f || is f (called x))
  mark_set h =
      rw d
      (elim (ℕ_discrete f g) [
        | yes e ↦ rw (e, eq-eqb g g refl, or-true) (get_or-set_same l g true false h)
        | no e ↦ rw (ne_eqb f g e, or-false) (get_or-set_other l g f true false e)
      ])

  pub mark-kept : f < g → mark_of l f ≡ (mark_of l f || is f (called x))
  mark-kept h = rw (d, ne_eqb f g (λ e. omega arith), or-false)

pub mark-none : (l : List Bool) (f : ℕ) (x : Point) → called x ≡ Option.none → mark_of l f ≡ (mark_of l f || is f (called x))
mark-none l f x e = rw (e, or-false)

-- no point yet, and one more
pub mark-start : (w : List ℕ) (f : ℕ) {b : Bool} → b ≡ false → b ≡ any (calls_at w f) (up_to 0)
unfolding any count_from
mark-start w f e = e

pub mark-more : (w : List ℕ) (f i : ℕ) {b c : Bool} {x : Point} → b ≡ any (calls_at w f) (up_to i) → x ≡ point_at w i → c ≡ (b || is f (called x))
    → c ≡ any (calls_at w f) (up_to (i + 1))
mark-more w f i e d k = rw (add-one i) (k ∙ ((λ j. e j || is f (called (d j))) ∙ sym (any_last (calls_at w f) i)))

-- the search for the first function without a mark
pub calls-start : (w : List ℕ) (h : Header) → Rest (call_rows (task_of w h)) (call_row (task_of w h)) 1 h.funcs
calls-start w h = ap (λ (c : ℕ). first_of (call_row (task_of w h)) (count_from 1 (c - 1))) (count-is w h)

module _ {w : List ℕ} {h : Header} (k : Holds w h) (f : ℕ) (l : f < h.funcs) {c : Bool} (e : c ≡ is_called (task_of w h) f) where
  pub row-called : not c ≡ false → Ok tt ≡ row_verdict (call_row (task_of w h) f)
  unfolding call_row
  row-called d = rw (← e, not-false c d)

  pub row-uncalled : not c ≡ true → {b p : ℕ} → b ≡ base_at w f → p ≡ opening_line f b → Err (refuse Uncalled p) ≡ row_verdict (call_row (task_of w h) f)
  unfolding call_row
  row-uncalled d u v = rw (← e, not-true c d, v, u, line-is h k.stacked f l)
