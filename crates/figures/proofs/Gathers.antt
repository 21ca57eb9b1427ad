-- What the functions have gathered from their callers: a caller more, and all of them.
use Prim.Native.Nat.{ℕ, ◌+◌, ◌≤◌, ◌<◌}
use native.Mathlib.Omega.{arith}
use mathlib.Core.List.{List}
use mathlib.Core.Option.{some}
use mathlib.Core.Path.{◌≡◌, ap, sym, ◌∙◌}
use Rattle.model.specs.Limits.{most_funcs}
use Rattle.model.specs.Task.{Task, point}
use Rattle.model.specs.Walk.{called, calls}
use Rattle.model.specs.Figures as model
use Rattle.theory.proofs.Between.{entry-is, chain-is}
use Rattle.theory.proofs.Links.{is-holds}
use Rattle.theory.proofs.Sheet.{calls-later}
use Rattle.tables.specs.declared.Header.{Header}
use Rattle.tables.specs.Tables.{item, point_at, base_at, size_at, func_of, task_of}
use Rattle.tables.proofs.Laws.{func-is, count-is, length-points, point-there}
use Rattle.prices.specs.declared.Price.{Price}
use Rattle.prices.specs.Prices.{price_of}
use Rattle.columns.specs.Columns.{entry_column, chain_column, Funcs}
use Rattle.columns.specs.Values.{raised_by}
use Rattle.columns.specs.Displaced.{Ready}
use Rattle.figures.specs.Steps.{Gathered, ChainedTo}
use Rattle.figures.proofs.Callers.{so-far-none, so_far_more, so-far-all}

pub gathered_none : (t : Task) (figure : ℕ → ℕ → ℕ) (a n : ℕ) (w : List ℕ) → n ≤ most_funcs → Funcs (λ g. 0) a 0 most_funcs w → Gathered t figure a n 0 w
gathered_none t figure a n w h k = record { each = λ g l. k.each g (omega arith) (omega arith) ∙ sym (so-far-none t figure g) }

-- numbers that are as they were
pub gathered-kept : {t : Task} {figure : ℕ → ℕ → ℕ} {a n f : ℕ} {w w' : List ℕ} → ((g : ℕ) → g < n → item w' (a + g) ≡ item w (a + g))
    → Gathered t figure a n f w → Gathered t figure a n f w'
gathered-kept same x = record { each = λ g l. same g l ∙ x.each g l }

module _ {w : List ℕ} {h : Header} (r : Ready w h) where
  -- caller f raises the numbers of its callees
  pub gathered-more : (v : List ℕ) {w' : List ℕ} {figure : ℕ → ℕ → ℕ} {a f : ℕ} → f < h.funcs
      → ((g : ℕ) → g < most_funcs → item w' (a + g) ≡ raised_by (calls (func_of w f) g) (item v) (size_at w f) (item w (a + g)))
      → ((p g : ℕ) → p < size_at w f → called (point_at w (base_at w f + p)) ≡ some g → item v p ≡ figure f p)
      → Gathered (task_of w h) figure a h.funcs f w → Gathered (task_of w h) figure a h.funcs (f + 1) w'
  gathered-more v {figure = figure} {f = f} l raised new old =
      record {
        each = λ g k.
            raised g (omega (arith, r.settled.holds.few))
            ∙ so_far_more (task_of w h) figure f g (func-is w h f l) (sym (length-points w (base_at w f) (size_at w f))) (old.each g k)
            (λ p i c. new p g i (sym (ap called (point-there w (base_at w f) (size_at w f) p i)) ∙ (is-holds g (called (point (func_of w f) p))).0 c));
      }

  -- all callers of g are below f
  gathered-all : {figure : ℕ → ℕ → ℕ} {a f : ℕ} → Gathered (task_of w h) figure a h.funcs f w → (g : ℕ) → g < h.funcs → g ≤ f → f ≤ h.funcs
      → item w (a + g) ≡ model.over_calls (task_of w h) g figure
  gathered-all {figure} {a} {f} k g l m n =
      k.each g l ∙ so-far-all (task_of w h) figure g (calls-later r.settled.formed) f m (rw (count-is w h) n)

  pub chain-of : (price : Price) {f : ℕ} → ChainedTo price w h f → (g : ℕ) → g < h.funcs → g ≤ f → f ≤ h.funcs
      → item w (chain_column + g) ≡ model.chain (price_of price) (task_of w h) g
  chain-of price k g l m n = gathered-all k g l m n ∙ sym (chain-is (task_of w h) (calls-later r.settled.formed) (price_of price) g)

  pub entry_of : {f : ℕ} → Gathered (task_of w h) (model.high (task_of w h)) entry_column h.funcs f w → (g : ℕ) → g < h.funcs → g ≤ f → f ≤ h.funcs
      → item w (entry_column + g) ≡ model.entry (task_of w h) g
  entry_of k g l m n = gathered-all k g l m n ∙ sym (entry-is (task_of w h) (calls-later r.settled.formed) g)
