-- What a write into one column leaves as it was: the tables, so the task, and every other column.
use Prim.Native.Nat.{ℕ, ◌+◌, ◌≤◌, ◌<◌}
use native.Mathlib.Omega.{arith}
use native.Mathlib.Decide.{dec_lt}
use mathlib.Core.Path.{◌≡◌, refl, ap, sym, ◌∙◌}
use mathlib.Core.List.{List}
use lib.ListN.{set, drop, length-set, length-drop}
use lib.Seq.{ext_get_or, get_or-drop}
use Rattle.model.specs.Limits.{most_funcs, most_in_all}
use Rattle.tables.specs.Layout.{first_table, second_table, frame_table, base_table, size_table, tables_length}
use Rattle.tables.specs.Tables.{item, point_of, base_at, size_at, span_at, Stacked, none, more}
use Rattle.tables.specs.Valid.{Kept}
use Rattle.tables.proofs.Laws.{elsewhere, stacked-within}
use Rattle.tables.proofs.Writes.{Agree}
use Rattle.columns.specs.Columns.{Points, Funcs, Changed}

-- nothing written; one number more; one change after another; a change seen as a wider one
pub changed-none : (a n : ℕ) (w : List ℕ) → Changed a n w w
changed-none a n w = record { size = refl; before = λ i h. refl; behind = λ i h. refl }

pub changed-set : (a n : ℕ) {w₀ : List ℕ} (w : List ℕ) (i v : ℕ) → a ≤ i → i < a + n → Changed a n w₀ w → Changed a n w₀ (set w i v)
changed-set a n w i v h k c =
    record {
      size = simp length-set c.size;
      before = λ j l. elsewhere w i j v (omega arith) ∙ c.before j l;
      behind = λ j l. elsewhere w i j v (omega arith) ∙ c.behind j l;
    }

pub changed-on : {a n : ℕ} {u v w : List ℕ} → Changed a n u v → Changed a n v w → Changed a n u w
changed-on c d =
    record {
      size = d.size ∙ c.size;
      before = λ i h. d.before i h ∙ c.before i h;
      behind = λ i h. d.behind i h ∙ c.behind i h;
    }

pub changed-wider : {a n : ℕ} (b m : ℕ) {w w' : List ℕ} → b ≤ a → a + n ≤ b + m → Changed a n w w' → Changed b m w w'
changed-wider b m h k c = record { size = c.size; before = λ i l. c.before i (omega arith); behind = λ i l. c.behind i (omega arith) }

-- a change behind the tables leaves the functions and points as they were
module _ {a n : ℕ} {w w' : List ℕ} (h : tables_length ≤ a) (c : Changed a n w w') where
  tables-same : (i : ℕ) → i < tables_length → item w' i ≡ item w i
  tables-same i k = c.before i (omega arith)

  pub changed-agree : (m : ℕ) → m ≤ most_funcs → Agree m most_in_all w w'
  changed-agree m k =
      record {
        frame = λ f l. tables-same (frame_table + f) (omega arith);
        base = λ f l. tables-same (base_table + f) (omega arith);
        size = λ f l. tables-same (size_table + f) (omega arith);
        point = λ j l.
            let e = tables-same j (omega arith) in
            let f = tables-same (first_table + j) (omega arith) in
            let g = tables-same (second_table + j) (omega arith) in
            λ t. point_of (e t) (f t) (g t);
      }

  pub changed-span : (f : ℕ) → f < most_funcs → span_at w' f ≡ span_at w f
  changed-span f k =
      let a = changed-agree most_funcs (omega arith) in
      let e = a.frame f k in
      let b = a.base f k in
      let n = a.size f k in
      λ t. record { frame = e t; base = b t; size = n t }

  -- a column of the points whose numbers are as they were
  pub points_kept : {figure : ℕ → ℕ → ℕ} {b m : ℕ} → m ≤ most_funcs
      → ((f p : ℕ) → f < m → p < size_at w f → item w' (b + base_at w f + p) ≡ item w (b + base_at w f + p))
      → Points figure b m w → Points figure b m w'
  points_kept {figure} {b} {m} k same x =
      record {
        each = λ f p l q.
            let a = changed-agree most_funcs (omega arith) in
            let i : p < size_at w f = omega (arith, a.size f (omega arith)) in
            ap (λ (o : ℕ). item w' (b + o + p)) (a.base f (omega arith)) ∙ (same f p l i ∙ x.each f p l i);
      }

-- a column of the functions whose numbers are as they were
pub funcs-kept : {figure : ℕ → ℕ} {a m n : ℕ} {w w' : List ℕ} → ((f : ℕ) → m ≤ f → f < n → item w' (a + f) ≡ item w (a + f))
    → Funcs figure a m n w → Funcs figure a m n w'
funcs-kept same x = record { each = λ f l k. same f l k ∙ x.each f l k }

-- functions that lie one after the other: an earlier one ends before a later one
pub stacked-order : {w : List ℕ} {n m : ℕ} → Stacked w n m → (g f : ℕ) → g < f → f < n → base_at w g + size_at w g ≤ base_at w f
stacked-order none g f h k = absurd (omega arith)
stacked-order {w} (more {n} {m} s e) g f h k =
    elim (dec_lt f n) [
      | yes l ↦ stacked-order s g f h l
      | no l ↦ let j : f ≡ n = omega arith in omega (arith, e, ap (base_at w) j, stacked-within s g (omega arith))
    ]

-- everything behind a change is as it was
pub changed-past : {a n : ℕ} {w w' : List ℕ} → Changed a n w w' → Kept (a + n) w w'
changed-past {a} {n} {w} {w'} c =
    record {
      size = c.size;
      past =
          ext_get_or 0 (drop (a + n) w') (drop (a + n) w) (simp length-drop (rw c.size))
          (λ i h. get_or-drop (a + n) w' i 0 ∙ (c.behind (a + n + i) (omega arith) ∙ sym (get_or-drop (a + n) w i 0)));
    }
