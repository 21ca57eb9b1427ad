-- A write behind the figures keeps them; one function more; what a run keeps.
use Prim.Native.Nat.{ℕ, ◌+◌, ◌-◌, ◌≤◌, ◌<◌}
use native.Mathlib.Omega.{arith}
use native.Mathlib.Decide.{ℕ_discrete}
use mathlib.Core.List.{List}
use mathlib.Core.Path.{◌≡◌, ap, sym, subst, ◌∙◌}
use lib.ListN.{length, set, length-set}
use Rattle.model.specs.Limits.{most_funcs, most_in_all}
use Rattle.model.specs.Sheet.{Sheet}
use Rattle.tables.specs.declared.Header.{Header}
use Rattle.tables.specs.declared.Span.{Span}
use Rattle.tables.specs.Tables.{item, base_at, size_at, span_at, task_of, Stacked}
use Rattle.tables.specs.Valid.{Kept}
use Rattle.tables.proofs.Laws.{here, elsewhere, stacked-within}
use Rattle.prices.specs.declared.Price.{Price}
use Rattle.columns.proofs.Writes.{changed-none, changed-set, changed-agree, changed-span, points_kept, funcs-kept, stacked-order, changed-past}
use Rattle.columns.specs.Columns.{columns_end, Points, Funcs}
use Rattle.readout.specs.Sheet.{sheet_in}
use Rattle.readout.specs.Readable.{Readable}
use Rattle.readout.proofs.Same.{Same, task_stays, sheet-stays, funcs-stay, points-stay, readable-same}
use Rattle.bounds.specs.Bounds.{cost_bounds, fill_bounds, spill_bounds, bounds_end, Bounded, BoundedTo, OnlyBounds}

-- ---- a write behind the figures

module _ {price : Price} {w w' : List ℕ} {h : Header} (k : Readable price w h) (c : OnlyBounds w w') where
  same-columns : Same columns_end w w'
  same-columns = record { size = c.size; below = c.before }

  pub only-readable : Readable price w' h
  only-readable = readable-same (omega arith) k same-columns

  pub only-task : task_of w' h ≡ task_of w h
  only-task = task_stays (omega arith) k.settled.holds same-columns

  pub only-sheet : sheet_in price w' h ≡ sheet_in price w h
  only-sheet = sheet-stays price h (omega arith) same-columns

-- function f is where it was
pub only-span : {price : Price} {w w' : List ℕ} {h : Header} {f : ℕ} {s : Span} → Readable price w' h → f < h.funcs → OnlyBounds w w' → s ≡ span_at w f
    → s ≡ span_at w' f
only-span k l c e = e ∙ sym (changed-span (omega arith) c _ (omega (arith, k.settled.holds.few)))

-- its points have their room behind the figures
pub point-room : {price : Price} {w : List ℕ} {h : Header} {f p : ℕ} {s : Span} → Readable price w h → f < h.funcs → s ≡ span_at w f → p < s.size
    → fill_bounds + s.base + p < length w
point-room {s = s} k l e i =
    let n = k.settled.holds in
    omega (arith, k.room, ap (λ (s : Span). s.base) e, ap (λ (s : Span). s.size) e, stacked-within n.stacked _ l, n.all)

-- everything past these columns is as it was
pub only_kept : {w w' : List ℕ} → OnlyBounds w w' → Kept bounds_end w w'
only_kept c = changed-past c

-- ---- one function more

-- the column at a has a figure for each point of the functions below f, and for the first n points of function f
pub record Column (figure : ℕ → ℕ → ℕ) (a f n : ℕ) (w : List ℕ) : Type 0 where
  pub done : Points figure a f w
  pub begun : (p : ℕ) → p < n → item w (a + base_at w f + p) ≡ figure f p

module _ {figure : ℕ → ℕ → ℕ} (a : ℕ) {f n m k : ℕ} {w w' : List ℕ} (stacked : Stacked w m k) (few : m ≤ most_funcs) (all : k ≤ most_in_all) (l : f < m)
    (only : OnlyBounds w w') where
  -- one point more
  column-more : n < size_at w f → ((i : ℕ) → a ≤ i → i < a + most_in_all → (i ≡ a + base_at w f + n → ⊥) → item w' i ≡ item w i)
      → item w' (a + base_at w f + n) ≡ figure f n → Column figure a f n w → Column figure a f (n + 1) w'
  column-more z same new x =
      let room = stacked-within stacked f l in
      record {
        done =
            points_kept (omega arith) only (omega arith)
            (λ g p j q. same (a + base_at w g + p) (omega arith) (omega (arith, stacked-within stacked g (omega arith))) (omega (arith, stacked-order stacked g f j l)))
            x.done;
        begun = λ p j.
            ap (λ (o : ℕ). item w' (a + o + p)) ((changed-agree (omega arith) only most_funcs (omega arith)).base f (omega arith))
            ∙ elim (ℕ_discrete p n) [
              | yes e ↦ rw e new
              | no e ↦ same (a + base_at w f + p) (omega arith) (omega arith) (omega arith) ∙ x.begun p (omega arith)
            ];
      }

  -- all its points
  column-all : size_at w f ≤ n → ((i : ℕ) → a ≤ i → i < a + most_in_all → item w' i ≡ item w i) → Column figure a f n w → Points figure a (f + 1) w'
  column-all z same x =
      points_kept (omega arith) only (omega arith)
      (λ g p j q. same (a + base_at w g + p) (omega arith) (omega (arith, stacked-within stacked g (omega arith))))
      (record {
        each = λ g p j q.
            elim (ℕ_discrete g f) [
              | yes e ↦ rw e (x.begun p (omega (arith, ap (size_at w) e)))
              | no e ↦ x.done.each g p (omega arith) q
            ];
      })

-- the columns of figures can be read, and those behind them have what the sheet in them allows in the functions below f, and at the first n points of f
pub record BoundedIn (price : Price) (w : List ℕ) (h : Header) (f n : ℕ) : Type 0 where
  pub readable : Readable price w h
  pub cost : Column (λ f p. ((sheet_in price w h).at f p).cost) cost_bounds f n w
  pub fill : Column (λ f p. ((sheet_in price w h).at f p).fill) fill_bounds f n w
  pub spill : Funcs (sheet_in price w h).spill spill_bounds 0 f w

-- the cost c and the fill d of point n
pub point-more : {price : Price} {w : List ℕ} {h : Header} {f n c d : ℕ} {s : Span} → BoundedIn price w h f n → f < h.funcs → s ≡ span_at w f → n < s.size
    → c ≡ ((sheet_in price w h).at f n).cost → d ≡ ((sheet_in price w h).at f n).fill
    → BoundedIn price (set (set w (cost_bounds + s.base + n) c) (fill_bounds + s.base + n) d) h f (n + 1)
    × OnlyBounds w (set (set w (cost_bounds + s.base + n) c) (fill_bounds + s.base + n) d)
point-more {price} {w} {h} {f} {n} {c} {d} {s} x l e z cost fill =
    let k = x.readable.settled.holds in
    let base = ap (λ (s : Span). s.base) e in
    let size = ap (λ (s : Span). s.size) e in
    let within = stacked-within k.stacked f l in
    let i = cost_bounds + s.base + n in
    let j = fill_bounds + s.base + n in
    let v = set w i c in
    let w' = set v j d in
    let low : i < length w = omega (arith, x.readable.room, k.all) in
    let high : j < length v = omega (arith, x.readable.room, k.all, length-set w i c) in
    let only : OnlyBounds w w' =
    changed-set columns_end (bounds_end - columns_end) v j d (omega arith) (omega (arith, k.all))
    (changed-set columns_end (bounds_end - columns_end) w i c (omega arith) (omega (arith, k.all)) (changed-none columns_end _ w)) in
    let t = sym (only-sheet x.readable only) in (
      record {
        readable = only-readable x.readable only;
        cost =
            subst (λ (t : Sheet). Column (λ f p. (t.at f p).cost) cost_bounds f (n + 1) w') t
            (column-more cost_bounds k.stacked k.few k.all l only (omega arith)
            (λ q a b ne. elsewhere v j q d (omega (arith, k.all)) ∙ elsewhere w i q c (omega arith))
            (elsewhere v j _ d (omega (arith, k.all)) ∙ ap (λ (o : ℕ). item v (cost_bounds + o + n)) (sym base) ∙ here w i c low ∙ cost) x.cost);
        fill =
            subst (λ (t : Sheet). Column (λ f p. (t.at f p).fill) fill_bounds f (n + 1) w') t
            (column-more fill_bounds k.stacked k.few k.all l only (omega arith)
            (λ q a b ne. elsewhere v j q d (omega arith) ∙ elsewhere w i q c (omega (arith, k.all)))
            (ap (λ (o : ℕ). item w' (fill_bounds + o + n)) (sym base) ∙ here v j d high ∙ fill) x.fill);
        spill =
            subst (λ (t : Sheet). Funcs t.spill spill_bounds 0 f w') t
            (funcs-kept (λ g a b. elsewhere v j _ d (omega (arith, k.all)) ∙ elsewhere w i _ c (omega (arith, k.all))) x.spill);
      },
      only,
    )

-- and the spill r of the function
pub func-more : {price : Price} {w : List ℕ} {h : Header} {f n r : ℕ} → BoundedIn price w h f n → f < h.funcs → size_at w f ≤ n → r ≡ (sheet_in price w h).spill f
    → BoundedTo price (set w (spill_bounds + f) r) h (f + 1) × OnlyBounds w (set w (spill_bounds + f) r)
func-more {price} {w} {h} {f} {n} {r} x l z spill =
    let k = x.readable.settled.holds in
    let i = spill_bounds + f in
    let w' = set w i r in
    let low : i < length w = omega (arith, x.readable.room, k.few) in
    let only : OnlyBounds w w' =
    changed-set columns_end (bounds_end - columns_end) w i r (omega arith) (omega (arith, k.few)) (changed-none columns_end _ w) in
    let t = sym (only-sheet x.readable only) in (
      record {
        readable = only-readable x.readable only;
        cost =
            subst (λ (t : Sheet). Points (λ f p. (t.at f p).cost) cost_bounds (f + 1) w') t
            (column-all cost_bounds k.stacked k.few k.all l only z (λ q a b. elsewhere w i q r (omega arith)) x.cost);
        fill =
            subst (λ (t : Sheet). Points (λ f p. (t.at f p).fill) fill_bounds (f + 1) w') t
            (column-all fill_bounds k.stacked k.few k.all l only z (λ q a b. elsewhere w i q r (omega arith)) x.fill);
        spill =
            subst (λ (t : Sheet). Funcs t.spill spill_bounds 0 (f + 1) w') t
            (record {
              each = λ g a b.
                  elim (ℕ_discrete g f) [
                    | yes e ↦ rw e (here w i r low ∙ spill)
                    | no e ↦ elsewhere w i (spill_bounds + g) r (omega arith) ∙ x.spill.each g a (omega arith)
                  ];
            });
      },
      only,
    )

-- ---- what a run keeps

-- what the sheet allows stays where nothing before the end of these columns is written
pub bounded-same : {price : Price} {n : ℕ} {w w' : List ℕ} {h : Header} → bounds_end ≤ n → Bounded price w h → Same n w w' → Bounded price w' h
bounded-same {price} {w' = w'} {h = h} m k a =
    let s = k.readable.settled.holds in
    let e = sym (sheet-stays price h (omega arith) a) in
    record {
      readable = readable-same (omega arith) k.readable a;
      cost = subst (λ (z : Sheet). Points (λ f p. (z.at f p).cost) cost_bounds h.funcs w') e (points-stay (omega arith) s a cost_bounds (omega arith) k.cost);
      fill = subst (λ (z : Sheet). Points (λ f p. (z.at f p).fill) fill_bounds h.funcs w') e (points-stay (omega arith) s a fill_bounds (omega arith) k.fill);
      spill = subst (λ (z : Sheet). Funcs z.spill spill_bounds 0 h.funcs w') e (funcs-stay (omega arith) s a spill_bounds (omega arith) k.spill);
    }
