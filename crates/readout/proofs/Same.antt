-- The task and the sheet stay as they are where the tables and the columns do, whatever is written behind them.
use Prim.Native.Nat.{ℕ, ◌+◌, ◌≤◌, ◌<◌}
use mathlib.Core.List.{List}
use mathlib.Core.Path.{◌≡◌, ap, sym, subst, ◌∙◌}
use native.Mathlib.Omega.{arith}
use lib.ListN.{length, take, length-take}
use lib.Seq.{ext_get_or, get_or-take}
use Rattle.model.specs.Limits.{most_funcs, most_in_all}
use Rattle.model.specs.Task.{Task}
use Rattle.model.specs.Figures as model
use Rattle.tables.specs.declared.Header.{Header}
use Rattle.tables.specs.Layout.{first_table, second_table, frame_table, base_table, size_table}
use Rattle.tables.specs.Tables.{item, point_of, base_at, size_at, task_of}
use Rattle.tables.specs.Valid.{Holds}
use Rattle.tables.proofs.Laws.{stacked-within}
use Rattle.tables.proofs.Writes.{Agree}
use Rattle.tables.proofs.Valid.{task-same, settled_same}
use Rattle.prices.specs.declared.Price.{Price}
use Rattle.columns.specs.Columns.{longest_column, shortest_column, columns_end, Points, Funcs, PointsLow, FuncsLow}
use Rattle.readout.specs.Sheet.{front, sheet_from, sheet_in}
use Rattle.readout.specs.Readable.{Readable}

-- w' has the length of w and its first n numbers
pub record Same (n : ℕ) (w w' : List ℕ) : Type 0 where
  pub size : length w' ≡ length w
  pub below : (i : ℕ) → i < n → item w' i ≡ item w i

-- ---- the front

-- a number of it, and the same front
pub front-item : (w : List ℕ) (i : ℕ) → i < columns_end → item (front w) i ≡ item w i
unfolding front
front-item w i h = get_or-take columns_end w i 0 h

take_same : (n m : ℕ) {w w' : List ℕ} → m ≤ n → Same n w w' → take m w' ≡ take m w
take_same n m {w} {w'} h a =
    ext_get_or 0 (take m w') (take m w) (simp length-take (omega (arith, a.size)))
    (λ i l.
    let k : i < m = omega (arith, length-take m w') in
    get_or-take m w' i 0 k ∙ a.below i (omega arith) ∙ sym (get_or-take m w i 0 k))

-- the sheet stays
pub sheet-stays : (price : Price) {n : ℕ} {w w' : List ℕ} (h : Header) → columns_end ≤ n → Same n w w' → sheet_in price w' h ≡ sheet_in price w h
unfolding front
sheet-stays price {n} h m a = ap (λ (v : List ℕ). sheet_from price v h) (take_same n columns_end (omega (arith, m)) a)

-- ---- the task and the columns

module _ {n : ℕ} {w w' : List ℕ} {h : Header} (m : columns_end ≤ n) (k : Holds w h) (a : Same n w w') where
  agree : Agree h.funcs most_in_all w w'
  agree =
      record {
        frame = λ f l. a.below (frame_table + f) (omega (arith, k.few));
        base = λ f l. a.below (base_table + f) (omega (arith, k.few));
        size = λ f l. a.below (size_table + f) (omega (arith, k.few));
        point = λ i l.
            let e = a.below i (omega arith) in
            let f = a.below (first_table + i) (omega arith) in
            let g = a.below (second_table + i) (omega arith) in
            λ t. point_of (e t) (f t) (g t);
      }

  pub task_stays : task_of w' h ≡ task_of w h
  task_stays = task-same k agree

  -- a column of the functions, and one of the points
  pub funcs-stay : {figure : ℕ → ℕ} (b : ℕ) → b + most_funcs ≤ n → Funcs figure b 0 h.funcs w → Funcs figure b 0 h.funcs w'
  funcs-stay b j c = record { each = λ f i l. a.below (b + f) (omega (arith, k.few)) ∙ c.each f i l }

  -- the number of a point in a column
  cell_stays : (b f p : ℕ) → b + most_in_all ≤ n → f < h.funcs → p < size_at w' f
      → (item w' (b + base_at w' f + p) ≡ item w (b + base_at w f + p)) × (p < size_at w f)
  cell_stays b f p j l i =
      let z = agree.size f l in
      let q : p < size_at w f = omega arith in (
        ap (λ (o : ℕ). item w' (b + o + p)) (agree.base f l)
            ∙ a.below (b + base_at w f + p) (omega (arith, k.all, stacked-within k.stacked f l)),
        q,
      )

  pub points-stay : {figure : ℕ → ℕ → ℕ} (b : ℕ) → b + most_in_all ≤ n → Points figure b h.funcs w → Points figure b h.funcs w'
  points-stay b j c = record { each = λ f p l i. let e = cell_stays b f p j l i in e.0 ∙ c.each f p l e.1 }

  -- and their ranges
  funcs-stay-low : {r : ℕ} (b : ℕ) → b + most_funcs ≤ n → FuncsLow r b h.funcs w → FuncsLow r b h.funcs w'
  funcs-stay-low b j c = record { each = λ f l. omega (arith, a.below (b + f) (omega (arith, k.few)), c.each f l) }

  points-stay-low : {r : ℕ} (b : ℕ) → b + most_in_all ≤ n → PointsLow r b h.funcs w → PointsLow r b h.funcs w'
  points-stay-low b j c = record { each = λ f p l i. let e = cell_stays b f p j l i in omega (arith, e.0, c.each f p l e.1) }

-- what a reader relies on stays
pub readable-same : {price : Price} {n : ℕ} {w w' : List ℕ} {h : Header} → columns_end ≤ n → Readable price w h → Same n w w' → Readable price w' h
readable-same {w' = w'} {h = h} m k a =
    let s = k.settled.holds in
    let t = sym (task_stays m s a) in
    record {
      settled = settled_same s (agree m s a) a.size k.settled;
      room = omega (arith, k.room, a.size);
      small = k.small;
      longest = subst (λ (t : Task). Funcs (model.longest t) longest_column 0 h.funcs w') t (funcs-stay m s a longest_column (omega arith) k.longest);
      shortest = subst (λ (t : Task). Funcs (model.shortest t) shortest_column 0 h.funcs w') t (funcs-stay m s a shortest_column (omega arith) k.shortest);
      entry = funcs-stay-low m s a _ (omega arith) k.entry;
      chain = funcs-stay-low m s a _ (omega arith) k.chain;
      high = points-stay-low m s a _ (omega arith) k.high;
      dead = points-stay-low m s a _ (omega arith) k.dead;
      need = points-stay-low m s a _ (omega arith) k.need;
      next = points-stay-low m s a _ (omega arith) k.next;
      fill = points-stay-low m s a _ (omega arith) k.fill;
    }
