-- The numbers of the columns, as they are read, are those of the sheet.
use Prim.Native.Nat.{ℕ, ◌+◌, ◌-◌, ◌≤◌, ◌<◌}
use native.Mathlib.Omega.{arith}
use mathlib.Core.List.{List}
use lib.ListN.{length}
use mathlib.Core.Path.{◌≡◌, ap, sym, subst, ◌∙◌}
use Rattle.model.specs.Limits.{most_stack, most_points, most_in_all}
use Rattle.model.specs.Task.{func}
use Rattle.model.specs.Sheet.{PointSheet, costed}
use Rattle.tables.specs.declared.Header.{Header}
use Rattle.tables.specs.declared.Span.{Span}
use Rattle.tables.specs.Layout.{frame_table, base_table}
use Rattle.tables.specs.Tables.{item, base_at, size_at, span_at, task_of}
use Rattle.tables.specs.Valid.{Lies}
use Rattle.tables.proofs.Laws.{frame_is}
use Rattle.tables.proofs.Valid.{lies_in, settled-fits}
use Rattle.prices.specs.declared.Price.{Price}
use Rattle.prices.specs.Prices.{price_of}
use Rattle.columns.specs.Columns.{high_column, dead_column, need_column, next_column, fill_column, longest_column, shortest_column, entry_column}
use Rattle.columns.specs.Columns.{chain_column, PointsLow}
use Rattle.columns.proofs.Limits.{frame-low}
use Rattle.readout.specs.Sheet.{front, spill_from, chain_from, figures_from, sheet_in}
use Rattle.readout.specs.Readable.{Readable, InFunc, figured_of, func_figures}
use Rattle.readout.proofs.Same.{front-item}

-- function f as it is read
pub there : {price : Price} {w : List ℕ} {h : Header} {f : ℕ} {s : Span} → Readable price w h → f < h.funcs → s ≡ span_at w f → InFunc price w h f s
there k l e = record { readable = k; low = l; span = e }

-- a function has few points
pub size_low : {price : Price} {w : List ℕ} {h : Header} {f : ℕ} {s : Span} → InFunc price w h f s → s.size ≤ most_points
size_low {f = f} k = omega (arith, ap (λ (s : Span). s.size) k.span, (settled-fits k.readable.settled f k.low).small)

module _ {price : Price} {w : List ℕ} {h : Header} {f : ℕ} {s : Span} (k : Readable price w h) (l : f < h.funcs) (e : s ≡ span_at w f) where
  pub lies-there : Lies w s
  lies-there = subst (λ (s : Span). Lies w s) (sym e) (lies_in k.settled.holds f l)

  pub within-there : {p : ℕ} → p < size_at w f → p < s.size
  within-there i = omega (arith, ap (λ (s : Span). s.size) e)

  pub read-there : (column : ℕ) {p : ℕ} → column ≤ fill_column → p < size_at w f → Lies w s × (p < s.size) × (column + most_in_all ≤ length w)
  read-there column c i = (lies-there, within-there i, omega (arith, k.room))

  pub chain-there : item w (chain_column + f) ≡ (sheet_in price w h).chain f
  unfolding chain_from
  chain-there = sym (front-item w (chain_column + f) (omega (arith, k.settled.holds.few)))

  module _ (p : ℕ) (i : p < s.size) where
    -- the number of the point in a column, as the sheet has it
    cell-there : (a : ℕ) → a + most_in_all ≤ chain_column → item w (a + s.base + p) ≡ item (front w) (a + base_at (front w) f + p)
    cell-there a m =
        let b : s.base ≡ base_at (front w) f =
        ap (λ (s : Span). s.base) e ∙ sym (front-item w (base_table + f) (omega (arith, k.settled.holds.few))) in
        sym (front-item w (a + s.base + p) (omega (arith, lies-there.within))) ∙ ap (λ (n : ℕ). item (front w) (a + n + p)) b

    -- the figures of the point, from the numbers of the columns
    pub at_there : costed (price_of price) (item w (high_column + s.base + p)) (item w (dead_column + s.base + p)) (item w (need_column + s.base + p))
        (item w (next_column + s.base + p)) (item w (chain_column + f)) (item w (fill_column + s.base + p))
        ≡ (sheet_in price w h).at f p
    unfolding figures_from chain_from
    at_there =
        let high = cell-there high_column (omega arith) in
        let dead = cell-there dead_column (omega arith) in
        let need = cell-there need_column (omega arith) in
        let next = cell-there next_column (omega arith) in
        let fill = cell-there fill_column (omega arith) in
        λ j. costed (price_of price) (high j) (dead j) (need j) (next j) (chain-there j) (fill j)

    pub dead-there : item w (dead_column + s.base + p) ≡ ((sheet_in price w h).at f p).dead
    unfolding costed
    dead-there = ap (λ (x : PointSheet). x.dead) at_there

    pub need-there : item w (need_column + s.base + p) ≡ ((sheet_in price w h).at f p).need
    unfolding costed
    need-there = ap (λ (x : PointSheet). x.need) at_there

    -- the numbers are in their ranges
    pub low-there : {m a : ℕ} → PointsLow m a h.funcs w → item w (a + s.base + p) ≤ m
    low-there {a = a} c =
        omega (arith, ap (λ (s : Span). item w (a + s.base + p)) e, c.each f p l (omega (arith, ap (λ (s : Span). s.size) e)))

    pub figures-are : {high dead need next fill save reload later filled cost : ℕ} → high ≡ item w (high_column + s.base + p)
        → dead ≡ item w (dead_column + s.base + p)
        → need ≡ item w (need_column + s.base + p) → next ≡ item w (next_column + s.base + p) → fill ≡ item w (fill_column + s.base + p)
        → save ≡ price_of price (high - dead) → reload ≡ price_of price (need - dead) → later ≡ price_of price (next - need)
        → filled ≡ price_of price fill → cost ≡ save + reload + later + item w (chain_column + f)
        → figured_of (record {
          high = high;
          dead = dead;
          need = need;
          save = save;
          reload = reload;
          later = later;
          chain = item w (chain_column + f);
          cost = cost;
          fill = filled;
        })
        ≡ (sheet_in price w h).at f p
    unfolding costed
    figures-are a b c d x y z q n m =
        let fill_is = n ∙ ap (price_of price) x in
        let save-is = y ∙ (λ j. price_of price (a j - b j)) in
        let reload-is = z ∙ (λ j. price_of price (c j - b j)) in
        let later-is = q ∙ (λ j. price_of price (d j - c j)) in
        let cost-is = m ∙ (λ j. save-is j + reload-is j + later-is j + item w (chain_column + f)) in
        (λ j. record {
          high = a j;
          dead = b j;
          need = c j;
          save = save-is j;
          reload = reload-is j;
          later = later-is j;
          chain = item w (chain_column + f);
          cost = cost-is j;
          fill = fill_is j;
        })
        ∙ at_there

module _ {price : Price} {w : List ℕ} {h : Header} {f : ℕ} {s : Span} (k : Readable price w h) (l : f < h.funcs) (e : s ≡ span_at w f) where
  frame-there : s.frame ≡ (func (task_of w h) f).frame
  frame-there = ap (λ (s : Span). s.frame) e ∙ sym (frame_is w h f l)

  pub small-frame : s.frame ≤ most_stack
  small-frame = omega (arith, frame-there, frame-low k.settled.formed.shaped f, k.settled.formed.shaped.stack_high)

  -- what is spilled is some of the frame
  pub small-spill : item w (entry_column + f) + s.frame - h.stack ≤ most_stack
  small-spill =
      omega (arith, k.entry.each f l, frame-there, frame-low k.settled.formed.shaped f)

  pub spill-there : price_of price (item w (entry_column + f) + s.frame - h.stack) ≡ (sheet_in price w h).spill f
  unfolding spill_from
  spill-there =
      let few = k.settled.holds.few in
      let entry = sym (front-item w (entry_column + f) (omega arith)) in
      let frame = ap (λ (s : Span). s.frame) e ∙ sym (front-item w (frame_table + f) (omega arith)) in
      λ j. price_of price (entry j + frame j - h.stack)

  pub func-figures-are : {spill : ℕ} → spill ≡ price_of price (item w (entry_column + f) + s.frame - h.stack)
      → record {
        frame = s.frame;
        shortest = item w (shortest_column + f);
        longest = item w (longest_column + f);
        spill = spill;
        chain = item w
            (chain_column + f);
      }
      ≡ func_figures price w h f
  unfolding func_figures
  func-figures-are x =
      let spill-is = x ∙ spill-there in
      let shortest-is = k.shortest.each f (omega arith) l in
      let longest-is = k.longest.each f (omega arith) l in
      let chain-is = chain-there k l e in
      λ j. record { frame = frame-there j; shortest = shortest-is j; longest = longest-is j; spill = spill-is j; chain = chain-is j }
