-- How large the figures of a sheet that is read can be.
use Prim.Native.Nat.{ℕ, ◌+◌, ◌-◌, ◌*◌, ◌≤◌, ◌<◌}
use native.Mathlib.Omega.{arith}
use mathlib.Core.List.{List, Memᴰ}
use mathlib.Core.Path.{refl, subst}
use Rattle.model.specs.Limits.{most_stack, most_points}
use Rattle.model.specs.Sheet.{PointSheet, costed, Record, records_of}
use Rattle.theory.proofs.Dearest.{record_is}
use Rattle.tables.specs.declared.Header.{Header}
use Rattle.tables.specs.Tables.{item, base_at, size_at, task_of}
use Rattle.tables.proofs.Laws.{count-is, size_is}
use Rattle.tables.proofs.Valid.{settled-fits}
use Rattle.prices.specs.declared.Price.{Price}
use Rattle.prices.specs.Prices.{price_of, most_price}
use Rattle.prices.proofs.Laws.{price-small}
use Rattle.columns.specs.Columns.{high_column, dead_column, need_column, next_column, chain_column}
use Rattle.columns.specs.Values.{most_chain}
use Rattle.readout.specs.Sheet.{sheet_in}
use Rattle.readout.specs.Readable.{Readable}
use Rattle.readout.proofs.Read.{at_there, chain-there, spill-there, small-spill}

-- the figures of a point, where a move costs at most m. The cost: three moves and a chain
pub record Low (m : ℕ) (x : PointSheet) : Type 0 where
  pub high : x.high ≤ most_stack
  pub dead : x.dead ≤ most_stack
  pub need : x.need ≤ most_stack
  pub save : x.save ≤ m
  pub reload : x.reload ≤ m
  pub later : x.later ≤ m
  pub chain : x.chain ≤ most_chain
  pub cost : x.cost ≤ 3 * m + most_chain
  pub fill : x.fill ≤ m

module _ {price : Price} {w : List ℕ} {h : Header} (k : Readable price w h) (f : ℕ) (l : f < h.funcs) where
  -- the function has few points
  pub size-low : size_at w f ≤ most_points
  size-low = (settled-fits k.settled f l).small

  pub figures-within : (m : ℕ) → ((n : ℕ) → n ≤ most_stack → price_of price n ≤ m) → (p : ℕ) → p < size_at w f → Low m ((sheet_in price w h).at f p)
  unfolding costed
  figures-within m priced p i =
      let high = k.high.each f p l i in
      let need = k.need.each f p l i in
      let next = k.next.each f p l i in
      let chain : item w (chain_column + f) ≤ most_chain = omega (arith, k.chain.each f l) in
      let save = priced (item w (high_column + base_at w f + p) - item w (dead_column + base_at w f + p)) (omega arith) in
      let reload = priced (item w (need_column + base_at w f + p) - item w (dead_column + base_at w f + p)) (omega arith) in
      let later = priced (item w (next_column + base_at w f + p) - item w (need_column + base_at w f + p)) (omega arith) in
      subst (Low m) (at_there k l refl p i)
      (record {
        high = high;
        dead = k.dead.each f p l i;
        need = need;
        save = save;
        reload = reload;
        later = later;
        chain = chain;
        cost = omega (arith, save, reload, later, chain);
        fill = priced _ (k.fill.each f p l i);
      })

  pub figures-low : (p : ℕ) → p < size_at w f → Low most_price ((sheet_in price w h).at f p)
  figures-low = figures-within most_price (λ n e. price-small price n k.small e)

  -- and of a function
  pub chain-low : (sheet_in price w h).chain f ≤ most_chain
  chain-low = omega (arith, chain-there k l refl, k.chain.each f l)

  pub spill-low : (sheet_in price w h).spill f ≤ most_price
  spill-low = omega (arith, spill-there k l refl, price-small price _ k.small (small-spill k l refl))

-- and of each record of the report
pub records-low : {price : Price} {w : List ℕ} {h : Header} → Readable price w h → (x : Record) → Memᴰ x (records_of (task_of w h) (sheet_in price w h))
    → Low most_price x.figures
records-low {price} {w} {h} k x m =
    let r = record_is (sheet_in price w h) (task_of w h) m in
    let l : r.0 < h.funcs = rw (count-is w h) at r.2 in
    rw r.4 (figures-low k r.0 l r.1 (rw (size_is w h r.0 l) at r.3))
