-- How large the figures of a task can be.
use Prim.Native.Nat.{ℕ, zero, suc, pred, ◌+◌, ◌-◌, ◌*◌, ◌≤◌, ◌<◌, min}
use native.Mathlib.Omega.{arith}
use mathlib.Core.Option.{Option, none, some}
use lib.Dec.{eqb}
use Rattle.model.specs.Basic.{up_to}
use Rattle.model.specs.Limits.{most_stack, most_funcs}
use Rattle.model.specs.Task.{Task, size, count, func, point}
use Rattle.model.specs.Walk.{carried, arrival, sources, leads, called, is_ensure}
use Rattle.model.specs.Figures.{dead, need, fill_after, fill, shortest, cut_by, after_with, after, high_from_with, high_from, call_points, over_calls}
use Rattle.model.specs.Figures.{entry_to, entry_with, entry, high_with, high, kept, chain_to, chain}
use Rattle.model.specs.Figures.{kept_next, spill_with}
use Rattle.model.specs.Sheet.{costed, priced_sheet}
use Rattle.model.specs.WellFormed.{Shaped}
use Rattle.theory.proofs.Lists.{by-test, by-max, by-largest}
use Rattle.theory.proofs.Rules.{dead_frame, need_frame}
use Rattle.prices.specs.declared.Price.{Price}
use Rattle.prices.specs.Prices.{price_of, most_price, Small}
use Rattle.prices.proofs.Laws.{price-small}
use Rattle.columns.specs.Values.{most_chain}
use Rattle.columns.proofs.Limits.{frame-low}
use Rattle.readout.proofs.Limits.{Low}

pred-low : (n m k : ℕ) → n ≤ suc m → m ≤ k → pred n ≤ k
pred-low n m k h l = omega arith

over-low : (t : Task) (g : ℕ) (figure : ℕ → ℕ → ℕ) (n : ℕ) → ((h p : ℕ) → figure h p ≤ n) → over_calls t g figure ≤ n
unfolding over_calls
over-low t g figure n e =
    by-largest _ (λ m. m ≤ n) (up_to (count t)) (omega arith)
    (λ h k. by-largest _ (λ m. m ≤ n) (call_points (func t h) g) (omega arith) (λ p l. e h p))

module _ {t : Task} (s : Shaped t) where
  -- the chain
  kept_low : (f p : ℕ) → kept t f p ≤ most_stack
  kept_low f p = omega (arith, frame-low s f, s.stack_high)

  -- fill
  fill-after-low : (k : ℕ) (o : Option ℕ) → fill_after t k o ≤ k
  fill-after-low k none = omega arith
  fill-after-low k (some g) = omega arith

  pub fill-low : (f p : ℕ) → fill t f p ≤ most_stack
  unfolding fill
  fill-low f p =
      by-test (λ m. m ≤ most_stack) (is_ensure (func t f) p)
      (λ i. omega (arith, fill-after-low (func t f).frame (called (point (func t f) (p - 1))), frame-low s f, s.stack_high))
      (λ i. omega arith)

  module _ (price : Price) (small : Small price) where
    chain-to : (n f : ℕ) → chain_to (price_of price) t n f ≤ most_price * n
    unfolding chain_to
    chain-to zero f = omega arith
    chain-to (suc n) f =
        over-low t f (λ h p. chain_to (price_of price) t n h + price_of price (kept t h (suc p))) (most_price * suc n)
        (λ h p. omega (arith, chain-to n h, price-small price (kept t h (suc p)) small (kept_low h (suc p))))

    pub chain-low : (f : ℕ) → chain (price_of price) t f ≤ most_price * f
    unfolding chain
    chain-low f = chain-to f f

  -- q
  pub next_low : (f p : ℕ) → kept_next t f p ≤ most_stack
  unfolding kept_next
  next_low f p = by-largest _ (λ m. m ≤ most_stack) _ (omega arith) (λ q k. kept_low f q)

  -- high and E
  cut_low : (h : ℕ) (o : Option ℕ) → h ≤ t.stack → cut_by (shortest t) t h o ≤ t.stack
  cut_low h none k = k
  cut_low h (some g) k = omega arith

  after-low : (f p h : ℕ) → h ≤ t.stack → after t f p h ≤ t.stack
  unfolding after_with
  after-low f p h k =
      by-test (λ m. m ≤ t.stack) (is_ensure (func t f) p) (λ i. omega (arith, frame-low s f)) (λ i. cut_low h (called (point (func t f) p)) k)

  carried-low : (f q n : ℕ) → n ≤ suc t.stack → carried (after t f q) n ≤ suc t.stack
  carried-low f q zero k = omega arith
  carried-low f q (suc n) k = omega (arith, after-low f q n (omega arith))

  arrival-low : (f e n m p : ℕ) → e ≤ t.stack → arrival (leads (func t f)) (after t f) e n m p ≤ suc t.stack
  unfolding arrival
  arrival-low f e n zero p k = omega arith
  arrival-low f e n (suc m) p k =
      by-max (λ r. r ≤ suc t.stack) _ _
      (by-test (λ r. r ≤ suc t.stack) (eqb p 0) {x = suc e} {y = 0} (λ h. omega arith) (λ h. omega arith))
      (by-largest _ (λ r. r ≤ suc t.stack) (sources (leads (func t f)) n p) (omega arith)
      (λ q l. carried-low f q _ (arrival-low f e n m q k)))

  pub high-from-low : (f e p : ℕ) → high_from t f e p ≤ most_stack
  unfolding high_from_with
  high-from-low f e p =
      pred-low _ t.stack most_stack
      (arrival-low f (min t.stack (e + (func t f).frame)) (size (func t f)) (2 * size (func t f)) p (omega arith)) s.stack_high

  pub high-low : (f p : ℕ) → high t f p ≤ most_stack
  unfolding high_with
  high-low f p = high-from-low f (entry t f) p

  entry-to : (n f : ℕ) → entry_to (shortest t) t n f ≤ most_stack
  unfolding entry_to
  entry-to zero f = omega arith
  entry-to (suc n) f = over-low t f (λ h p. high_from t h (entry_to (shortest t) t n h) p) most_stack (λ h p. high-from-low h (entry_to (shortest t) t n h) p)

  pub entry-low : (f : ℕ) → entry t f ≤ most_stack
  unfolding entry_with
  entry-low f = entry-to f f

  -- the spill of a function, and the figures of a point where a move costs at most m. The cost: three moves, and a chain of at most 63 callers
  module _ (price : Price) (small : Small price) where
    pub spill-low : (f : ℕ) → (priced_sheet (price_of price) t).spill f ≤ most_price
    unfolding spill_with
    spill-low f = price-small price (entry t f + (func t f).frame - t.stack) small (omega (arith, entry-low f, frame-low s f))

    pub points-low : (m : ℕ) → ((n : ℕ) → n ≤ most_stack → price_of price n ≤ m) → (f p : ℕ) → f < most_funcs
        → Low m ((priced_sheet (price_of price) t).at f p)
    unfolding costed
    points-low m priced f p l =
        let x = func t f in
        let frame : x.frame ≤ most_stack = omega (arith, frame-low s f, s.stack_high) in
        let save = priced (high t f p - dead x p) (omega (arith, high-low f p)) in
        let reload = priced (need x p - dead x p) (omega (arith, need_frame x p)) in
        let later = priced (kept_next t f p - need x p) (omega (arith, next_low f p)) in
        let chain : chain (price_of price) t f ≤ most_chain = omega (arith, chain-low price small f) in
        record {
          high = high-low f p;
          dead = omega (arith, dead_frame x p);
          need = omega (arith, need_frame x p);
          save = save;
          reload = reload;
          later = later;
          chain = chain;
          cost = omega (arith, save, reload, later, chain);
          fill = priced (fill t f p) (fill-low f p);
        }

  -- the cost: three moves, and a chain of at most 63 callers
  pub cost-low : (price : Price) → Small price → (f p : ℕ) → f < most_funcs → ((priced_sheet (price_of price) t).at f p).cost ≤ most_price * (most_funcs + 2)
  cost-low price small f p l =
      let low = points-low price small most_price (λ n h. price-small price n small h) f p l in
      omega (arith, low.cost)
