-- The sheets have the formulas of specs/Formulas, and the occupancy along a walk goes on by its rules.
use Rattle.std.specs.Prelude.{if◌then◌else◌}
use Prim.Native.Nat.{ℕ, suc, ◌+◌, ◌-◌, max}
use mathlib.Core.Path.{◌≡◌, refl}
use native.Mathlib.Omega.{arith}
use Rattle.model.specs.declared.Point.{Point}
use Rattle.model.specs.declared.Point.TheVariants.{Load, Store, Call, Ensure, Goto, Either, Return}
use Rattle.model.specs.Task.{Task, func, point}
use Rattle.model.specs.Walk.{Largest, called, ensured, present, is_ensure}
use Rattle.model.specs.Figures as model
use Rattle.model.specs.Figures.{longest, fill, spill_with, kept, chain, cut_by, after_with, after}
use Rattle.model.specs.Sheet.{in_blocks, costed, once_of, priced_sheet, sheet_of}
use Rattle.model.specs.WellFormed.{WellFormed}
use Rattle.theory.proofs.Lists.{by-test}
use Rattle.theory.proofs.Links.{present-holds, ensured-is, calls_is}
use Rattle.theory.proofs.Between.{chain-is, chain_zero, over_calls-is}
use Rattle.theory.proofs.Sheet.{calls-later}
use Rattle.theory.specs.Formulas.{goes_on, ChainOver, InBlocks, AtPrice}

-- the model's rule for the occupancy after a point is that of specs/Formulas
pub after-goes_on : (t : Task) (f : ℕ) → after t f ≡ (λ p. goes_on t (func t f).frame (point (func t f) p))
unfolding after_with
after-goes_on t f = λ i p h. at h (point (func t f) p) i
  where
    at : (h : ℕ) (x : Point)
        → (if present (ensured x) then max h (func t f).frame else cut_by (model.shortest t) t h (called x)) ≡ goes_on t (func t f).frame x h
    at h (Load o) = omega arith
    at h (Store o) = omega arith
    at h (Call g) = omega arith
    at h (Ensure k) = omega arith
    at h (Goto p) = omega arith
    at h (Either p q) = omega arith
    at h Return = omega arith

-- fill at the ensure after a call of g, and where there is no ensure
fill-after : (t : Task) (f p g k : ℕ) → point (func t f) p ≡ Call g → point (func t f) (suc p) ≡ Ensure k
    → fill t f (suc p) ≡ (func t f).frame - (t.stack - longest t g)
unfolding fill
fill-after t f p g k c e = let i : suc p - 1 ≡ p = omega arith in rw (e, i, c) refl

fill-elsewhere : (t : Task) (f p : ℕ) → ((k : ℕ) → point (func t f) p ≡ Ensure k → ⊥) → fill t f p ≡ 0
unfolding fill
fill-elsewhere t f p h =
    by-test (λ m. m ≡ 0) (is_ensure (func t f) p)
    (λ e. let i = (present-holds (ensured (point (func t f) p))).0 e in absurd (h i.0 (ensured-is (point (func t f) p) i.1))) (λ e. refl)

-- the chain at a price, over the calls
chain-over : {t : Task} → WellFormed t → (price : ℕ → ℕ) (f : ℕ) → Largest (ChainOver t (chain price t) price (fill t) f) (chain price t f)
chain-over {t} w price f =
    let r = over_calls-is t f (λ h p. chain price t h + price (kept t h (suc p))) in
    let e = chain-is t (calls-later w) price f in
    record {
      bounds = λ m k.
          omega (arith, e, r.bounds m (k.0, k.1, k.2, k.3, (calls_is (func t k.0) f k.1).1 k.4, omega (arith, k.5)));
      attained = λ l.
          let k = r.attained (omega arith) in
          (k.0, k.1, k.2, k.3, (calls_is (func t k.0) f k.1).0 k.4, omega (arith, e, k.5));
    }

-- the sheet in blocks has the figures of document 01, and every other sheet has their prices
pub formulas-in-blocks : (t : Task) → WellFormed t → InBlocks t (sheet_of t)
unfolding costed spill_with once_of
formulas-in-blocks t w = record {
  prices = λ n. omega arith;
  spill = λ f. omega arith;
  fill = λ f p g k c e. omega (arith, fill-after t f p g k c e);
  fill_none = fill-elsewhere t;
  chain_zero = chain_zero in_blocks t;
  chain = chain-over w in_blocks;
  high = λ f p. omega arith;
  dead = λ f p. omega arith;
  need = λ f p. omega arith;
  save = λ f p. omega arith;
  reload = λ f p. omega arith;
  later = λ f p. omega arith;
  chain_at = λ f p. omega arith;
  cost = λ f p. omega arith;
  once = λ f p. omega arith;
}

pub formulas-at-price : (price : ℕ → ℕ) (t : Task) → WellFormed t → AtPrice price t (sheet_of t) (priced_sheet price t)
unfolding costed
formulas-at-price price t w = record {
  prices = λ n. omega arith;
  spill = λ f. omega arith;
  fill = λ f p. omega arith;
  chain_zero = chain_zero price t;
  chain = chain-over w price;
  high = λ f p. omega arith;
  dead = λ f p. omega arith;
  need = λ f p. omega arith;
  save = λ f p. omega arith;
  reload = λ f p. omega arith;
  later = λ f p. omega arith;
  chain_at = λ f p. omega arith;
  cost = λ f p. omega arith;
}
