-- 15 and 23 by their tests, and what they leave.
use Prim.Native.Nat.{ℕ, ◌≤◌, ◌<◌}
use mathlib.Core.Bool.{◌&&◌}
use mathlib.Core.Option.{Option, none}
use mathlib.Core.Path.{◌≡◌, ap, sym, ◌∙◌}
use native.Mathlib.Omega.{arith}
use lib.Dec.{leb, leb→le}
use borrow.Author.Tests.{lt-leb, le-leb}
use Rattle.model.specs.declared.Row.TheVariants.{WorkTooSmall, PriceRange}
use Rattle.model.specs.declared.Refusal.{Refusal}
use Rattle.std.proofs.Common.{Ok, Err}
use Rattle.model.specs.Limits.{most_start, most_each}
use Rattle.model.specs.Basic.{◌or_else◌}
use Rattle.model.specs.Rows.{Verdict, refuse, row_verdict}
use Rattle.model.specs.Refusal.{work_row, price_row, priced_rows}
use Rattle.theory.proofs.Lists.{and-holds}
use Rattle.theory.proofs.Firsts.{or_else-none, unless-none}
use Rattle.theory.proofs.Search.{verdict-none, verdict-some}
use Rattle.prices.specs.declared.Price.{Price}
use Rattle.prices.specs.Prices.{Small}

-- 15
module _ (asked n : ℕ) {v : Verdict} where
  pub work-short : n < asked → v ≡ Err (refuse WorkTooSmall asked) → v ≡ row_verdict (work_row asked n)
  unfolding work_row
  work-short h e = rw (lt-leb asked n h) e

  pub work-passes : asked ≤ n → v ≡ Ok tt → v ≡ row_verdict (work_row asked n)
  unfolding work_row
  work-passes h e = rw (le-leb asked n h) e

-- 23
module _ (start each : ℕ) {v : Verdict} where
  pub start-high : most_start < start → v ≡ Err (refuse PriceRange 0) → v ≡ row_verdict (price_row start each)
  unfolding price_row
  start-high h e = rw (lt-leb start most_start h) e

  module _ (l : start ≤ most_start) where
    pub each_none : each ≡ 0 → v ≡ Err (refuse PriceRange 0) → v ≡ row_verdict (price_row start each)
    unfolding price_row
    each_none h e = rw (le-leb start most_start l, lt-leb 1 each (omega arith)) e

    module _ (s : 1 ≤ each) where
      pub each-high : most_each < each → v ≡ Err (refuse PriceRange 0) → v ≡ row_verdict (price_row start each)
      unfolding price_row
      each-high h e = rw (le-leb start most_start l, le-leb 1 each s, lt-leb each most_each h) e

      pub price-passes : each ≤ most_each → v ≡ Ok tt → v ≡ row_verdict (price_row start each)
      unfolding price_row
      price-passes h e = rw (le-leb start most_start l, le-leb 1 each s, le-leb each most_each h) e

-- 15 comes before 23
module _ (asked n start each : ℕ) {u : Verdict} (w : u ≡ row_verdict (work_row asked n)) where
  pub first-work : {q : Refusal} → u ≡ Err q → Err q ≡ row_verdict (priced_rows asked n start each)
  first-work e = ap (λ (o : Option Refusal). row_verdict (o or_else price_row start each)) (sym (verdict-some (work_row asked n) (sym w ∙ e)))

  pub then-price : {v : Verdict} → u ≡ Ok tt → v ≡ row_verdict (price_row start each) → v ≡ row_verdict (priced_rows asked n start each)
  then-price e i = i ∙ ap (λ (o : Option Refusal). row_verdict (o or_else price_row start each)) (sym (verdict-none (work_row asked n) (sym w ∙ e)))

-- what passes has room and a small price
pub work-room : (asked n : ℕ) → work_row asked n ≡ none → asked ≤ n
unfolding work_row
work-room asked n e = leb→le asked n ((unless-none (leb asked n) (refuse WorkTooSmall asked)).0 e)

pub priced-room : (asked n start each : ℕ) → priced_rows asked n start each ≡ none → asked ≤ n
priced-room asked n start each e = work-room asked n ((or_else-none (work_row asked n) (price_row start each)).0 e).0

pub priced-small : (asked n : ℕ) (price : Price) → priced_rows asked n price.start price.each ≡ none → Small price
unfolding price_row
priced-small asked n price e =
    let r = ((or_else-none (work_row asked n) (price_row price.start price.each)).0 e).1 in
    let t = (unless-none (leb price.start most_start && leb 1 price.each && leb price.each most_each) (refuse PriceRange 0)).0 r in
    let a = (and-holds (leb price.start most_start && leb 1 price.each) (leb price.each most_each)).0 t in
    let b = (and-holds (leb price.start most_start) (leb 1 price.each)).0 a.0 in
    record { start = leb→le price.start most_start b.0; each = leb→le price.each most_each a.1 }
