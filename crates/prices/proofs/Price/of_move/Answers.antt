-- The sum of both parts, which is small.
use Prim.Native.Nat.{ℕ, ◌+◌, ◌*◌, ◌≤◌}
use mathlib.Core.Path.{◌≡◌, ap, ◌∙◌}
use native.Mathlib.Omega.{arith}
use Rattle.model.specs.Limits.{most_stack}
use Rattle.prices.specs.declared.Price.{Price}
use Rattle.prices.specs.Prices.{start_of, price_of, Small, most_price}
use Rattle.prices.proofs.Laws.{price-sum, price-small}
use Rattle.prices.proofs.Price.of_move.Goals as goal

sum : (x : Price) (n : ℕ) {r : ℕ} → Small x → n ≤ most_stack → r ≡ start_of x n → (r + x.each * n ≡ price_of x n) × (r + x.each * n ≤ most_price)
sum x n s h e =
    let i = ap (λ (m : ℕ). m + x.each * n) e ∙ price-sum x n in
    (i, omega (arith, i, price-small x n s h))

pub returns : goal.returns
returns c =
    sum c.args.self c.args.blocks c.requires.0 c.requires.1 c.start_of.ensures

pub overflow_add-result : goal.overflow_add-result
overflow_add-result c = omega (arith, sum c.args.self c.args.blocks c.requires.0 c.requires.1 c.start_of.ensures)
