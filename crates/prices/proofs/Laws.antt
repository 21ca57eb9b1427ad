-- The price of a move in two parts; that of at most a whole cache fits.
use Prim.Native.Nat.{ℕ, ◌+◌, ◌*◌, ◌≤◌}
use mathlib.Core.Path.{◌≡◌, refl}
use native.Mathlib.Omega.{arith}
use native.Mathlib.Nat.{mul-le-mul}
use borrow.Author.Tests.{eq-eqb, ne_eqb}
use Rattle.model.specs.Limits.{most_stack}
use Rattle.theory.proofs.Prices.{by-price}
use Rattle.prices.specs.declared.Price.{Price}
use Rattle.prices.specs.Prices.{price_of, start_of, Small, most_price}

module _ (x : Price) (n : ℕ) where
  -- a start and each block, in one sum
  pub price-sum : start_of x n + x.each * n ≡ price_of x n
  unfolding start_of
  price-sum =
      by-price x.start x.each n (λ m. start_of x n + x.each * n ≡ m) (λ e. rw (eq-eqb n 0 e, e) (omega arith))
      (λ e. rw (ne_eqb n 0 e) refl)

  pub price-small : Small x → n ≤ most_stack → price_of x n ≤ most_price
  price-small s h =
      by-price x.start x.each n (λ m. m ≤ most_price) (λ e. omega arith) (λ e. omega (arith, mul-le-mul s.each h, s.start))
