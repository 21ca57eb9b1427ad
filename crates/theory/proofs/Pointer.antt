-- What each move does to LP and what a lazy core writes back, in the addresses of request 6: LP = ST + pointer, MT = ST + occupancy.
use Prim.Native.Nat.{ℕ, suc, ◌+◌, ◌-◌, ◌≤◌, min, max}
use mathlib.Core.List.{List}
use mathlib.Core.Path.{◌≡◌, refl, ap}
use native.Mathlib.Omega.{arith}
use lib.ListN.{length}
use Rattle.model.specs.declared.Eviction.TheVariants.{Lazy}
use Rattle.model.specs.declared.Eviction.{Eviction}
use Rattle.model.specs.Core.{Core, Clean, written, effective, spilled, reserve_moves, saved_from, reserve, free, ensure, store, save, resume, idle}

abbrev pub lp : Core → ℕ
lp c = c.st + c.pointer

abbrev pub mt : Core → ℕ
mt c = c.st + c.occupancy

module _ (c : Core) where
  pub pointer-between : Clean c → (c.st ≤ lp c) × (lp c ≤ mt c)
  pointer-between i = omega (arith, i.within)

  -- a lazy core writes back what lies below LP
  lazy-writes : c.eviction ≡ Lazy → effective c ≡ c.pointer
  unfolding written
  lazy-writes e = rw e refl

  -- a reserve: MT drops to ST+S if above, taken after ST falls, and LP to MT
  pub pointer-reserve : (k : ℕ) → k ≤ c.st → Clean c
      → (mt (reserve k c).core ≡ min (mt c) ((reserve k c).core.st + length c.cache))
      × (lp (reserve k c).core ≡ min (lp c) (mt (reserve k c).core))
  unfolding reserve
  pointer-reserve k h i = (omega arith, omega (arith, i.within))

  -- it writes only addresses from ST+S up to the old LP
  pub reserve-writes : (k : ℕ) → k ≤ c.st → c.eviction ≡ Lazy
      → ((reserve k c).core.memory
      ≡ spilled c.cache c.memory ((reserve k c).core.st + length c.cache) (lp c - ((reserve k c).core.st + length c.cache)))
      × ((reserve k c).blocks ≡ lp c - ((reserve k c).core.st + length c.cache))
  unfolding reserve
  reserve-writes k h l =
      let from = c.st - k + length c.cache in
      let z : reserve_moves (length c.cache) k (effective c) ≡ lp c - from = omega (arith, lazy-writes l) in
      (ap (λ n. spilled c.cache c.memory from n) z, z)

  -- a free lifts LP to ST if below
  pub pointer-free : (k : ℕ) → lp (free k c) ≡ max (lp c) (free k c).st
  unfolding free
  pointer-free k = omega arith

  -- a fill leaves LP
  pub pointer-ensure : (k : ℕ) → lp (ensure k c).core ≡ lp c
  unfolding ensure
  pointer-ensure k = refl

  -- a store at address a lifts LP to a + 1 if below
  pub pointer-store : (o v : ℕ) → lp (store o v c) ≡ max (lp c) (suc (c.st + o))
  unfolding store
  pointer-store o v = omega arith

  -- a preemption writes only addresses from ST + e up to LP, and resumes with LP = ST + e
  pub pointer-save : (d : ℕ) → c.eviction ≡ Lazy
      → ((save d c).core.memory
      ≡ spilled c.cache c.memory (c.st + saved_from d c.occupancy) (lp c - (c.st + saved_from d c.occupancy)))
      × ((save d c).blocks ≡ lp c - (c.st + saved_from d c.occupancy))
  unfolding save
  pointer-save d l =
      let e = saved_from d c.occupancy in
      let z : effective c - e ≡ lp c - (c.st + e) = omega (arith, lazy-writes l) in
      (ap (λ k. spilled c.cache c.memory (c.st + e) k) z, z)

  pub pointer-resume : (d n : ℕ) → lp (resume d n c).core ≡ c.st + saved_from d c.occupancy
  unfolding resume
  pointer-resume d n = refl

-- a fresh task has LP = MT, before and after function 0 is entered
pub pointer-idle : (x : Eviction) (cache memory : List ℕ) → lp (idle x cache memory) ≡ mt (idle x cache memory)
pointer-idle x cache memory = refl

pub pointer-start : (x : Eviction) (cache memory : List ℕ) (k : ℕ) → lp (reserve k (idle x cache memory)).core ≡ mt (reserve k (idle x cache memory)).core
unfolding reserve
pointer-start x cache memory k = refl
