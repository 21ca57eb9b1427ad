-- A core is clean after each of its moves, whatever it writes back: the blocks from LP up to MT equal memory.
use Prim.Native.Nat.{ℕ, ◌+◌, ◌-◌, ◌%◌, ◌≤◌, ◌<◌}
use mathlib.Core.List.{List}
use mathlib.Core.Path.{ap, sym, ◌∙◌}
use native.Mathlib.Decide.{dec_lt}
use native.Mathlib.Omega.{arith}
use lib.ListN.{length, get_or, length-set}
use lib.Seq.{get_or-set_other}
use Rattle.model.specs.declared.Eviction.{Eviction}
use Rattle.model.specs.declared.Eviction.TheVariants.{Eager, Lazy}
use Rattle.model.specs.Core.{Core, Clean, block, written, effective, reserve_moves, ensure_moves, saved_from, resume_moves, reserve, free, ensure, store, resume, idle}
use Rattle.theory.proofs.Blocks.{apart, length-filled, spilled-out, filled_in, filled-out}

-- either core writes back at least the blocks below LP, and at most those that are cached
pub written-between : (x : Eviction) (n m : ℕ) → m ≤ n → (m ≤ written x n m) × (written x n m ≤ n)
unfolding written
written-between Eager n m h = omega arith
written-between Lazy n m h = omega arith

module _ (c : Core) (i : Clean c) where
  pub effective-between : (c.pointer ≤ effective c) × (effective c ≤ c.occupancy)
  effective-between = written-between c.eviction c.occupancy c.pointer i.within

  pub clean-reserve : (k : ℕ) → k ≤ c.st → Clean (reserve k c).core
  unfolding reserve
  clean-reserve k h = record {
    within = omega (arith, i.within);
    equal = λ a l m.
        i.equal a (omega arith) (omega arith)
        ∙ sym (spilled-out c.cache c.memory (c.st - k + length c.cache) (reserve_moves (length c.cache) k (effective c)) a (λ g. omega arith));
  }

  pub clean_free : (k : ℕ) → Clean (free k c)
  unfolding free
  clean_free k =
      record { within = omega (arith, i.within); equal = λ a l m. i.equal a (omega arith) (omega arith) }

  pub clean-ensure : (k : ℕ) → k ≤ length c.cache → c.occupancy ≤ length c.cache → Clean (ensure k c).core
  unfolding ensure
  clean-ensure k h l = record {
    within = omega (arith, i.within);
    equal = λ a m n.
        ap (λ r. get_or (ensure k c).core.cache (a % r) 0) (length-filled c.cache c.memory (c.st + c.occupancy) (ensure_moves k c.occupancy))
        ∙ elim (dec_lt a (c.st + c.occupancy)) [
          | yes j ↦ filled-out c.cache c.memory (c.st + c.occupancy) (ensure_moves k c.occupancy) a j (omega arith) ∙ i.equal a m j
          | no j ↦ filled_in c.cache c.memory (c.st + c.occupancy) (ensure_moves k c.occupancy) a (omega arith) (omega arith) (omega arith)
        ];
  }

  -- to a cached offset
  pub clean-store : (o v : ℕ) → o < c.occupancy → c.occupancy ≤ length c.cache → Clean (store o v c)
  unfolding store
  clean-store o v h l = record {
    within = omega (arith, i.within);
    equal = λ a m n.
        ap (λ r. get_or (store o v c).cache (a % r) 0) (length-set c.cache (block c (c.st + o)) v)
        ∙ get_or-set_other c.cache (block c (c.st + o)) (block c a) v 0
        (λ g. apart (length c.cache) (c.st + o) a (omega arith) (omega arith) (sym g))
        ∙ i.equal a (omega arith) n;
  }

-- whatever the cache holds
pub clean-resume : (c : Core) (d n : ℕ) → c.occupancy ≤ length c.cache → Clean (resume d n c).core
unfolding resume
clean-resume c d n l =
    let from = c.st + saved_from d c.occupancy in
    let k = resume_moves d n c.occupancy in
    record {
      within = omega arith;
      equal = λ a m j.
          ap (λ r. get_or (resume d n c).core.cache (a % r) 0) (length-filled c.cache c.memory from k)
          ∙ filled_in c.cache c.memory from k a (omega arith) (omega arith) (omega arith);
    }

-- nothing is cached before the first reserve
pub clean-idle : (x : Eviction) (cache memory : List ℕ) → Clean (idle x cache memory)
clean-idle x cache memory = record { within = omega arith; equal = λ a l m. absurd (omega arith) }
