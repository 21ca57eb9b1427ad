-- The number that the core holds at an address, in the cache or in memory, and at which addresses each move of the core keeps it.
use Rattle.std.specs.Prelude.{if◌then◌else◌}
use Prim.Native.Nat.{ℕ, ◌+◌, ◌-◌, ◌%◌, ◌≤◌, ◌<◌, max}
use mathlib.Core.Path.{◌≡◌, refl, ap, sym, ◌∙◌}
use native.Mathlib.Decide.{dec_lt}
use native.Mathlib.Nat.{mod-lt}
use native.Mathlib.Omega.{arith}
use lib.Dec.{ltb, ltb→lt, nltb→le}
use lib.ListN.{length, get_or, length-set}
use lib.Seq.{get_or-set_same, get_or-set_other}
use Rattle.model.specs.Core.{Core, Clean, block, effective, spilled, reserved, reserve_moves, ensured_to, ensure_moves, saved_from, save_moves, resumed}
use Rattle.model.specs.Core.{resume_moves, reserve, free, ensure, store, save, resume}
use Rattle.theory.proofs.Lists.{by-test}
use Rattle.theory.proofs.Clean.{effective-between}
use Rattle.theory.proofs.Blocks.{apart, length-filled, spilled-in, spilled-out, filled_in, filled-out}

-- the number at address a: that of its block while a is below MT, else that of the memory
unfoldable pub number_at : Core → ℕ → ℕ
number_at c a = if ltb a (c.st + c.occupancy) then get_or c.cache (block c a) 0 else get_or c.memory a 0

-- below MT, in a cache of s blocks
pub number-cached : (c : Core) (a s : ℕ) → a < c.st + c.occupancy → length c.cache ≡ s → number_at c a ≡ get_or c.cache (a % s) 0
unfolding number_at
number-cached c a s h e =
    by-test (λ n. n ≡ get_or c.cache (a % s) 0) (ltb a (c.st + c.occupancy))
    (λ l. ap (λ m. get_or c.cache (a % m) 0) e)
    (λ l. absurd (omega (arith, nltb→le a (c.st + c.occupancy) l)))

-- from MT up
number-stored : (c : Core) (a : ℕ) → c.st + c.occupancy ≤ a → number_at c a ≡ get_or c.memory a 0
unfolding number_at
number-stored c a h =
    by-test (λ n. n ≡ get_or c.memory a 0) (ltb a (c.st + c.occupancy))
    (λ l. absurd (omega (arith, ltb→lt a (c.st + c.occupancy) l)))
    (λ l. refl)

module _ (c : Core) (a : ℕ) where
  -- the memory has the number of each address from some one up, once the core has written back from there
  written_keeps : (from k : ℕ) → Clean c → from + k ≡ max from (c.st + effective c) → (a < c.st + c.occupancy → from ≤ a)
      → a < length c.memory → get_or (spilled c.cache c.memory from k) a 0 ≡ number_at c a
  written_keeps from k i e h m =
      let b = effective-between c i in
      elim (dec_lt a (c.st + effective c)) [
        | yes j ↦
            let l : a < c.st + c.occupancy = omega (arith, b) in
            spilled-in c.cache c.memory from k a (h l) (omega arith) m ∙ sym (number-cached c a _ l refl)
        | no j ↦ spilled-out c.cache c.memory from k a (λ g. omega arith) ∙ elim (dec_lt a (c.st + c.occupancy)) [
          | yes l ↦ sym (i.equal a (omega (arith, b)) l) ∙ sym (number-cached c a _ l refl)
          | no l ↦ sym (number-stored c a (omega arith))
        ]
      ]

  -- a reserve keeps the number of each address from ST up
  pub reserve-keeps : (k : ℕ) → Clean c → k ≤ c.st → c.st ≤ a → a < length c.memory → number_at (reserve k c).core a ≡ number_at c a
  unfolding reserve
  reserve-keeps k i h l m =
      elim (dec_lt a (c.st - k + reserved (length c.cache) k c.occupancy)) [
        | yes j ↦ number-cached (reserve k c).core a _ j refl ∙ sym (number-cached c a _ (omega arith) refl)
        | no j ↦
            number-stored (reserve k c).core a (omega arith)
            ∙ written_keeps (c.st - k + length c.cache) (reserve_moves (length c.cache) k (effective c)) i (omega arith) (λ g. omega arith) m
      ]

  -- a free keeps the number of each address from the ST after it up
  pub free-keeps : (k : ℕ) → c.st + k ≤ a → number_at (free k c) a ≡ number_at c a
  unfolding free
  free-keeps k h =
      elim (dec_lt a (c.st + c.occupancy)) [
        | yes i ↦ number-cached (free k c) a _ (omega arith) refl ∙ sym (number-cached c a _ i refl)
        | no i ↦ number-stored (free k c) a (omega arith) ∙ sym (number-stored c a (omega arith))
      ]

  -- an ensure within the cache's size keeps the number of each address from ST up
  pub ensure-keeps : (k : ℕ) → k ≤ length c.cache → c.occupancy ≤ length c.cache → c.st ≤ a
      → number_at (ensure k c).core a ≡ number_at c a
  unfolding ensure
  ensure-keeps k h l m =
      let e = length-filled c.cache c.memory (c.st + c.occupancy) (ensure_moves k c.occupancy) in
      elim (dec_lt a (c.st + ensured_to k c.occupancy)) [
        | yes i ↦ number-cached (ensure k c).core a _ i e ∙ elim (dec_lt a (c.st + c.occupancy)) [
          | yes j ↦ filled-out c.cache c.memory (c.st + c.occupancy) (ensure_moves k c.occupancy) a j (omega arith)
              ∙ sym (number-cached c a _ j refl)
          | no j ↦ filled_in c.cache c.memory (c.st + c.occupancy) (ensure_moves k c.occupancy) a (omega arith) (omega arith) (omega arith)
              ∙ sym (number-stored c a (omega arith))
        ]
        | no i ↦ number-stored (ensure k c).core a (omega arith) ∙ sym (number-stored c a (omega arith))
      ]

  -- a store to a cached offset keeps the number of each other address from ST up
  pub store_keeps : (o v : ℕ) → o < c.occupancy → c.occupancy ≤ length c.cache → c.st ≤ a → (a ≡ c.st + o → ⊥)
      → number_at (store o v c) a ≡ number_at c a
  unfolding store
  store_keeps o v h l m n =
      elim (dec_lt a (c.st + c.occupancy)) [
        | yes i ↦
            number-cached (store o v c) a _ i (length-set c.cache (block c (c.st + o)) v)
            ∙ get_or-set_other c.cache (block c (c.st + o)) (block c a) v 0 (elim (dec_lt a (c.st + o)) [
              | yes j ↦ apart (length c.cache) a (c.st + o) j (omega arith)
              | no j ↦ λ e. apart (length c.cache) (c.st + o) a (omega arith) (omega arith) (sym e)
            ])
            ∙ sym (number-cached c a _ i refl)
        | no i ↦ number-stored (store o v c) a (omega arith) ∙ sym (number-stored c a (omega arith))
      ]

  -- the first half of a preemption leaves in memory the number of each address from the lowest live one up
  pub save-keeps : (d : ℕ) → Clean c → c.st + saved_from d c.occupancy ≤ a → a < length c.memory → get_or (save d c).core.memory a 0 ≡ number_at c a
  unfolding save
  save-keeps d i h m =
      written_keeps (c.st + saved_from d c.occupancy) (save_moves d c.occupancy (effective c)) i (omega arith) (λ g. h) m

  -- the second half brings back what memory has there, whatever the cache holds
  pub resume-brings : (d n : ℕ) → c.occupancy ≤ length c.cache → c.st + saved_from d c.occupancy ≤ a
      → number_at (resume d n c).core a ≡ get_or c.memory a 0
  unfolding resume
  resume-brings d n l h =
      let from = c.st + saved_from d c.occupancy in
      let k = resume_moves d n c.occupancy in
      elim (dec_lt a (c.st + resumed d n c.occupancy)) [
        | yes i ↦
            number-cached (resume d n c).core a _ i (length-filled c.cache c.memory from k)
            ∙ filled_in c.cache c.memory from k a (omega arith) h (omega arith)
        | no i ↦ number-stored (resume d n c).core a (omega arith)
      ]

-- a store to a cached offset leaves its number there
pub store_at : (c : Core) (o v : ℕ) → o < c.occupancy → c.occupancy ≤ length c.cache → number_at (store o v c) (c.st + o) ≡ v
unfolding store
store_at c o v h l =
    number-cached (store o v c) (c.st + o) _ (omega arith) (length-set c.cache (block c (c.st + o)) v)
    ∙ get_or-set_same c.cache (block c (c.st + o)) v 0 (mod-lt (c.st + o) {m = length c.cache} (omega arith))
