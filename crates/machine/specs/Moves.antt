-- A machine with the lent cache and memory is a core of the model. What the moves ask of that core, and what they do to it.
use Rattle.std.specs.Prelude.{ℕ, zero, suc, ◌+◌, ◌%◌, ◌≤◌, ◌<◌, List, ◌≡◌, length, get_or, set}
use Rattle.model.specs.declared.Eviction.{Eviction}
use Rattle.model.specs.declared.Eviction.TheVariants.{Eager, Lazy}
use Rattle.model.specs.Limits.{most_stack}
use Rattle.model.specs.Core as core
use Rattle.model.specs.Core.{Core, effective, reserve, save_moves, resume_moves, preempt, filled_with, idle}
use Rattle.machine.specs.declared.Machine.{Machine}
use Rattle.machine.specs.declared.Moved.{Moved}
use Rattle.machine.specs.declared.Preempted.{Preempted}

-- the machine has the eviction as a number
unfoldable pub eviction_of : ℕ → Eviction
eviction_of zero = Eager
eviction_of (suc n) = Lazy

-- ST, the occupancy, LP and the eviction are the machine's, the numbers those of the buffers
abbrev pub core_of : Machine → List ℕ → List ℕ → Core
core_of m cache memory =
    record {
      st = m.st;
      occupancy = m.occupancy;
      pointer = m.pointer;
      eviction = eviction_of m.lazy;
      cache = cache;
      memory = memory;
    }

-- the highest address that the code can hold
abbrev pub most_address : ℕ
most_address = 18446744073709551615

-- the cache has a block, and no more than a task can ask for, and top is the block of ST
pub record OnCache (m : Machine) (cache : List ℕ) : Type 0 where
  pub some : 0 < length cache
  pub few : length cache ≤ most_stack
  pub top : m.top ≡ m.st % length cache

-- the cache has a block, LP is at most MT, and the cached addresses lie in the cache and in the memory
pub record Good (c : Core) : Type 0 where
  pub nonempty : 0 < length c.cache
  pub within : c.pointer ≤ c.occupancy
  pub fits : c.occupancy ≤ length c.cache
  pub inside : c.st + c.occupancy ≤ length c.memory

-- what a move returns, with the buffers as it leaves them, is the model's core and blocks, and the machine stands on the cache
pub record Does (r : Moved) (cache memory : List ℕ) (to : core.Moved) : Type 0 where
  pub core : core_of r.machine cache memory ≡ to.core
  pub on : OnCache r.machine cache
  pub blocks : r.blocks ≡ to.blocks

-- the same of both halves of a preemption of core c, with v in every block between them
pub record Preempts (r : Preempted) (cache memory : List ℕ) (dead need v : ℕ) (c : Core) : Type 0 where
  pub core : core_of r.machine cache memory ≡ preempt dead need (filled_with v c) c
  pub on : OnCache r.machine cache
  pub out : r.out ≡ save_moves dead c.occupancy (effective c)
  pub back : r.back ≡ resume_moves dead need c.occupancy

-- function 0 has been entered, on the core that evicts so, with any cache of this many blocks and any memory of this many numbers; top is the block of ST
pub record Entered (x : Eviction) (stack frame numbers : ℕ) (m : Machine) : Type 0 where
  pub core : (cache memory : List ℕ) → length cache ≡ stack → length memory ≡ numbers
      → core_of m cache memory ≡ (reserve frame (idle x cache memory)).core
  pub top : m.top ≡ m.st % stack

-- the frame area, whose first number is that of ST, after the numbers of k offsets from `from` up went there; ST has block top
unfoldable pub spilled_area : List ℕ → List ℕ → ℕ → ℕ → ℕ → List ℕ
spilled_area cache area top from zero = area
spilled_area cache area top from (suc k) =
    set (spilled_area cache area top from k) (from + k) (get_or cache ((top + from + k) % length cache) 0)
