-- The core with a stack cache (source document 001), with eager or lazy eviction: what reserve, free, ensure, load, store and a preemption
-- do to ST, the occupancy, the lazy pointer, the cache and the memory, and how many blocks each moves.
use Rattle.std.specs.Prelude.{ℕ, zero, suc, ◌+◌, ◌-◌, ◌%◌, ◌≤◌, ◌<◌, min, max, List, ◌≡◌, length, get_or, set, replicate}
use Rattle.model.specs.declared.Eviction.{Eviction}
use Rattle.model.specs.declared.Eviction.TheVariants.{Eager, Lazy}

-- st: the stack top ST; occupancy: MT − ST, how many blocks from ST up are cached; pointer: LP − ST, how many of them may differ from memory;
-- eviction: which of them the core writes back. The cache has S blocks, and memory all addresses
pub record Core : Type 0 where
  pub st : ℕ
  pub occupancy : ℕ
  pub pointer : ℕ
  pub eviction : Eviction
  pub cache : List ℕ
  pub memory : List ℕ

-- a core after a move, and how many blocks moved
pub record Moved : Type 0 where
  pub core : Core
  pub blocks : ℕ

-- the cache block of address a
abbrev pub block : Core → ℕ → ℕ
block c a = a % length c.cache

-- the effective occupancy: how many blocks from ST up are written back when they leave the cache. An eager core, which has no use for LP,
-- writes all that are cached, a lazy one only those below LP
unfoldable pub written : Eviction → ℕ → ℕ → ℕ
written Eager n m = n
written Lazy n m = m

abbrev pub effective : Core → ℕ
effective c = written c.eviction c.occupancy c.pointer

-- the blocks from LP up to MT equal memory, and LP is at most MT
pub record Clean (c : Core) : Type 0 where
  pub within : c.pointer ≤ c.occupancy
  pub equal : (a : ℕ) → c.st + c.pointer ≤ a → a < c.st + c.occupancy → get_or c.cache (block c a) 0 ≡ get_or c.memory a 0

-- the occupancy after reserve, free and ensure, and the blocks that move; reserve and free change MT − ST and LP − ST alike
abbrev pub reserved : ℕ → ℕ → ℕ → ℕ
reserved s k n = min s (n + k)

abbrev pub reserve_moves : ℕ → ℕ → ℕ → ℕ
reserve_moves s k n = n + k - s

abbrev pub freed : ℕ → ℕ → ℕ
freed k n = n - k

abbrev pub ensured_to : ℕ → ℕ → ℕ
ensured_to k n = max n k

abbrev pub ensure_moves : ℕ → ℕ → ℕ
ensure_moves k n = k - n

-- the memory after the numbers of k addresses from a up went there; the cache after k came back
unfoldable pub spilled : List ℕ → List ℕ → ℕ → ℕ → List ℕ
spilled cache memory a zero = memory
spilled cache memory a (suc k) = set (spilled cache memory a k) (a + k) (get_or cache ((a + k) % length cache) 0)

unfoldable pub filled : List ℕ → List ℕ → ℕ → ℕ → List ℕ
filled memory cache a zero = cache
filled memory cache a (suc k) = set (filled memory cache a k) ((a + k) % length cache) (get_or memory (a + k) 0)

-- a reserve of k: ST falls, and the highest cached addresses are spilled where the cache is too small. New blocks keep what the cache held
unfoldable pub reserve : ℕ → Core → Moved
reserve k c =
    record {
      core = record {
        st = c.st - k;
        occupancy = reserved (length c.cache) k c.occupancy;
        pointer = reserved (length c.cache) k c.pointer;
        eviction = c.eviction;
        cache = c.cache;
        memory =
            spilled
            c.cache
            c.memory
            (c.st - k + length c.cache)
            (reserve_moves (length c.cache) k (effective c));
      };
      blocks = reserve_moves (length c.cache) k (effective c);
    }

unfoldable pub free : ℕ → Core → Core
free k c =
    record {
      st = c.st + k;
      occupancy = freed k c.occupancy;
      pointer = freed k c.pointer;
      eviction = c.eviction;
      cache = c.cache;
      memory = c.memory;
    }

-- an ensure of k fills upward from MT, until at least k blocks are cached. LP stays
unfoldable pub ensure : ℕ → Core → Moved
ensure k c =
    record {
      core = record {
        st = c.st;
        occupancy = ensured_to k c.occupancy;
        pointer = c.pointer;
        eviction = c.eviction;
        cache = filled c.memory c.cache (c.st + c.occupancy) (ensure_moves k c.occupancy);
        memory = c.memory;
      };
      blocks = ensure_moves k c.occupancy;
    }

unfoldable pub load : ℕ → Core → ℕ
load o c = get_or c.cache (block c (c.st + o)) 0

unfoldable pub store : ℕ → ℕ → Core → Core
store o v c =
    record {
      st = c.st;
      occupancy = c.occupancy;
      pointer = max (suc o) c.pointer;
      eviction = c.eviction;
      cache = set c.cache (block c (c.st + o)) v;
      memory = c.memory;
    }

-- a preemption at a point with these figures: with e the lowest live offset, at most the occupancy, the blocks from e up go out, and as
-- many come back as the point needs
abbrev pub saved_from : ℕ → ℕ → ℕ
saved_from dead n = min n dead

abbrev pub resumed : ℕ → ℕ → ℕ → ℕ
resumed dead need n = min n (max dead need)

-- n blocks are cached, m of them to be written back
abbrev pub save_moves : ℕ → ℕ → ℕ → ℕ
save_moves dead n m = m - saved_from dead n

abbrev pub resume_moves : ℕ → ℕ → ℕ → ℕ
resume_moves dead need n = resumed dead need n - saved_from dead n

-- its first half: what goes out. ST, the occupancy and LP are set aside
unfoldable pub save : ℕ → Core → Moved
save dead c =
    record {
      core = record {
        st = c.st;
        occupancy = c.occupancy;
        pointer = c.pointer;
        eviction = c.eviction;
        cache = c.cache;
        memory =
            spilled
            c.cache
            c.memory
            (c.st + saved_from dead c.occupancy)
            (save_moves dead c.occupancy (effective c));
      };
      blocks = save_moves dead c.occupancy (effective c);
    }

-- ST, MT and LP of a core, with this cache and this memory
abbrev pub holding : List ℕ → List ℕ → Core → Core
holding cache memory c =
    record {
      st = c.st;
      occupancy = c.occupancy;
      pointer = c.pointer;
      eviction = c.eviction;
      cache = cache;
      memory = memory;
    }

-- between the halves others use the cache
abbrev pub with_cache : List ℕ → Core → Core
with_cache cache c = holding cache c.memory c

-- its second half: what comes back, whatever the cache holds. LP is where that begins
unfoldable pub resume : ℕ → ℕ → Core → Moved
resume dead need c =
    record {
      core = record {
        st = c.st;
        occupancy = resumed dead need c.occupancy;
        pointer = saved_from dead c.occupancy;
        eviction = c.eviction;
        cache =
            filled
            c.memory
            c.cache
            (c.st + saved_from dead c.occupancy)
            (resume_moves dead need c.occupancy);
        memory = c.memory;
      };
      blocks = resume_moves dead need c.occupancy;
    }

-- both, others having left this cache
abbrev pub preempt : ℕ → ℕ → List ℕ → Core → Core
preempt dead need cache c = (resume dead need (with_cache cache (save dead c).core)).core

-- one other task, which left v in every block
abbrev pub filled_with : ℕ → Core → List ℕ
filled_with v c = replicate (length c.cache) v

-- a core before its task: ST is the length of the memory, nothing is cached, and LP = MT
abbrev pub idle : Eviction → List ℕ → List ℕ → Core
idle x cache memory =
    record { st = length memory; occupancy = 0; pointer = 0; eviction = x; cache = cache; memory = memory }
