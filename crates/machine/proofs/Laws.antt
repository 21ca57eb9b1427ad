-- What the loops that move numbers do in one turn, the frame area as a part of the memory, and what the moves return.
use Prim.Native.Nat.{ℕ, zero, suc, ◌+◌, ◌-◌, ◌%◌, ◌≤◌, ◌<◌}
use mathlib.Core.List.{List, [], ◌++◌, append-nil}
use mathlib.Core.Path.{◌≡◌, refl, ap, sym, ◌∙◌}
use native.Mathlib.Nat.{mod-add-mod, mod-eq_of_lt, mod-eq-sub-mod, mod-lt, add_assoc}
use native.Mathlib.Decide.{dec_lt}
use native.Mathlib.Numerals.{add-one}
use native.Mathlib.Omega.{arith}
use lib.ListN.{length, get_or, set, take, drop, length-drop, take-append-drop, length-replicate}
use lib.Seq.{take_all, drop-length, take-set-le, drop-set-add}
use borrow.Rule.Slice.PartMut.{mid_of, put_mid}
use Rattle.model.specs.declared.Eviction.{Eviction}
use Rattle.model.specs.declared.Eviction.TheVariants.{Eager}
use Rattle.model.specs.Core as core
use Rattle.model.specs.Core.{Core, written, spilled, filled, reserved, resume_moves, reserve, save, with_cache, filled_with, resume}
use Rattle.machine.specs.declared.Machine.{Machine}
use Rattle.machine.specs.declared.Moved.{Moved}
use Rattle.theory.specs.Cores.{with_eviction}
use Rattle.machine.specs.Moves.{eviction_of, core_of, OnCache, Good, Does, Preempts, Entered, spilled_area}
use Rattle.machine.proofs.Kept.{start-memory, save-good, between-good}

-- ---- blocks

-- a block and an offset, whose sum wraps once
pub wrap-once : (s b o : ℕ) → b < s → o ≤ s → s ≤ b + o → (b + o - s ≡ (b + o) % s) × (b + o - s < s)
wrap-once s b o h k l = (sym (mod-eq-sub-mod l ∙ mod-eq_of_lt (omega arith)), omega arith)

-- the block of x, from that of x + o
module _ (s b o x : ℕ) (h : b < s) (k : o ≤ s) (e : b ≡ (x + o) % s) where
  from-below : b ≡ (x % s + o) % s
  from-below = e ∙ sym (mod-add-mod x s o)

  pub back-wraps : b < o → b + (s - o) ≡ x % s
  back-wraps l =
      let m = mod-lt x {m = s} (omega arith) in
      elim (dec_lt (x % s + o) s) [
        | yes j ↦ let z = from-below ∙ mod-eq_of_lt j in absurd (omega (arith, z))
        | no j ↦ let z = from-below ∙ sym (wrap-once s (x % s) o m k (omega arith)).0 in omega (arith, z)
      ]

  pub back-stays : o ≤ b → b - o ≡ x % s
  back-stays l =
      let m = mod-lt x {m = s} (omega arith) in
      elim (dec_lt (x % s + o) s) [
        | yes j ↦ let z = from-below ∙ mod-eq_of_lt j in omega (arith, z)
        | no j ↦ let z = from-below ∙ sym (wrap-once s (x % s) o m k (omega arith)).0 in absurd (omega (arith, z))
      ]

-- the block of an address o above ST
pub top-after : (s st top o r : ℕ) → top ≡ st % s → r ≡ (top + o) % s → r ≡ (st + o) % s
top-after s st top o r e g = g ∙ ap (λ (y : ℕ). (y + o) % s) e ∙ mod-add-mod st s o

-- the next block of a loop that has passed i
pub block-next : (s x b i r : ℕ) → b ≡ (x + i) % s → r ≡ (b + 1) % s → r ≡ (x + (i + 1)) % s
block-next s x b i r e g =
    g ∙ ap (λ (y : ℕ). (y + 1) % s) e ∙ mod-add-mod (x + i) s 1 ∙ ap (λ (y : ℕ). y % s) (add_assoc x i 1)

-- ---- one turn of each loop

pub area-more : (cache area₀ area : List ℕ) (top from i b : ℕ) → area ≡ spilled_area cache area₀ top from i → b ≡ (top + from + i) % length cache
    → set area (from + i) (get_or cache b 0) ≡ spilled_area cache area₀ top from (i + 1)
unfolding spilled_area
area-more cache area₀ area top from i b e g = rw (add-one, e, g)

pub filled_more : (memory cache₀ cache : List ℕ) (a i b : ℕ) → cache ≡ filled memory cache₀ a i → b ≡ (a + i) % length cache₀
    → set cache b (get_or memory (a + i) 0) ≡ filled memory cache₀ a (i + 1)
unfolding filled
filled_more memory cache₀ cache a i b e g = rw (add-one, e, g)

-- ---- the frame area is the memory from ST up

module _ (cache memory : List ℕ) (st top from : ℕ) (e : top ≡ st % length cache) where
  same_block : (k : ℕ) → (top + from + k) % length cache ≡ (st + from + k) % length cache
  same_block k =
      rw (add_assoc top from k, add_assoc st from k)
      (ap (λ (y : ℕ). (y + (from + k)) % length cache) e ∙ mod-add-mod st (length cache) (from + k))

  -- the area after a spill is the part from ST up of the memory after it, and the part below ST stays
  area-after : (k : ℕ) → spilled_area cache (drop st memory) top from k ≡ drop st (spilled cache memory (st + from) k)
  unfolding spilled_area spilled
  area-after zero = refl
  area-after (suc k) =
      rw (area-after k, same_block k, add_assoc st from k)
      (sym (drop-set-add st (spilled cache memory (st + from) k) (from + k) (get_or cache ((st + (from + k)) % length cache) 0)))

  below-area : (k : ℕ) → take st (spilled cache memory (st + from) k) ≡ take st memory
  unfolding spilled
  below-area zero = refl
  below-area (suc k) = take-set-le st (spilled cache memory (st + from) k) (st + from + k) _ (omega arith) ∙ below-area k

  -- the whole memory when the area is back, with the offset and the count by what they are
  pub area-back : (k from' k' : ℕ) (area : List ℕ) → from ≡ from' → k ≡ k'
      → area ≡ spilled_area cache (mid_of st (length memory - st) memory) top from k
      → put_mid st (length memory - st) memory area ≡ spilled cache memory (st + from') k'
  area-back k from' k' area f g h =
      let l : length memory - st ≡ length (drop st memory) = sym (length-drop st memory) in
      let m : mid_of st (length memory - st) memory ≡ drop st memory = take_all (length memory - st) (drop st memory) (omega (arith, l)) in
      ap (λ (n : ℕ). take st memory ++ (area ++ drop n (drop st memory))) l
      ∙ ap (λ (r : List ℕ). take st memory ++ (area ++ r)) (drop-length (drop st memory))
      ∙ ap (λ (r : List ℕ). take st memory ++ r) (append-nil area ∙ h ∙ ap (λ (r : List ℕ). spilled_area cache r top from k) m ∙ area-after k)
      ∙ ap (λ (r : List ℕ). r ++ drop st (spilled cache memory (st + from) k)) (sym (below-area k))
      ∙ take-append-drop st (spilled cache memory (st + from) k)
      ∙ (λ i. spilled cache memory (st + f i) (g i))

-- the cache after a fill, with the offset and the count by what they are
pub fill-back : (memory cache₀ cache : List ℕ) (st from k from' k' : ℕ) → from ≡ from' → k ≡ k'
    → cache ≡ filled memory cache₀ (st + from) k → cache ≡ filled memory cache₀ (st + from') k'
fill-back memory cache₀ cache st from k from' k' f g h = h ∙ (λ i. filled memory cache₀ (st + f i) (g i))

-- ---- what a move returns

-- the block of ST is one of the cache
pub top_in : {m : Machine} {cache : List ℕ} → OnCache m cache → m.top < length cache
top_in {m} o = let l = mod-lt m.st o.some in omega (arith, l, o.top)

-- ST before a reserve of k, by ST after it
pub top_below : (s st top k : ℕ) → k ≤ st → top ≡ st % s → top ≡ (st - k + k) % s
top_below s st top k h e = let z : st ≡ st - k + k = omega arith in e ∙ ap (λ (n : ℕ). n % s) z

-- a machine stands on a cache by its ST and its block, and by the length of the cache
pub on-as : {m r : Machine} {cache cache' : List ℕ} → OnCache m cache → r.st ≡ m.st → r.top ≡ m.top → length cache' ≡ length cache → OnCache r cache'
on-as o e f g = record { some = rw g o.some; few = rw g o.few; top = f ∙ o.top ∙ (λ i. sym e i % sym g i) }

pub does : (r : Moved) (cache memory : List ℕ) (to : core.Moved) → r.machine.st ≡ to.core.st → r.machine.occupancy ≡ to.core.occupancy
    → r.machine.pointer ≡ to.core.pointer → eviction_of r.machine.lazy ≡ to.core.eviction → cache ≡ to.core.cache → memory ≡ to.core.memory
    → OnCache r.machine cache → r.blocks ≡ to.blocks → Does r cache memory to
does r cache memory to a b p x c d o e =
    record {
      core = λ i. record { st = a i; occupancy = b i; pointer = p i; eviction = x i; cache = c i; memory = d i };
      on = o;
      blocks = e;
    }

-- a machine with 0 writes back all
pub zero-eager : eviction_of 0 ≡ Eager
unfolding eviction_of
zero-eager = refl

-- a fresh machine, whose entry moves nothing
pub entered : (m : Machine) (x : Eviction) (stack frame numbers : ℕ) → frame ≤ stack → m.st ≡ numbers - frame → m.occupancy ≡ reserved stack frame 0
    → m.pointer ≡ reserved stack frame 0 → eviction_of m.lazy ≡ x → m.top ≡ m.st % stack → Entered x stack frame numbers m
unfolding reserve
entered m x stack frame numbers h a b p y t = record {
  core = λ cache memory e g i. record {
    st = (a ∙ ap (λ (n : ℕ). n - frame) (sym g)) i;
    occupancy = (b ∙ ap (λ (s : ℕ). reserved s frame 0) (sym e)) i;
    pointer = (p ∙ ap (λ (s : ℕ). reserved s frame 0) (sym e)) i;
    eviction = y i;
    cache = cache;
    memory = sym (start-memory x cache memory frame (omega arith)) i;
  };
  top = t;
}

-- and one that writes back otherwise
pub entered-with : (m r : Machine) (x y : Eviction) (stack frame numbers : ℕ) → frame ≤ stack → Entered y stack frame numbers m
    → ((cache memory : List ℕ) → core_of r cache memory ≡ with_eviction x (core_of m cache memory)) × (r.top ≡ m.top) → Entered x stack frame numbers r
unfolding reserve
entered-with m r x y stack frame numbers h a b = record {
  core = λ cache memory e g.
      b.0 cache memory ∙ ap (with_eviction x) (a.core cache memory e g)
      ∙ (λ i. record {
        st = length memory - frame;
        occupancy = reserved (length cache) frame 0;
        pointer = reserved (length cache) frame 0;
        eviction = x;
        cache = cache;
        memory = (start-memory y cache memory frame (omega arith) ∙ sym (start-memory x cache memory frame (omega arith))) i;
      });
  top = b.1 ∙ a.top ∙ ap (λ (c : Core). c.st % stack) (sym (b.0 [] []));
}

-- what is written back, by the number that the machine has
pub written_all : (n m : ℕ) → (n ≡ written (eviction_of 0) n m) × (n ≤ n)
unfolding written eviction_of
written_all n m = (refl, omega arith)

pub written_below : (z n m : ℕ) → (z ≡ 0 → ⊥) → m ≤ n → (m ≡ written (eviction_of z) n m) × (m ≤ n)
unfolding written eviction_of
written_below zero n m h k = absurd (h refl)
written_below (suc z) n m h k = (refl, k)

-- ---- both halves of a preemption

module _ (c : Core) (dead : ℕ) (r : Moved) (cache memory : List ℕ) (v : ℕ) where
  between : Does r c.cache memory (save dead c) → cache ≡ filled_with v c
      → core_of r.machine cache memory ≡ with_cache (filled_with v c) (save dead c).core
  between d e = λ i. with_cache (e i) (d.core i)

  -- the other task leaves the cache as long as it was
  pub between-on : Does r c.cache memory (save dead c) → cache ≡ filled_with v c → OnCache r.machine cache
  between-on d e = on-as d.on refl refl (ap length e ∙ length-replicate {A = ℕ} (length c.cache) v)

  pub between-halves : Good c → Does r c.cache memory (save dead c) → cache ≡ filled_with v c → Good (core_of r.machine cache memory)
  unfolding save
  between-halves g d e =
      rw (between d e)
      (between-good (save dead c).core (save-good c g dead) (filled_with v c) (length-replicate {A = ℕ} (length c.cache) v))

  pub both_halves : (need : ℕ) (r' : Moved) (cache' : List ℕ) → Does r c.cache memory (save dead c) → cache ≡ filled_with v c
      → Does r' cache' memory (resume dead need (core_of r.machine cache memory))
      → Preempts (record { machine = r'.machine; out = r.blocks; back = r'.blocks }) cache' memory dead need v c
  unfolding save resume
  both_halves need r' cache' d e d' =
      record {
        core = d'.core ∙ ap (λ (x : Core). (resume dead need x).core) (between d e);
        on = d'.on;
        out = d.blocks;
        back = d'.blocks ∙ ap (λ (x : Core). resume_moves dead need x.occupancy) (between d e);
      }
