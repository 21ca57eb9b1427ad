-- The laws of levels: function by function from the last on, their order and how many there are.
use Rattle.std.specs.Prelude.{if◌then◌else◌}
use Prim.Native.Nat.{ℕ, suc, ◌+◌, ◌-◌, ◌≤◌, ◌<◌, max}
use native.Mathlib.Omega.{arith}
use native.Mathlib.Decide.{ℕ_discrete}
use native.Mathlib.Numerals.{add-one}
use mathlib.Core.Bool.{Bool, true, false, not}
use mathlib.Core.List.{List, ◌∷◌, Memᴰ}
use mathlib.Core.Path.{◌≡◌, refl, ap, ◌∙◌}
use lib.Dec.{T, leb, ltb, not_T, ltb→lt, lt→ltb}
use borrow.Author.Tests.{le-ltb, le-leb, lt-leb}
use lib.ListN.{length, set}
use Rattle.model.specs.Basic.{select, largest, count_from}
use Rattle.model.specs.Limits.{most_funcs}
use Rattle.theory.proofs.Lists.{mem-select, mem-count_from, length-count_from, select-cong, select-most, select-less}
use Rattle.theory.proofs.Between.{largest-cong}
use Rattle.tables.proofs.Laws.{here, elsewhere}
use Rattle.columns.specs.Columns.{shortest_column, level_column, Funcs}
use Rattle.columns.proofs.Writes.{changed-none, changed-set}
use Rattle.levels.specs.Levels.{level_among, largest_within, shortest_in, level_in, Levelled, Lifted, Inserted}

-- the functions from m on, and those behind m
behind : {m n : ℕ} → m < n → n - m ≡ suc (n - (m + 1))
behind h = omega arith

-- levels, from the last function on
module _ (d : ℕ → ℕ) (n v : ℕ) where
  pub level-none : level_among d n n v ≡ 1
  unfolding level_among select count_from
  level-none = let e : n - n ≡ 0 = omega arith in rw e

  pub level-more : (m : ℕ) → m < n → level_among d m n v ≡ (if ltb (d m) v then suc (level_among d (m + 1) n v) else level_among d (m + 1) n v)
  unfolding level_among select count_from
  level-more m h = rw (behind h, add-one m) (at (ltb (d m) v) (select (λ g. ltb (d g) v) (count_from (suc m) (n - suc m))))
    where
      at : (b : Bool) (l : List ℕ) → suc (length (if b then m ∷ l else l)) ≡ (if b then suc (suc (length l)) else suc (length l))
      at true l = refl
      at false l = refl

  pub level-turn : (m : ℕ) {g k r : ℕ} → m < n → g ≡ m + 1 → k ≡ level_among d g n v → r ≡ (if ltb (d m) v then suc k else k) → r ≡ level_among d m n v
  level-turn m h e i j = rw (level-more m h, ← e, ← i) j

  pub level-most : (m : ℕ) → level_among d m n v ≤ suc (n - m)
  unfolding level_among
  level-most m = omega (arith, select-most (λ g. ltb (d g) v) (count_from m (n - m)), length-count_from m (n - m))

  pub level-some : (m : ℕ) → 0 < level_among d m n v
  unfolding level_among
  level-some m = omega arith

-- the largest d up to a level, from the last function on
module _ (level d : ℕ → ℕ) (n k : ℕ) where
  pub within_none : largest_within level d n n k ≡ 0
  unfolding largest_within select largest count_from
  within_none = let e : n - n ≡ 0 = omega arith in rw e

  within_more : (m : ℕ) → m < n
      → largest_within level d m n k ≡ (if leb (level m) k then max (d m) (largest_within level d (m + 1) n k) else largest_within level d (m + 1) n k)
  unfolding largest_within select largest count_from
  within_more m h = rw (behind h, add-one m) (at (leb (level m) k) (select (λ g. leb (level g) k) (count_from (suc m) (n - suc m))))
    where
      at : (b : Bool) (l : List ℕ) → largest d (if b then m ∷ l else l) ≡ (if b then max (d m) (largest d l) else largest d l)
      at true l = refl
      at false l = refl

  pub within_in : (m : ℕ) {g a r : ℕ} → m < n → g ≡ m + 1 → level m ≤ k → a ≡ largest_within level d g n k → r ≡ max (d m) a
      → r ≡ largest_within level d m n k
  within_in m h e i j l = rw (within_more m h, le-leb (level m) k i, ← e, ← j) l

  pub within-out : (m : ℕ) {g a : ℕ} → m < n → g ≡ m + 1 → k < level m → a ≡ largest_within level d g n k → a ≡ largest_within level d m n k
  within-out m h e i j = rw (within_more m h, lt-leb (level m) k i, ← e) j

-- both depend on the numbers of those functions only
pub level-cong : {d e : ℕ → ℕ} (m n v : ℕ) → ((g : ℕ) → m ≤ g → g < n → d g ≡ e g) → level_among d m n v ≡ level_among e m n v
unfolding level_among
level-cong {d} {e} m n v same =
    ap (λ (l : List ℕ). suc (length l)) (select-cong (count_from m (n - m))
    (λ g i. let r = (mem-count_from m (n - m)).0 i in ap (λ (a : ℕ). ltb a v) (same g r.0 (omega (arith, r.1)))))

pub within-cong : {l d k e : ℕ → ℕ} (m n v : ℕ) → ((g : ℕ) → m ≤ g → g < n → l g ≡ k g) → ((g : ℕ) → m ≤ g → g < n → d g ≡ e g)
    → largest_within l d m n v ≡ largest_within k e m n v
unfolding largest_within
within-cong {l} {d} {k} {e} m n v levels same =
    largest-cong (select (λ g. leb (l g) v) (count_from m (n - m)))
    (λ g i. let r = (mem-count_from m (n - m)).0 ((mem-select (λ g. leb (l g) v) (count_from m (n - m))).0 i).0 in same g r.0 (omega (arith, r.1)))
    ∙ ap (largest e) (select-cong (count_from m (n - m))
    (λ g i. let r = (mem-count_from m (n - m)).0 i in ap (λ (a : ℕ). leb a v) (levels g r.0 (omega (arith, r.1)))))

-- of the functions from m on and below n: a smaller d has a lower level, and there are no more levels than functions
module _ (d : ℕ → ℕ) {m n g : ℕ} (low : m ≤ g) (high : g < n) where
  member : Memᴰ g (count_from m (n - m))
  member = (mem-count_from m (n - m)).1 (low, omega arith)

  itself : T (not (ltb (d g) (d g)))
  itself = not_T (ltb (d g) (d g)) (λ b. omega (arith, ltb→lt (d g) (d g) b))

  pub level-rises : (h : ℕ) → d g < d h → level_among d m n (d g) < level_among d m n (d h)
  unfolding level_among
  level-rises h l =
      omega (
        arith,
        select-less (λ k. ltb (d k) (d g)) (λ k. ltb (d k) (d h)) (λ k b. lt→ltb (d k) (d h) (omega (arith, ltb→lt (d k) (d g) b, l)))
            (count_from m (n - m)) member (lt→ltb (d g) (d h) l) itself,
      )

  pub level-low : level_among d m n (d g) ≤ n - m
  unfolding level_among
  level-low =
      omega (
        arith,
        select-less (λ k. ltb (d k) (d g)) (λ k. true) (λ k b. tt) (count_from m (n - m)) member tt itself,
        select-most (λ k. true) (count_from m (n - m)),
        length-count_from m (n - m),
      )

-- the loop that lifts: those below g are lifted, the others wait
pub record Lifting (m g v : ℕ) (w w' : List ℕ) : Type 0 where
  pub lifted : Lifted m g v w w'
  pub rest : (k : ℕ) → g ≤ k → level_in w' k ≡ level_in w k

pub lifting-none : (m v : ℕ) (w : List ℕ) → Lifting m m v w w
lifting-none m v w =
    record { lifted = record { changed = changed-none _ _ w; each = λ g h k. absurd (omega arith) }; rest = λ k h. refl }

pub lifting-more : (m v : ℕ) {w₀ : List ℕ} (w : List ℕ) (g : ℕ) {r : ℕ} → m ≤ g → g < most_funcs → level_column + g < length w
    → r ≡ (if ltb v (shortest_in w g) then suc (level_in w g) else level_in w g) → Lifting m g v w₀ w → Lifting m (g + 1) v w₀ (set w (level_column + g) r)
lifting-more m v {w₀} w g {r} h few room e l =
    record {
      lifted = record {
        changed = changed-set level_column most_funcs w (level_column + g) r (omega arith) (omega arith) l.lifted.changed;
        each = λ k i j.
            elim (ℕ_discrete k g) [
              | yes q ↦ rw q (here w (level_column + g) r room ∙ e ∙ own)
              | no q ↦ elsewhere w (level_column + g) (level_column + k) r (omega arith) ∙ l.lifted.each k i (omega arith)
            ];
      };
      rest = λ k i. elsewhere w (level_column + g) (level_column + k) r (omega arith) ∙ l.rest k (omega arith);
    }
  where
    own : (if ltb v (shortest_in w g) then suc (level_in w g) else level_in w g) ≡ (if ltb v (shortest_in w₀ g) then suc (level_in w₀ g) else level_in w₀ g)
    own = rw (l.lifted.changed.before (shortest_column + g) (omega arith), l.rest g (omega arith))

pub lifting-all : {m g n v : ℕ} {w w' : List ℕ} → n ≤ g → Lifting m g v w w' → Lifted m n v w w'
lifting-all h l = record { changed = l.lifted.changed; each = λ k i j. l.lifted.each k i (omega arith) }

-- function f among the functions behind it
pub inserted : (f n : ℕ) {w w' : List ℕ} {level : ℕ} → f < most_funcs → level_column + f < length w' → level ≡ level_among (shortest_in w) (f + 1) n (shortest_in w f)
    → Lifted (f + 1) n (shortest_in w f) w w' → Inserted f n w (set w' (level_column + f) level)
inserted f n {w} {w'} {level} few room e l =
    record {
      changed = changed-set level_column most_funcs w' (level_column + f) level (omega arith) (omega arith) l.changed;
      levelled = λ d own behind. record {
        each = λ g i j.
            elim (ℕ_discrete g f) [
              | yes q ↦ rw q (here w' (level_column + f) level room ∙ e ∙ first d own (rw q at j))
              | no q ↦ elsewhere w' (level_column + f) (level_column + g) level (omega arith) ∙ later d own behind g (omega arith) j
            ];
      };
    }
  where
    first : (d : ℕ → ℕ) → Funcs d shortest_column f n w → f < n → level_among (shortest_in w) (f + 1) n (shortest_in w f) ≡ level_among d f n (d f)
    first d own h =
        rw (level-more d n (d f) f h, le-ltb (d f) (d f) (omega arith), own.each f (omega arith) h)
        (level-cong (f + 1) n (d f) (λ g i j. own.each g (omega arith) j))

    later : (d : ℕ → ℕ) → Funcs d shortest_column f n w → Levelled d (f + 1) n w → (g : ℕ) → f + 1 ≤ g → g < n → level_in w' g ≡ level_among d f n (d g)
    later d own levels g i j =
        rw (level-more d n (d g) f (omega arith), l.each g i j, own.each g (omega arith) j, own.each f (omega arith) (omega arith), levels.each g i j)
